use Rattle.std.proofs.Common.{◌≡◌, ◌+◌, drop, false, option_map}
use Rattle.nq_model.specs.QueryTokens.{literal_len}
use Rattle.lexical.proofs.literal.literal_len.Given as goal

abbrev pub invariant-loop-i : goal.invariant-loop-i
invariant-loop-i l = option_map (λ n. l.i + n) (literal_len l.after_quote (drop l.i l.bytes)) ≡ literal_len false l.bytes
