use Rattle.std.proofs.Common.{◌≡◌, ◌+◌, drop}
use Rattle.std.specs.List.{prefix_len}
use Rattle.nq_model.specs.QueryTokens.{is_digit}
use Rattle.lexical.proofs.bytes.digits_len.Given as goal

abbrev pub invariant-loop-i : goal.invariant-loop-i
invariant-loop-i l = l.i + prefix_len is_digit (drop l.i l.bytes) ≡ prefix_len is_digit l.bytes
