use Rattle.std.proofs.Common.{◌≡◌, ◌≤◌, drop}
use Rattle.nq_model.specs.QueryTokens.{value_from}
use Rattle.lexical.proofs.digits.value_of.Given as goal

abbrev pub invariant-loop-digit : goal.invariant-loop-digit
invariant-loop-digit l = (l.value ≤ 9223372036854775807) × (value_from l.value (drop l.digit-index l.digits) ≡ value_from 0 l.digits)
