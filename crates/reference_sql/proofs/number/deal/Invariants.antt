use Rattle.std.proofs.Common.{take}
use Rattle.nq_model.specs.Numberings.{Numbers, key_lt}
use Rattle.reference_sql.proofs.number.deal.Given as goal

abbrev pub invariant-loop-i : goal.invariant-loop-i
invariant-loop-i l = Numbers key_lt (take l.i l.keys) l.numbers
