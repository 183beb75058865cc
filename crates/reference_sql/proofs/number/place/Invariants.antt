use Rattle.std.proofs.Common.{zip}
use Rattle.reference_sql.proofs.Dealing.{SoFar}
use Rattle.reference_sql.proofs.number.place.Given as goal

abbrev pub invariant-loop-i : goal.invariant-loop-i
invariant-loop-i l = SoFar (zip l.numbers l.keys) l.key l.i l.place
