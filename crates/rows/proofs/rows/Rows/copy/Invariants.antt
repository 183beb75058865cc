use Rattle.std.proofs.Common.{◌≡◌, take}
use Rattle.rows.proofs.rows.Rows.copy.Given as goal

abbrev pub invariant-loop-row : goal.invariant-loop-row
invariant-loop-row l = l.copy ≡ take l.row l.self
