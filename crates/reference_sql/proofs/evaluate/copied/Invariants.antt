use Rattle.std.proofs.Common.{◌≡◌, take}
use Rattle.reference_sql.proofs.evaluate.copied.Given as goal

abbrev pub invariant-loop-row : goal.invariant-loop-row
invariant-loop-row l = l.copy ≡ take l.row l.rows
