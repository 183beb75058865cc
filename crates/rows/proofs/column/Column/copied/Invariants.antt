use Rattle.std.proofs.Common.{◌≡◌, take}
use Rattle.rows.proofs.column.Column.copied.Given as goal

abbrev pub invariant-loop-at : goal.invariant-loop-at
invariant-loop-at l = l.cells ≡ take l.at l.self
