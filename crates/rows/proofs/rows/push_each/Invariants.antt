use Rattle.std.proofs.Common.{◌≡◌, map, take}
use Rattle.nq_model.specs.CellRefs.{cell_seen}
use Rattle.rows.specs.Columns.{widened}
use Rattle.rows.proofs.rows.push_each.Given as goal

abbrev pub invariant-loop-at : goal.invariant-loop-at
invariant-loop-at l = l.columns.items ≡ widened l.initial.columns.items (take l.at (map cell_seen l.row))
