use Rattle.std.proofs.Common.{◌≡◌, map, take}
use Rattle.nq_model.specs.CellRefs.{cell_seen}
use Rattle.rows.proofs.rows.Rows.push.Given as goal

abbrev pub invariant-loop-cell : goal.invariant-loop-cell
invariant-loop-cell l = map cell_seen l.lent.items ≡ take l.cell-index l.row
