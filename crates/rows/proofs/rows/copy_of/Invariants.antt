use Rattle.std.proofs.Common.{◌≡◌, map, take}
use Rattle.nq_model.specs.CellRefs.{cell_seen}
use Rattle.rows.proofs.rows.copy_of.Given as goal

abbrev pub invariant-loop-cell : goal.invariant-loop-cell
invariant-loop-cell l = l.copy ≡ map cell_seen (take l.cell-index l.row)
