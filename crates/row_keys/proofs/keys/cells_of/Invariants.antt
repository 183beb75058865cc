use Rattle.std.proofs.Common.{◌≡◌, [], map, take, slice_index_or}
use Rattle.nq_model.specs.CellRefs.{cell_seen}
use Rattle.row_keys.proofs.keys.cells_of.Given as goal

abbrev pub invariant-loop-column : goal.invariant-loop-column
invariant-loop-column l = map cell_seen l.cells.items ≡ take l.column (slice_index_or l.rows l.row [])
