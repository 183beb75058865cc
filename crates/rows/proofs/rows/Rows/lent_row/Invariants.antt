use Rattle.std.proofs.Common.{◌≡◌, [], map, take, slice_index_or}
use Rattle.nq_model.specs.CellRefs.{cell_seen}
use Rattle.rows.proofs.rows.Rows.lent_row.Given as goal

abbrev pub invariant-loop-column : goal.invariant-loop-column
invariant-loop-column l = map cell_seen l.lent.items ≡ take l.column (slice_index_or l.self l.row [])
