use Rattle.std.proofs.Common.{◌≡◌, [], map, take, slice_index_or}
use Rattle.nq_model.specs.CellRefs.{cell_seen}
use Rattle.lineage_compile.proofs.numbers.numbered_row.Given as goal

abbrev pub invariant-loop-column : goal.invariant-loop-column
invariant-loop-column l =
    map cell_seen l.lent.items ≡ take l.column (slice_index_or l.rows l.row [])
