use Rattle.std.proofs.Common.{◌≡◌, drop}
use Rattle.std.specs.Cmp.Lexicographic.{slice_cmp}
use Rattle.nq_model.specs.Cells.{cell_cmp}
use Rattle.rows.specs.Places.{row_at}
use Rattle.row_order.specs.Keys.{key_of}
use Rattle.row_order.proofs.keys.compare_columns.Given as goal

abbrev pub invariant-loop-column : goal.invariant-loop-column
invariant-loop-column l =
    slice_cmp cell_cmp (key_of (drop l.column-index l.columns) (row_at l.rows l.left)) (key_of (drop l.column-index l.columns) (row_at l.rows l.right))
    ≡ slice_cmp cell_cmp (key_of l.columns (row_at l.rows l.left)) (key_of l.columns (row_at l.rows l.right))
