-- The text of rows: how many they are, and a line for each, in the order of their cells from the
-- left.
use Rattle.std.specs.Prelude.{ℕ, zero, suc, List, [], ◌++◌, codes, decimal, length, map}
use Rattle.std.specs.List.{flat_map, join_with_byte}
use Rattle.std.specs.Cmp.Lexicographic.{slice_cmp}
use Rattle.std.specs.declared.cmp.Ordering.{Ordering}
use Rattle.nq_model.specs.Canonical.{cell_text}
use Rattle.nq_model.specs.Cells.{cell_cmp}
use Rattle.nq_model.specs.Orders.{sorted_by}
use Rattle.nq_model.specs.declared.table.Cell.{Cell}

-- rows are compared by the first cell that differs, a prefix before the longer
abbrev pub row_cmp : List Cell → List Cell → Ordering
row_cmp = slice_cmp cell_cmp

-- the rows in order, each as often as before
abbrev pub sorted_rows : List (List Cell) → List (List Cell)
sorted_rows rows = sorted_by row_cmp rows

-- the canonical texts of a row's cells, with `|` (124) between them, and a newline
abbrev pub row_line : List Cell → List ℕ
row_line row = join_with_byte 124 (map cell_text row) ++ codes "\n"

-- what stands before the cell at a place
abbrev pub bar : ℕ → List ℕ
bar zero = []
bar (suc place) = codes "|"

-- `rows K`, and a line for each row, in order
unfoldable pub rows_text : List (List Cell) → List ℕ
rows_text rows = codes "rows " ++ (decimal (length rows)
    ++ (codes "\n" ++ flat_map row_line (sorted_rows rows)))
