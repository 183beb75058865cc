-- Cells of a column that stand by their kinds, and rows that stand column by column.
use Rattle.std.specs.Prelude.{◌≤◌, ◌≡◌, ◌++◌, ℕ, zero, suc, ℤ, pos, Bool, List, [], ◌∷◌, All, length, map, slice_index_or}
use Rattle.nq_model.specs.declared.table.Cell.{Cell}
use Rattle.nq_model.specs.declared.table.Cell.TheVariants as cell

-- the cells of a column: first its integers, then its truth values, its texts, and cells of any kind
abbrev pub column_of : List ℤ → List Bool → List (List ℕ) → List Cell → List Cell
column_of integers truths texts rest = map cell.Int integers ++ (map cell.Bool truths ++ (map cell.Text texts ++ rest))

-- the row at a place: the cell of each column at that place
abbrev pub row_over : List (List Cell) → ℕ → List Cell
row_over columns at = map (λ (column : List Cell). slice_index_or column at (cell.Int (pos 0))) columns

-- the first rows over columns
abbrev pub rows_over : List (List Cell) → ℕ → List (List Cell)
rows_over columns zero = []
rows_over columns (suc count) = rows_over columns count ++ row_over columns count ∷ []

-- each column has a cell for each of the first rows
abbrev pub HaveRows : List (List Cell) → ℕ → Type 0
HaveRows columns count = All (λ (column : List Cell). count ≤ length column) columns

-- each column ends behind the first rows
abbrev pub EndBehind : List (List Cell) → ℕ → Type 0
EndBehind columns count = All (λ (column : List Cell). length column ≡ count) columns

-- columns with one more cell each, as far as there are cells
abbrev pub widened : List (List Cell) → List Cell → List (List Cell)
widened [] cells = []
widened (column ∷ columns) [] = column ∷ columns
widened (column ∷ columns) (cell ∷ cells) = (column ++ cell ∷ []) ∷ widened columns cells
