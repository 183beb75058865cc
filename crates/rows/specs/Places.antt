-- Rows at places, counted from 0.
use Rattle.std.specs.Prelude.{ℕ, List, [], map, slice_index_or}
use Rattle.nq_model.specs.declared.table.Cell.{Cell}

-- the row at a place, and none past the last
abbrev pub row_at : List (List Cell) → ℕ → List Cell
row_at rows place = slice_index_or rows place []

-- the rows at these places, in their order
abbrev pub rows_at : List (List Cell) → List ℕ → List (List Cell)
rows_at rows places = map (row_at rows) places
