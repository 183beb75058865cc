-- Keys of rows: their cells under some columns.
use Rattle.std.specs.Prelude.{ℕ, List, map, slice_index_or}
use Rattle.nq_model.specs.NamedRows.{no_cell}
use Rattle.nq_model.specs.declared.table.Cell.{Cell}
use Rattle.rows.specs.Places.{row_at}

-- the cell of a row under a column
abbrev pub cell_at : ℕ → List Cell → Cell
cell_at column row = slice_index_or row column no_cell

-- the key of a row: its cells under these columns, in the order of the columns
abbrev pub key_of : List ℕ → List Cell → List Cell
key_of columns row = map (λ column. cell_at column row) columns

-- the keys of the rows at these places
abbrev pub keys_at : List (List Cell) → List ℕ → List ℕ → List (List Cell)
keys_at rows columns places = map (λ place. key_of columns (row_at rows place)) places
