-- Which rows a JSON text gives a table, or its first fault in reading order.
use Rattle.std.specs.Prelude.{ℕ, ◌+◌, ◌==◌, ◌&&◌, Bool, true, List, [], ◌∷◌, ◌++◌, length, Option, Some, None, is_some, option_map, option_and_then, Result, Ok, Err, if◌then◌else◌}
use Rattle.std.specs.Str.{is_utf8}
use Rattle.nq_model.specs.Tables.{Columns}
use Rattle.nq_model.specs.declared.table.Cell.{Cell}
use Rattle.nq_model.specs.declared.table.Cell.TheVariants as cell
use Rattle.nq_model.specs.declared.table.ColumnType.{ColumnType}
use Rattle.nq_model.specs.declared.table.ColumnType.TheVariants as column
use Rattle.nq_model.specs.declared.table.TableShape.{TableShape}
use Rattle.row_keys.specs.Keys.{twin_of}
use Rattle.serde_json.specs.Data.{Data, Items, no_items, item, Members}
use Rattle.serde_json.specs.Find.{as_number, as_i64, as_bool, as_str, as_array, as_object, get_member}
use Rattle.serde_json.specs.Read.{read}
use Rattle.nq_json.specs.Shapes.{keys_of}
use Rattle.nq_json.specs.declared.tables.JsonTableFault.{JsonTableFault}
use Rattle.nq_json.specs.declared.tables.JsonTableFault.TheVariants as fault

-- the value of a JSON text; bytes that are no UTF-8 have none
unfoldable pub data_of : List ℕ → Option Data
data_of text = if is_utf8 text then read text else None

-- the cell that a JSON value is in a column of a type
abbrev pub cell_of : ColumnType → Data → Option Cell
cell_of column.Int d = option_map cell.Int (option_and_then as_i64 (as_number d))
cell_of column.Bool d = option_map cell.Bool (as_bool d)
cell_of column.Text d = option_map cell.Text (as_str d)

-- the cell that the member under the name of a column is
abbrev pub cell_under : List ℕ × ColumnType → Members → Option Cell
cell_under c ms = option_and_then (cell_of c.1) (get_member c.0 ms)

-- whether each column has a member under its name
abbrev pub has_columns : Columns → Members → Bool
has_columns [] ms = true
has_columns (c ∷ cs) ms = is_some (get_member c.0 ms) && has_columns cs ms

-- whether the keys are the names of the columns, of which no two are equal
abbrev pub has_names : Columns → Members → Bool
has_names columns ms = (length (keys_of ms) == length columns) && has_columns columns ms

-- what is there, or else a fault
abbrev pub or_fault : {A : Type 0} → JsonTableFault → Option A → Result A JsonTableFault
or_fault e None = Err e
or_fault e (Some a) = Ok a

-- what comes of a value, or else its fault
abbrev pub and_then : {A B : Type 0} → Result A JsonTableFault → (A → Result B JsonTableFault) → Result B JsonTableFault
and_then (Ok x) next = next x
and_then (Err e) next = Err e

-- the cell of a row under a column, where the columns are counted from 1 in the order of the schema
abbrev pub cell_at : ℕ → ℕ → List ℕ × ColumnType → Members → Result Cell JsonTableFault
cell_at row at c ms = or_fault (fault.BadCell row at) (cell_under c ms)

-- the cells of a row from a column on, or the first fault
abbrev pub cells_from : ℕ → ℕ → Columns → Members → Result (List Cell) JsonTableFault
cells_from row at [] ms = Ok []
cells_from row at (c ∷ cs) ms = and_then (cell_at row at c ms) (λ one. and_then (cells_from row (at + 1) cs ms) (λ cells. Ok (one ∷ cells)))

-- the cells of an object whose keys are the names of the columns
abbrev pub named_cells : ℕ → Columns → Members → Result (List Cell) JsonTableFault
named_cells row columns ms = if has_names columns ms then cells_from row 1 columns ms else Err (fault.BadRow row)

-- the row that a JSON value is, or its first fault: its keys, then its cells
unfoldable pub row_at : ℕ → Columns → Data → Result (List Cell) JsonTableFault
row_at row columns d = and_then (or_fault (fault.BadRow row) (as_object d)) (named_cells row columns)

-- a row whose key no earlier row has
abbrev pub unless_twin : ℕ → List Cell → Option ℕ → Result (List Cell) JsonTableFault
unless_twin number row None = Ok row
unless_twin number row (Some earlier) = Err (fault.TwiceKey number earlier)

-- the row that a JSON value is after earlier rows, or its first fault: its keys, its cells, then its key
unfoldable pub next_row : TableShape → List (List Cell) → Data → Result (List Cell) JsonTableFault
next_row shape earlier d =
    and_then (row_at (length earlier + 1) shape.columns d) (λ row. unless_twin (length earlier + 1) row (twin_of shape row earlier))

-- earlier rows and those of the elements after them, or the first fault
abbrev pub rows_after : TableShape → List (List Cell) → Items → Result (List (List Cell)) JsonTableFault
rows_after shape earlier no_items = Ok earlier
rows_after shape earlier (item d ds) = and_then (next_row shape earlier d) (λ row. rows_after shape (earlier ++ row ∷ []) ds)

-- the rows that a JSON text gives a table, or its first fault in reading order
unfoldable pub table_of : TableShape → List ℕ → Result (List (List Cell)) JsonTableFault
table_of shape text =
    and_then (or_fault fault.NotJson (data_of text)) (λ d. and_then (or_fault fault.NotArray (as_array d)) (rows_after shape []))
