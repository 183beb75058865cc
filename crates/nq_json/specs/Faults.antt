-- When a JSON text gives a table rows, and when it has a fault, in the words of tables.
use Rattle.std.specs.Prelude.{◌≡◌, ◌≤◌, ◌-◌, ℕ, true, List, [], ◌∷◌, take, Some, None, slice_get}
use Rattle.std.specs.List.{AllZip}
use Rattle.nq_model.specs.SchemaTables.{KeysDiffer}
use Rattle.nq_model.specs.Tables.{Columns}
use Rattle.nq_model.specs.declared.table.Cell.{Cell}
use Rattle.nq_model.specs.declared.table.ColumnType.{ColumnType}
use Rattle.nq_model.specs.declared.table.TableShape.{TableShape}
use Rattle.row_keys.specs.Keys.{IsFirstTwin}
use Rattle.serde_json.specs.Data.{Data, Items, no_items, item, Members}
use Rattle.serde_json.specs.Find.{as_array, as_object}
use Rattle.nq_json.specs.Tables.{data_of, cell_under, has_names}
use Rattle.nq_json.specs.declared.tables.JsonTableFault.{JsonTableFault}
use Rattle.nq_json.specs.declared.tables.JsonTableFault.TheVariants as fault

abbrev pub elements : Items → List Data
elements no_items = []
elements (item d ds) = d ∷ elements ds

-- a JSON value is an object whose keys are the names of the columns
pub record IsNamed (columns : Columns) (d : Data) (ms : Members) : Type 0 where
  pub is : as_object d ≡ Some ms
  pub named : has_names columns ms ≡ true

-- the member under the name of a column is this cell
abbrev pub IsCell : Members → List ℕ × ColumnType → Cell → Type 0
IsCell ms c one = cell_under c ms ≡ Some one

-- a JSON value is a row with these cells, in the order of the columns
pub record IsRow (columns : Columns) (d : Data) (cells : List Cell) : Type 0 where
  pub members : Members
  pub named : IsNamed columns d members
  pub cells_are : AllZip (IsCell members) columns cells

-- each JSON value is a row, and no two rows have equal key cells
pub record GivesRows (shape : TableShape) (ds : List Data) (rows : List (List Cell)) : Type 0 where
  pub rows_are : AllZip (IsRow shape.columns) ds rows
  pub keys_differ : KeysDiffer shape rows

-- the JSON values before one give rows, and it is wrong; they are counted from 1
pub record IsFirstFault (shape : TableShape) (ds : List Data) (row : ℕ) (Wrong : List (List Cell) → Data → Type 0) : Type 0 where
  pub counted : 1 ≤ row
  pub rows : List (List Cell)
  pub before : GivesRows shape (take (row - 1) ds) rows
  pub d : Data
  pub here : slice_get ds (row - 1) ≡ Some d
  pub wrong : Wrong rows d

-- a JSON value has the names of the columns; the members under those before a column are cells, and that under it is none
pub record IsFirstBadCell (columns : Columns) (d : Data) (at : ℕ) : Type 0 where
  pub members : Members
  pub named : IsNamed columns d members
  pub counted : 1 ≤ at
  pub cells : List Cell
  pub before : AllZip (IsCell members) (take (at - 1) columns) cells
  pub c : List ℕ × ColumnType
  pub here : slice_get columns (at - 1) ≡ Some c
  pub wrong : cell_under c members ≡ None

-- a text is an array of elements of which something holds
pub record OfArray (text : List ℕ) (Holds : List Data → Type 0) : Type 0 where
  pub d : Data
  pub read : data_of text ≡ Some d
  pub items : Items
  pub is : as_array d ≡ Some items
  pub holds : Holds (elements items)

-- a fault, and where it is the first of a text
abbrev pub HasFault : TableShape → List ℕ → JsonTableFault → Type 0
HasFault shape text fault.Memory = ⊥
HasFault shape text fault.NotJson = data_of text ≡ None
HasFault shape text fault.NotArray = (d : Data) × (data_of text ≡ Some d) × (as_array d ≡ None)
HasFault shape text (fault.BadRow row) = OfArray text (λ ds. IsFirstFault shape ds row (λ rows d. (ms : Members) → IsNamed shape.columns d ms → ⊥))
HasFault shape text (fault.BadCell row at) = OfArray text (λ ds. IsFirstFault shape ds row (λ rows d. IsFirstBadCell shape.columns d at))
HasFault shape text (fault.TwiceKey row earlier) =
    OfArray text (λ ds. IsFirstFault shape ds row (λ rows d. (cells : List Cell) × IsRow shape.columns d cells × IsFirstTwin shape rows cells earlier))
