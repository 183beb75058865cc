-- When a table text gives rows, and when it has a fault, in the words of tables.
use Rattle.std.specs.Prelude.{◌≡◌, ◌≢◌, ◌≤◌, ◌-◌, ℕ, true, false, List, length, zip, take, drop, Some, None, slice_get}
use Rattle.std.specs.List.{AllZip}
use Rattle.std.specs.Str.{is_utf8}
use Rattle.nq_model.specs.SchemaTables.{KeysDiffer}
use Rattle.nq_model.specs.Tables.{names_of, types_of}
use Rattle.nq_model.specs.declared.table.Cell.{Cell}
use Rattle.nq_model.specs.declared.table.ColumnType.{ColumnType}
use Rattle.nq_model.specs.declared.table.ColumnType.TheVariants as column
use Rattle.nq_model.specs.declared.table.TableShape.{TableShape}
use Rattle.row_keys.specs.Keys.{IsFirstTwin}
use Rattle.table_reader.specs.declared.TableFault.{TableFault}
use Rattle.table_reader.specs.declared.TableFault.TheVariants as fault
use Rattle.table_reader.specs.Records.{Record}
use Rattle.table_reader.specs.Spelling.{int_of, bool_of, cell_of}

-- a field, beside the type of its column, is UTF-8 and spells this cell
abbrev pub Spells : ColumnType × List ℕ → Cell → Type 0
Spells p c = (is_utf8 p.1 ≡ true) × (cell_of p.0 p.1 ≡ Some c)

-- a record has as many fields as there are columns, and they spell these cells
pub record SpellsRow (types : List ColumnType) (fields : Record) (cells : List Cell) : Type 0 where
  pub width : length fields ≡ length types
  pub spelled : AllZip Spells (zip types fields) cells

-- the first record is the column names, each further one spells a row, and no two rows have equal key cells
pub record GivesRows (shape : TableShape) (records : List Record) (rows : List (List Cell)) : Type 0 where
  pub header : slice_get records 0 ≡ Some (names_of shape.columns)
  pub spelled : AllZip (SpellsRow (types_of shape.columns)) (drop 1 records) rows
  pub keys_differ : KeysDiffer shape rows

-- the records before that of a row give rows, and after them it is wrong
pub record IsFirstFault (shape : TableShape) (records : List Record) (row : ℕ) (Wrong : List (List Cell) → Record → Type 0) : Type 0 where
  pub counted : 1 ≤ row
  pub rows : List (List Cell)
  pub before : GivesRows shape (take row records) rows
  pub fields : Record
  pub here : slice_get records row ≡ Some fields
  pub wrong : Wrong rows fields

-- a record has as many fields as there are columns, those before a column spell cells, and that under it is wrong
pub record IsFirstBadCell (types : List ColumnType) (fields : Record) (at : ℕ) (Wrong : ColumnType → List ℕ → Type 0) : Type 0 where
  pub width : length fields ≡ length types
  pub counted : 1 ≤ at
  pub cells : List Cell
  pub before : AllZip Spells (take (at - 1) (zip types fields)) cells
  pub type : ColumnType
  pub field : List ℕ
  pub here : slice_get (zip types fields) (at - 1) ≡ Some (type, field)
  pub wrong : Wrong type field

-- the cell at a row and a column is the first fault of a text
abbrev pub HasBadCell : TableShape → List Record → ℕ → ℕ → (ColumnType → List ℕ → Type 0) → Type 0
HasBadCell shape records row at Wrong = IsFirstFault shape records row (λ rows fields. IsFirstBadCell (types_of shape.columns) fields at Wrong)

-- a fault, and where it is the first of a text
abbrev pub HasFault : TableShape → List Record → TableFault → Type 0
HasFault shape records fault.Memory = ⊥
HasFault shape records fault.Header = slice_get records 0 ≢ Some (names_of shape.columns)
HasFault shape records (fault.Width row) = IsFirstFault shape records row (λ rows fields. length fields ≢ length (types_of shape.columns))
HasFault shape records (fault.NotUtf8 row at) = HasBadCell shape records row at (λ type field. is_utf8 field ≡ false)
HasFault shape records (fault.BadInt row at) = HasBadCell shape records row at (λ type field. (type ≡ column.Int) × (is_utf8 field ≡ true) × (int_of field ≡ None))
HasFault shape records (fault.BadBool row at) = HasBadCell shape records row at (λ type field. (type ≡ column.Bool) × (is_utf8 field ≡ true) × (bool_of field ≡ None))
HasFault shape records (fault.TwiceKey row earlier) =
    IsFirstFault shape records row (λ rows fields. (cells : List Cell) × SpellsRow (types_of shape.columns) fields cells × IsFirstTwin shape rows cells earlier)
