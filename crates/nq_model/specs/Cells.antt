-- Cells: the values of base types, their types, equality and order.
use Rattle.std.specs.Prelude.{◌≡◌, Bool, true, false, not, List, map}
use Rattle.std.specs.Str.{bytes_eq}
use Rattle.std.specs.declared.cmp.Ordering.{Ordering}
use Rattle.std.specs.declared.cmp.Ordering.TheVariants.{Less, Greater}
use Rattle.std.specs.Ordering.{nat_cmp, int_cmp, int_eq, bool_cmp}
use Rattle.std.specs.Cmp.Lexicographic.{slice_cmp}
use Rattle.nq_model.specs.declared.table.Cell.{Cell}
use Rattle.nq_model.specs.declared.table.Cell.TheVariants.{Int, Bool as Truth, Text}
use Rattle.nq_model.specs.declared.table.ColumnType.{ColumnType}
use Rattle.nq_model.specs.declared.table.ColumnType.TheVariants as column

-- the type of the columns in which a cell may stand
abbrev pub column_type_of : Cell → ColumnType
column_type_of (Int n) = column.Int
column_type_of (Truth b) = column.Bool
column_type_of (Text t) = column.Text

-- a row has a cell of each column's type, and no more
abbrev pub RowFits : List ColumnType → List Cell → Type 0
RowFits types row = map column_type_of row ≡ types

abbrev pub bool_eq : Bool → Bool → Bool
bool_eq true b = b
bool_eq false b = not b

-- whether two cells are one
abbrev pub cell_eq : Cell → Cell → Bool
cell_eq (Int a) (Int b) = int_eq a b
cell_eq (Truth a) (Truth b) = bool_eq a b
cell_eq (Text a) (Text b) = bytes_eq a b
cell_eq _ _ = false

-- truth values with FALSE first, integers by value, texts by bytes; and these kinds in this order
abbrev pub cell_cmp : Cell → Cell → Ordering
cell_cmp (Truth a) (Truth b) = bool_cmp a b
cell_cmp (Truth a) (Int n) = Less
cell_cmp (Truth a) (Text t) = Less
cell_cmp (Int m) (Truth b) = Greater
cell_cmp (Int m) (Int n) = int_cmp m n
cell_cmp (Int m) (Text t) = Less
cell_cmp (Text s) (Truth b) = Greater
cell_cmp (Text s) (Int n) = Greater
cell_cmp (Text s) (Text t) = slice_cmp nat_cmp s t
