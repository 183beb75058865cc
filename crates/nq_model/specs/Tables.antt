-- Proper schemas, and what a table means: the bag of its rows as records.
use Rattle.std.specs.Prelude.{ℕ, ◌<◌, ◌≤◌, List, map, zip, length, Contains, All}
use Rattle.nq_model.specs.Orders.{by_label, AreDistinct}
use Rattle.nq_model.specs.Types.{TypeTree, int, bool, text, rec, bag, field_types_of}
use Rattle.nq_model.specs.Values.{Nested, base, bag_of, rec_of}
use Rattle.nq_model.specs.declared.table.Cell.{Cell}
use Rattle.nq_model.specs.declared.table.ColumnType.{ColumnType}
use Rattle.nq_model.specs.declared.table.ColumnType.TheVariants as column
use Rattle.nq_model.specs.declared.table.TableShape.{TableShape}
use Rattle.nq_model.specs.declared.table.Schema.{Schema}

-- the columns of a table, each with its type
abbrev pub Columns : Type 0
Columns = List (List ℕ × ColumnType)

abbrev pub names_of : Columns → List (List ℕ)
names_of columns = map (λ column. column.0) columns

abbrev pub types_of : Columns → List ColumnType
types_of columns = map (λ column. column.1) columns

-- a name has 1 to 64 bytes, no double quote and no dot
pub record IsProperName (name : List ℕ) : Type 0 where
  pub some_byte : 0 < length name
  pub short : length name ≤ 64
  pub no_quote : Contains name 34 → ⊥
  pub no_dot : Contains name 46 → ⊥

-- the columns differ in name, and the key lists different columns of the table
pub record IsProperShape (shape : TableShape) : Type 0 where
  pub named : IsProperName shape.name
  pub columns_named : All IsProperName (names_of shape.columns)
  pub columns_differ : AreDistinct (names_of shape.columns)
  pub key_of_columns : All (Contains (names_of shape.columns)) shape.key
  pub key_differs : AreDistinct shape.key

-- the tables differ in name, and each is proper
pub record IsProperSchema (schema : Schema) : Type 0 where
  pub tables_differ : AreDistinct (map (λ shape. shape.name) schema.tables)
  pub proper : All IsProperShape schema.tables

abbrev pub base_type : ColumnType → TypeTree
base_type column.Int = int
base_type column.Bool = bool
base_type column.Text = text

-- the type of a table: a bag of the record of its columns
abbrev pub table_type : Columns → TypeTree
table_type columns = bag (rec (field_types_of (by_label (map (λ column. (column.0, base_type column.1)) columns))))

-- a row as a record, its labels in byte order
abbrev pub row_record : List (List ℕ) → List Cell → Nested
row_record names row = rec_of (by_label (zip names (map base row)))

-- the meaning of a table: the bag of its rows as records, in row order
abbrev pub table_value : Columns → List (List Cell) → Nested
table_value columns rows = bag_of (map (row_record (names_of columns)) rows)
