-- Schemas and tables with a last column more, in which each row has its number.
use Rattle.std.specs.Prelude.{◌≢◌, ℕ, suc, pos, List, [], ◌∷◌, ◌++◌, map, All, codes}
use Rattle.nq_model.specs.NamedRows.{Label}
use Rattle.nq_model.specs.declared.table.Cell.{Cell}
use Rattle.nq_model.specs.declared.table.Cell.TheVariants as cell
use Rattle.nq_model.specs.declared.table.ColumnType.TheVariants as column_type
use Rattle.nq_model.specs.declared.table.Schema.{Schema}
use Rattle.nq_model.specs.declared.table.TableShape.{TableShape}

-- the name of the column in which a row has its number
abbrev pub number_column : Label
number_column = codes "#"

-- no column of the schema has that name
abbrev pub HasNoNumbers : Schema → Type 0
HasNoNumbers schema =
    All (λ (shape : TableShape). All (λ column. column.0 ≢ number_column) shape.columns)
    schema.tables

-- the shape with the column of numbers behind its own, and with its key
abbrev pub numbered_shape : TableShape → TableShape
numbered_shape shape = record {
  name = shape.name;
  columns = shape.columns ++ (number_column, column_type.Int) ∷ [];
  key = shape.key;
}

abbrev pub numbered_schema : Schema → Schema
numbered_schema schema = record { tables = map numbered_shape schema.tables }

-- each row with its number behind its cells, from this number on
abbrev pub numbered_from : ℕ → List (List Cell) → List (List Cell)
numbered_from n [] = []
numbered_from n (row ∷ rows) = (row ++ cell.Int (pos n) ∷ []) ∷ numbered_from (suc n) rows

-- the rows of a table with their numbers, and the tables with theirs
abbrev pub numbered_rows : List (List Cell) → List (List Cell)
numbered_rows rows = numbered_from 1 rows

abbrev pub numbered_tables : List (List (List Cell)) → List (List (List Cell))
numbered_tables tables = map numbered_rows tables
