-- Filled tables, as queries and servers see them, and what `table t` means over them.
use Rattle.std.specs.Prelude.{ℕ, List, [], ◌∷◌, find, Option, Some, None}
use Rattle.std.specs.Str.{bytes_eq}
use Rattle.nq_model.specs.Tables.{Columns, table_value}
use Rattle.nq_model.specs.Values.{Nested, bag_of}
use Rattle.nq_model.specs.declared.table.Cell.{Cell}
use Rattle.nq_model.specs.declared.table.TableShape.{TableShape}

-- a table with its rows, each with its cells in the order of the columns
pub record FilledTable : Type 0 where
  pub name : List ℕ
  pub columns : Columns
  pub rows : List (List Cell)

-- the rows of a table under its shape
abbrev pub filled : TableShape → List (List Cell) → FilledTable
filled shape rows = record { name = shape.name; columns = shape.columns; rows = rows }

-- the tables of a schema, given by the rows of each, one to each shape
abbrev pub database : List TableShape → List (List (List Cell)) → List FilledTable
database [] tables = []
database (shape ∷ shapes) [] = []
database (shape ∷ shapes) (rows ∷ tables) = filled shape rows ∷ database shapes tables

abbrev pub rows_value : Option FilledTable → Nested
rows_value None = bag_of []
rows_value (Some table) = table_value table.columns table.rows

-- what `table t` means: the bag of the rows of t as records; a table that is not there has no row
abbrev pub table_meaning : List FilledTable → List ℕ → Nested
table_meaning tables name = rows_value (find (λ table. bytes_eq table.name name) tables)
