-- Tables that a server is loaded with, each row with its number.
use Rattle.std.specs.Prelude.{◌<◌, ◌^◌, List, [], ◌∷◌, ◌++◌, All, length, map}
use Rattle.nq_model.specs.Tables.{Columns}
use Rattle.nq_model.specs.declared.table.ColumnType.TheVariants as column_type
use Rattle.sql_profile.specs.declared.server.Loaded.{Loaded}
use Rattle.traced_meaning.specs.NumberedTables.{number_column, numbered_rows}

-- columns with that of numbers behind them
abbrev pub numbered_columns : Columns → Columns
numbered_columns columns = columns ++ (number_column, column_type.Int) ∷ []

-- a table with that column, in which each row has its number, from 1
abbrev pub numbered_table : Loaded → Loaded
numbered_table table = record {
  name = table.name;
  columns = numbered_columns table.columns;
  rows = numbered_rows table.rows;
}

-- the same of tables
abbrev pub with_numbers : List Loaded → List Loaded
with_numbers tables = map numbered_table tables

-- each of the tables has fewer rows than there are numbers
abbrev pub HaveFewRows : List Loaded → Type 0
HaveFewRows tables = All (λ (table : Loaded). length table.rows < 2 ^ 63) tables
