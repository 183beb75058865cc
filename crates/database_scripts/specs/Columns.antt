-- How lists of names and of columns are written in scripts.
use Rattle.std.specs.Prelude.{ℕ, suc, List, [], ◌∷◌, ◌++◌, codes}
use Rattle.nq_model.specs.Tables.{Columns}
use Rattle.nq_model.specs.declared.table.ColumnType.{ColumnType}
use Rattle.nq_model.specs.declared.table.ColumnType.TheVariants.{Int, Bool, Text}
use Rattle.query_json.specs.Names.{column_name}
use Rattle.sql_profile.specs.Printed.{quoted}
use Rattle.database_scripts.specs.declared.columns.Form.{Form}
use Rattle.database_scripts.specs.declared.columns.Form.TheVariants.{Bare, Named, Made, Staged, Read, Only, Written}
use Rattle.database_scripts.specs.declared.database.Database.{Database}
use Rattle.database_scripts.specs.declared.database.Database.TheVariants.{Postgres, Sqlite}

-- each name behind a comma
abbrev pub more_names : List (List ℕ) → List ℕ
more_names [] = []
more_names (name ∷ names) = codes ", " ++ (quoted name ++ more_names names)

-- what names are listed for, the names in double quotes with commas between them, and `)`; nothing
-- where there is no name
unfoldable pub listed : List ℕ → List (List ℕ) → List ℕ
listed head [] = []
listed head (name ∷ names) = head ++ (quoted name ++ (more_names names ++ codes ")"))

-- a name in double quotes, with texts around it
abbrev pub around : List ℕ → List ℕ → List ℕ → List ℕ
around before name behind = before ++ (quoted name ++ behind)

-- What a column of a table is, so that the texts mean on it what they mean to nq: integers of 64
-- bits, texts that compare by their bytes, truth values (1 and 0 in SQLite), and no NULL. SQLite
-- keeps a cell of another type as it came, so there a condition refuses it. For NULL it would put a
-- number of its own into an INTEGER that is the key; INT is the same but for that.
abbrev pub constraint : Database → List ℕ → ColumnType → List ℕ
constraint Postgres name Int = codes " bigint NOT NULL"
constraint Postgres name Bool = codes " boolean NOT NULL"
constraint Postgres name Text = codes " text COLLATE \"C\" NOT NULL"
constraint Sqlite name Int =
    around (codes " INT NOT NULL CHECK (typeof(") name (codes ") = 'integer')")
constraint Sqlite name Bool = around (codes " INT NOT NULL CHECK (") name (codes " IN (0, 1))")
constraint Sqlite name Text =
    around (codes " TEXT NOT NULL CHECK (typeof(") name (codes ") = 'text')")

-- A cell of a table in SQLite, from the text of a cell of CSV: a truth value from the four words
-- that spell one, and from every other text NULL, which the table refuses.
abbrev pub read_cell : List ℕ → ColumnType → List ℕ
read_cell name Int = quoted name
read_cell name Text = quoted name
read_cell name Bool =
    around (codes "CASE ") name
    (codes " WHEN 'true' THEN 1 WHEN 't' THEN 1 WHEN 'false' THEN 0 WHEN 'f' THEN 0 END")

-- The cell of a table of one column. An empty line is no record to nq, but sqlite3 takes it for an
-- empty text, so there the empty text becomes NULL too, which the table refuses.
abbrev pub only_cell : List ℕ → ColumnType → List ℕ
only_cell name Int = read_cell name Int
only_cell name Bool = read_cell name Bool
only_cell name Text = around (codes "NULLIF(") name (codes ", '')")

-- A cell of CSV, from a cell of an answer in SQLite: what is neither 1 nor 0 is no truth value,
-- and becomes the empty cell, which no reader takes for one.
abbrev pub written_cell : List ℕ → ColumnType → List ℕ
written_cell name Int = quoted name
written_cell name Text = quoted name
written_cell name Bool =
    around (codes "CASE ") name (codes " WHEN 1 THEN 'true' WHEN 0 THEN 'false' END")

-- a column in a form
abbrev pub column_text : Form → List ℕ → ColumnType → List ℕ
column_text Bare name type = name
column_text Named name type = quoted name
column_text (Made database) name type = quoted name ++ constraint database name type
column_text Staged name type = quoted name ++ codes " TEXT"
column_text Read name type = read_cell name type
column_text Only name type = only_cell name type
column_text Written name type = written_cell name type

-- each column behind a sign
abbrev pub more_columns : Form → List ℕ → Columns → List ℕ
more_columns form sign [] = []
more_columns form sign (column ∷ columns) =
    sign ++ (column_text form column.0 column.1 ++ more_columns form sign columns)

-- columns in a form, with a sign between them
unfoldable pub columns_text : Form → List ℕ → Columns → List ℕ
columns_text form sign [] = []
columns_text form sign (column ∷ columns) =
    column_text form column.0 column.1 ++ more_columns form sign columns

-- the columns of an answer from a place on: "ot", "on", "c1", "c2" and so on, with their types
abbrev pub columns_from : ℕ → List ColumnType → Columns
columns_from place [] = []
columns_from place (type ∷ types) = (column_name place, type) ∷ columns_from (suc place) types
