-- The script that makes the tables of a schema, and fills each from the CSV file of its name.
--
-- The whole is one transaction, and ends at the first fault: there is all or nothing.
use Rattle.std.specs.Prelude.{ℕ, List, [], ◌∷◌, ◌++◌, codes}
use Rattle.std.specs.List.{flat_map}
use Rattle.nq_model.specs.Tables.{Columns}
use Rattle.nq_model.specs.declared.table.ColumnType.{ColumnType}
use Rattle.nq_model.specs.declared.table.ColumnType.TheVariants.{Int, Bool, Text}
use Rattle.nq_model.specs.declared.table.Schema.{Schema}
use Rattle.nq_model.specs.declared.table.TableShape.{TableShape}
use Rattle.database_scripts.specs.Columns.{around, columns_text, listed}
use Rattle.database_scripts.specs.declared.columns.Form.{Form}
use Rattle.database_scripts.specs.declared.columns.Form.TheVariants.{Named, Made, Staged, Read, Only}
use Rattle.database_scripts.specs.declared.database.Database.{Database}
use Rattle.database_scripts.specs.declared.database.Database.TheVariants.{Postgres, Sqlite}

abbrev pub load_head : Database → List ℕ
load_head Postgres = codes "\\set ON_ERROR_STOP on\n\\encoding UTF8\nBEGIN;\n"
load_head Sqlite = codes ".bail on\nBEGIN;\n"

-- the statement that makes a table, with a line for each column and one for the key
unfoldable pub made_text : Database → TableShape → List ℕ
made_text database shape =
    around (codes "CREATE TABLE ") shape.name (codes " (\n  ")
    ++ (columns_text (Made database) (codes ",\n  ") shape.columns
    ++ (listed (codes ",\n  PRIMARY KEY (") shape.key ++ codes "\n);\n"))

-- the name of a column of texts, before other names
abbrev pub with_text : List ℕ → ColumnType → List (List ℕ) → List (List ℕ)
with_text name Int names = names
with_text name Bool names = names
with_text name Text names = name ∷ names

abbrev pub text_names : Columns → List (List ℕ)
text_names [] = []
text_names (column ∷ columns) = with_text column.0 column.1 (text_names columns)

-- The columns in which an empty cell is the empty text, and not NULL, to PostgreSQL. The only
-- column of a table is none of them: there an empty line is no record, and NULL is refused.
abbrev pub never_null : Columns → List (List ℕ)
never_null (column ∷ []) = []
never_null columns = text_names columns

-- the line of psql that fills a table from its file
unfoldable pub copied_text : TableShape → List ℕ
copied_text shape =
    around (codes "\\copy ") shape.name (codes " (")
    ++ (columns_text Named (codes ", ") shape.columns
    ++ (codes ") FROM '" ++ (shape.name ++ (codes ".csv' WITH (FORMAT csv, HEADER true"
    ++ (listed (codes ", FORCE_NOT_NULL (") (never_null shape.columns) ++ codes ")\n")))))

-- The cells of the file as texts, in a table of a name that no table of a schema has, since there
-- are spaces in it. It takes NULL, so that a row with too few cells is refused by the insertion,
-- which stops the script, and not by the import, which goes on.
unfoldable pub staged_text : TableShape → List ℕ
staged_text shape =
    codes "CREATE TABLE \"cells of csv\" ("
    ++ (columns_text Staged (codes ", ") shape.columns
    ++ (codes ");\n.import --csv --skip 1 " ++ (shape.name ++ codes ".csv \"cells of csv\"\n")))

-- how the cells of a table's columns are read
abbrev pub read_form : Columns → Form
read_form (column ∷ []) = Only
read_form columns = Read

-- these cells put into the table
unfoldable pub inserted_text : TableShape → List ℕ
inserted_text shape =
    around (codes "INSERT INTO ") shape.name (codes " (")
    ++ (columns_text Named (codes ", ") shape.columns ++ (codes ") SELECT "
    ++ (columns_text (read_form shape.columns) (codes ", ") shape.columns
    ++ codes " FROM \"cells of csv\";\nDROP TABLE \"cells of csv\";\n")))

abbrev pub filled_text : Database → TableShape → List ℕ
filled_text Postgres shape = copied_text shape
filled_text Sqlite shape = staged_text shape ++ inserted_text shape

abbrev pub table_text : Database → TableShape → List ℕ
table_text database shape = made_text database shape ++ filled_text database shape

abbrev pub tables_text : Database → List TableShape → List ℕ
tables_text database shapes = flat_map (table_text database) shapes

unfoldable pub load_text : Database → Schema → List ℕ
load_text database schema =
    load_head database ++ (tables_text database schema.tables ++ codes "COMMIT;\n")
