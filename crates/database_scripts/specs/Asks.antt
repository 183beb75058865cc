-- The script that asks the texts of a query, all in one snapshot, and writes the answer to the k-th
-- to the file k.csv of a folder, in the form that `stitch` reads.
use Rattle.std.specs.Prelude.{ℕ, suc, List, [], ◌∷◌, ◌++◌, codes}
use Rattle.nq_model.specs.Tables.{Columns}
use Rattle.nq_model.specs.Types.{TypeTree}
use Rattle.nq_ir.specs.Paths.{paths}
use Rattle.nq_ir.specs.declared.path.Step.{Step}
use Rattle.shred_types.specs.Columns.{columns_at}
use Rattle.database_scripts.specs.Columns.{columns_from, columns_text}
use Rattle.database_scripts.specs.Files.{file_text}
use Rattle.database_scripts.specs.declared.columns.Form.TheVariants.{Bare, Written}
use Rattle.database_scripts.specs.declared.database.Database.{Database}
use Rattle.database_scripts.specs.declared.database.Database.TheVariants.{Postgres, Sqlite}

-- SQLite is told how answers are written, whatever the user's own settings are.
abbrev pub ask_head : Database → List ℕ
ask_head Postgres =
    codes "\\set ON_ERROR_STOP on\n\\encoding UTF8\n"
    ++ codes "BEGIN ISOLATION LEVEL REPEATABLE READ READ ONLY;\n"
ask_head Sqlite = codes ".bail on\n.headers off\n.mode csv\n.separator , \"\\n\"\nBEGIN;\n"

abbrev pub ask_end : Database → List ℕ
ask_end Postgres = codes "COMMIT;\n"
ask_end Sqlite = codes "COMMIT;\n.output\n"

-- asks PostgreSQL a text
unfoldable pub copied_text : List ℕ → ℕ → List ℕ → List ℕ
copied_text folder number text =
    codes "COPY (" ++ (text ++ (codes ") TO STDOUT WITH (FORMAT csv, HEADER true) \\g "
    ++ (file_text Postgres folder number ++ codes "\n")))

-- Asks SQLite a text, whose answer has these columns. The program sqlite3 writes no header where
-- there is no row, so it is written first.
unfoldable pub selected_text : List ℕ → ℕ → Columns → List ℕ → List ℕ
selected_text folder number columns text =
    codes ".output " ++ (file_text Sqlite folder number ++ (codes "\n.print "
    ++ (columns_text Bare (codes ",") columns ++ (codes "\nSELECT "
    ++ (columns_text Written (codes ", ") columns
    ++ (codes " FROM (" ++ (text ++ codes ");\n")))))))

abbrev pub asked_text : Database → List ℕ → ℕ → Columns → List ℕ → List ℕ
asked_text Postgres folder number columns text = copied_text folder number text
asked_text Sqlite folder number columns text = selected_text folder number columns text

-- asks the texts at paths of a type, from a number on
abbrev pub asked_texts : Database → List ℕ → TypeTree → ℕ → List (List Step) → List (List ℕ)
    → List ℕ
asked_texts database folder type number [] texts = []
asked_texts database folder type number (path ∷ paths) [] = []
asked_texts database folder type number (path ∷ paths) (text ∷ texts) =
    asked_text database folder number (columns_from 0 (columns_at type path)) text
    ++ asked_texts database folder type (suc number) paths texts

unfoldable pub ask_text : Database → List ℕ → TypeTree → List (List ℕ) → List ℕ
ask_text database folder type texts =
    ask_head database ++ (asked_texts database folder type 1 (paths type) texts
    ++ ask_end database)
