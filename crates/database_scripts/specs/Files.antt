-- How the file of an answer is named, so that the program which reads the script takes the name
-- for nothing else.
use Rattle.std.specs.Prelude.{ℕ, List, [], ◌∷◌, ◌++◌, ◌==◌, if◌then◌else◌, codes}
use Rattle.std.specs.Fmt.{decimal}
use Rattle.std.specs.List.{flat_map}
use Rattle.database_scripts.specs.declared.database.Database.{Database}
use Rattle.database_scripts.specs.declared.database.Database.TheVariants.{Postgres, Sqlite}

-- the quote that stands around a name of a file: single in psql, double in sqlite3
abbrev pub mark : Database → ℕ
mark Postgres = 39
mark Sqlite = 34

-- a byte within quotes: a line feed as `\n`, and `\` before a `\` and before the quote
abbrev pub quoted_byte : ℕ → ℕ → List ℕ
quoted_byte quote byte =
    if byte == 10 then codes "\\n" else
    if byte == 92 then codes "\\\\" else
    if byte == quote then codes "\\" ++ byte ∷ [] else byte ∷ []

-- before a folder that does not begin with `/`, so that none is taken for a pipe, a home or an
-- option
abbrev pub here : List ℕ → List ℕ
here [] = codes "./"
here (byte ∷ bytes) = if byte == 47 then [] else codes "./"

-- the file of the answer with this number
unfoldable pub file_text : Database → List ℕ → ℕ → List ℕ
file_text database folder number =
    mark database ∷ (here folder ++ (flat_map (quoted_byte (mark database)) folder
    ++ (codes "/" ++ (decimal number ++ (codes ".csv" ++ mark database ∷ [])))))
