-- The columns of an SQL text, as they are shown.
use Rattle.std.specs.Prelude.{ℕ, List, [], ◌∷◌, ◌++◌, map, codes, zip}
use Rattle.std.specs.Borrow.{Bor}
use Rattle.nq_model.specs.SchemaTexts.{type_word}
use Rattle.nq_model.specs.declared.table.ColumnType.{ColumnType}
use Rattle.sql_profile.specs.AllowedAnswers.{query_names}
use Rattle.sql_profile.specs.Trees.{SqlTree}

-- the names of the items of the first SELECT of the main query
abbrev pub result_names : SqlTree → List (List ℕ)
result_names tree = query_names tree.main

-- columns as the program has them
abbrev pub columns_view : List (Bor (List ℕ) × ColumnType) → List (List ℕ × ColumnType)
columns_view columns = map (λ column. (column.0.now, column.1)) columns

-- a name in double quotes, and its type
abbrev pub column_text : List ℕ × ColumnType → List ℕ
column_text column = codes "\"" ++ (column.0 ++ (codes "\": " ++ type_word column.1))

-- columns behind others
abbrev pub columns_behind : List (List ℕ × ColumnType) → List ℕ
columns_behind [] = []
columns_behind (column ∷ columns) =
    codes ", " ++ (column_text column ++ columns_behind columns)

-- columns with a comma and a space between
abbrev pub columns_text : List (List ℕ × ColumnType) → List ℕ
columns_text [] = []
columns_text (column ∷ columns) = column_text column ++ columns_behind columns

-- the line of the names and their types, in order
unfoldable pub columns_line : List (List ℕ) → List ColumnType → List ℕ
columns_line names types = columns_text (zip names types) ++ codes "\n"
