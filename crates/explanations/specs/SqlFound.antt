-- What was found where a rule of scope is broken, as it is shown.
use Rattle.std.specs.Prelude.{ℕ, Bool, true, false, if◌then◌else◌, List, [], ◌++◌}
use Rattle.std.specs.Prelude.{map, codes}
use Rattle.nq_model.specs.SchemaTexts.{type_word}
use Rattle.nq_model.specs.declared.table.ColumnType.{ColumnType}
use Rattle.sql_scope.specs.declared.found.Found.{Found}
use Rattle.sql_scope.specs.declared.found.Found.TheVariants as there
use Rattle.explanations.specs.Explanations.{found_line}
use Rattle.explanations.specs.Lists.{listed}
use Rattle.explanations.specs.SqlColumns.{columns_text}

-- the words of types
abbrev pub type_words : List ColumnType → List (List ℕ)
type_words types = map type_word types

-- the types of a row
abbrev pub row_text : List ColumnType → List ℕ
row_text types = codes "(" ++ (listed (codes ", ") (type_words types) ++ codes ")")

-- the rule asks for no type, or the source has no column
abbrev pub is_nothing : Found → Bool
is_nothing (there.Types []) = true
is_nothing (there.Columns []) = true
is_nothing found = false

-- the types of an expression's parts, the columns of a source, or the types of two rows
abbrev pub sql_found_text : Found → List ℕ
sql_found_text (there.Types types) = listed (codes " and ") (type_words types)
sql_found_text (there.Columns columns) = columns_text columns
sql_found_text (there.Rows first others) = row_text first ++ (codes " and " ++ row_text others)

-- the line of it, unless nothing was found
unfoldable pub sql_found_line : Found → List ℕ
sql_found_line found = if is_nothing found then [] else found_line (sql_found_text found)
