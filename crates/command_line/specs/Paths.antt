-- What `show paths` writes of a type: a line for each path, with the columns of its answer.
use Rattle.std.specs.Prelude.{ℕ, List, [], ◌∷◌, ◌++◌, codes}
use Rattle.nq_model.specs.SchemaTexts.{type_word}
use Rattle.nq_model.specs.Types.{TypeTree}
use Rattle.nq_model.specs.declared.table.ColumnType.{ColumnType}
use Rattle.nq_ir.specs.Paths.{paths, element_at}
use Rattle.nq_ir.specs.declared.path.Step.{Step}
use Rattle.nq_ir.specs.declared.path.Step.TheVariants.{Down, Field}
use Rattle.shred_types.specs.Columns.{element_columns}

-- to the elements of a bag, or to a field of a record
abbrev pub step_text : Step → List ℕ
step_text Down = codes "[]"
step_text (Field label) = codes "." ++ label

abbrev pub steps_text : List Step → List ℕ
steps_text [] = []
steps_text (step ∷ steps) = step_text step ++ steps_text steps

abbrev pub path_text : List Step → List ℕ
path_text path = codes "/" ++ steps_text path

-- each column's type behind a space
abbrev pub columns_text : List ColumnType → List ℕ
columns_text [] = []
columns_text (type ∷ types) = codes " " ++ (type_word type ++ columns_text types)

-- the path, the two columns of the outer index, and those of the element
abbrev pub path_line : TypeTree → List Step → List ℕ
path_line type path =
    path_text path ++ (codes ": int int |"
    ++ (columns_text (element_columns (element_at type path)) ++ codes "\n"))

abbrev pub path_lines : TypeTree → List (List Step) → List ℕ
path_lines type [] = []
path_lines type (path ∷ more) = path_line type path ++ path_lines type more

-- the lines of all paths of a type, in path order
unfoldable pub paths_text : TypeTree → List ℕ
paths_text type = path_lines type (paths type)
