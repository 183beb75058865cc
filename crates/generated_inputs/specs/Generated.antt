-- What is worked out from a size: a schema, a nested query over it with its type, and the rows of each table.
use Rattle.std.specs.Prelude.{◌+◌, ◌*◌, ◌/◌, ◌%◌, ℕ, zero, suc, pos, List, [], ◌∷◌, ◌++◌, codes}
use Rattle.std.specs.Fmt.{decimal}
use Rattle.nq_model.specs.Tables.{Columns}
use Rattle.nq_model.specs.Terms.{PlacedTerm, PlacedNode, at, placed_fields_of}
use Rattle.nq_model.specs.Types.{TypeTree, bag, rec, text, field_types_of}
use Rattle.nq_model.specs.declared.table.Cell.{Cell}
use Rattle.nq_model.specs.declared.table.Cell.TheVariants as cell
use Rattle.nq_model.specs.declared.table.ColumnType.TheVariants as column_type
use Rattle.nq_model.specs.declared.table.Schema.{Schema}
use Rattle.nq_model.specs.declared.table.TableShape.{TableShape}
use Rattle.nq_model.specs.declared.term.Binary.TheVariants.{Eq}
use Rattle.sql_profile.specs.Servers.{held_of}
use Rattle.sql_profile.specs.declared.server.Loaded.{Loaded}

-- a table of these columns, without a key
abbrev pub keyless : List ℕ → Columns → TableShape
keyless name columns = record { name = name; columns = columns; key = [] }

-- departments (name: text)
abbrev pub departments_shape : TableShape
departments_shape = keyless (codes "departments") ((codes "name", column_type.Text) ∷ [])

-- employees (dept: text, name: text, salary: int)
abbrev pub employees_shape : TableShape
employees_shape =
    keyless (codes "employees") ((codes "dept", column_type.Text) ∷ (codes "name", column_type.Text) ∷ (codes "salary", column_type.Int) ∷ [])

-- tasks (employee: text, task: text)
abbrev pub tasks_shape : TableShape
tasks_shape = keyless (codes "tasks") ((codes "employee", column_type.Text) ∷ (codes "task", column_type.Text) ∷ [])

unfoldable pub generated_schema : Schema
generated_schema = record { tables = departments_shape ∷ employees_shape ∷ tasks_shape ∷ [] }

-- a node of a term that stands in no text
abbrev pub unplaced : PlacedNode → PlacedTerm
unplaced node = at 0 node

-- the variable of the binder so many binders outwards
abbrev pub variable : ℕ → PlacedTerm
variable binder = unplaced (PlacedNode.var binder)

-- row.label
abbrev pub column : ℕ → List ℕ → PlacedTerm
column row label = unplaced (PlacedNode.field (variable row) label)

-- for (row <- table name) body
abbrev pub over : List ℕ → PlacedTerm → PlacedTerm
over name body = unplaced (PlacedNode.for (unplaced (PlacedNode.table name)) body)

-- [element]
abbrev pub single : PlacedTerm → PlacedTerm
single element = unplaced (PlacedNode.single element)

-- where (left == right) [element]
abbrev pub where_equal : PlacedTerm → PlacedTerm → PlacedTerm → PlacedTerm
where_equal left right element = unplaced (PlacedNode.guard (unplaced (PlacedNode.binary Eq left right)) (single element))

-- (label = term, ..)
abbrev pub record_of : List (List ℕ × PlacedTerm) → PlacedTerm
record_of fields = unplaced (PlacedNode.rec (placed_fields_of fields))

-- fun (e: text) -> for (t <- table tasks) where (t.employee == e) [t.task]
abbrev pub tasks_function : PlacedTerm
tasks_function =
    unplaced (PlacedNode.fun text (over (codes "tasks") (where_equal (column 0 (codes "employee")) (variable 1) (column 0 (codes "task")))))

-- (name = e.name, tasks = tasksOf(e.name)), where tasksOf is the third binder outwards
abbrev pub employee_element : PlacedTerm
employee_element =
    record_of ((codes "name", column 0 (codes "name"))
    ∷ (codes "tasks", unplaced (PlacedNode.apply (variable 2) (column 0 (codes "name")))) ∷ [])

-- (department = d.name, employees = for (e <- table employees) where (e.dept == d.name) [..])
abbrev pub department_element : PlacedTerm
department_element =
    record_of ((codes "department", column 0 (codes "name"))
    ∷ (codes "employees", over (codes "employees") (where_equal (column 0 (codes "dept")) (column 1 (codes "name")) employee_element)) ∷ [])

-- let tasksOf = ..; for (d <- table departments) [..]: each department with its employees, and each of those with their tasks
unfoldable pub generated_query : PlacedTerm
generated_query = unplaced (PlacedNode.bind tasks_function (over (codes "departments") (single department_element)))

-- [(department: text, employees: [(name: text, tasks: [text])])]
unfoldable pub generated_type : TypeTree
generated_type =
    bag (rec (field_types_of ((codes "department", text)
    ∷ (codes "employees", bag (rec (field_types_of ((codes "name", text) ∷ (codes "tasks", bag text) ∷ [])))) ∷ [])))

-- a text cell: a letter and a number
abbrev pub numbered : List ℕ → ℕ → Cell
numbered letter number = cell.Text (letter ++ decimal number)

-- how many names the departments share: half as many as there are departments, rounded up, so that names stand twice
abbrev pub department_names : ℕ → ℕ
department_names size = (size + 1) / 2

-- the rows of a number
abbrev pub department_row : ℕ → ℕ → List Cell
department_row size row = numbered (codes "d") (row % department_names size) ∷ []

abbrev pub employee_row : ℕ → ℕ → List Cell
employee_row size row =
    numbered (codes "d") (row % department_names size) ∷ numbered (codes "e") (row % size) ∷ cell.Int (pos (37 * row % 101)) ∷ []

abbrev pub task_row : ℕ → ℕ → List Cell
task_row size row = numbered (codes "e") (row % size) ∷ numbered (codes "t") (row % 5) ∷ []

-- the rows of the numbers below a count, in order
abbrev pub rows_below : (ℕ → List Cell) → ℕ → List (List Cell)
rows_below row zero = []
rows_below row (suc count) = rows_below row count ++ row count ∷ []

-- the rows of each table: as many departments as the size says, three times as many employees, and four times as many tasks
unfoldable pub generated_rows : ℕ → List (List (List Cell))
generated_rows size =
    rows_below (department_row size) size ∷ rows_below (employee_row size) (3 * size) ∷ rows_below (task_row size) (4 * size) ∷ []

-- the tables as a server is loaded with them
unfoldable pub generated_tables : ℕ → List Loaded
generated_tables size = held_of generated_schema.tables (generated_rows size)
