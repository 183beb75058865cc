-- Worked examples: traced meanings of terms and of their normal forms, worked out by hand and
-- checked by computing them.
use Rattle.std.proofs.Common.{◌≡◌, List, [], ◌∷◌, map, refl, codes, pos, ℕ}
use Rattle.std.specs.Int.{int_wrap}
use Rattle.nq_ir.specs.Meanings.{rows_in}
use Rattle.nq_ir.specs.NormalForms.{normal_form}
use Rattle.nq_model.specs.Databases.{FilledTable, database}
use Rattle.nq_model.specs.Terms.{TermTree, TermFields, Emptiness, Count, Sum}
use Rattle.nq_model.specs.Types.{TypeTree}
use Rattle.nq_model.specs.Values.{Nested, base, bag_of, rec_of}
use Rattle.nq_model.specs.declared.table.Cell.{Cell}
use Rattle.nq_model.specs.declared.table.Cell.TheVariants.{Int, Text}
use Rattle.nq_model.specs.declared.table.ColumnType.TheVariants as column
use Rattle.nq_model.specs.declared.table.TableShape.{TableShape}
use Rattle.nq_model.specs.declared.term.Binary.TheVariants.{Eq}
use Rattle.traced_meaning.specs.NumberedTables.{numbered_shape, numbered_tables}
use Rattle.traced_meaning.specs.TracedForms.{traced_meaning}
use Rattle.traced_meaning.specs.TracedValues.{RowName, element_of, rows_value}
use Rattle.traced_meaning.specs.Traces.{trace}

abbrev pub shapes : List TableShape
shapes = record {
  name = codes "departments";
  columns = (codes "name", column.Text) ∷ [];
  key = [];
} ∷ record {
  name = codes "employees";
  columns = (codes "dept", column.Text)
      ∷ (codes "name", column.Text) ∷ (codes "salary", column.Int) ∷ [];
  key = [];
} ∷ record {
  name = codes "tasks";
  columns = (codes "employee", column.Text)
      ∷ (codes "task", column.Text) ∷ [];
  key = [];
} ∷ []

abbrev pub rows : List (List (List Cell))
rows = ((Text (codes "Product") ∷ []) ∷ (Text (codes "Quality") ∷ [])
    ∷ (Text (codes "Research") ∷ []) ∷ (Text (codes "Sales") ∷ []) ∷ [])
    ∷ ((Text (codes "Product") ∷ Text (codes "Alex") ∷ Int (pos 20000) ∷ [])
    ∷ (Text (codes "Product") ∷ Text (codes "Bert") ∷ Int (pos 900) ∷ [])
    ∷ (Text (codes "Sales") ∷ Text (codes "Erik") ∷ Int (pos 2000000) ∷ []) ∷ [])
    ∷ ((Text (codes "Alex") ∷ Text (codes "build") ∷ [])
    ∷ (Text (codes "Bert") ∷ Text (codes "build") ∷ []) ∷
    (Text (codes "Erik") ∷ Text (codes "call") ∷ []) ∷ (Text (codes "Erik") ∷ Text (codes "enthuse")
    ∷ []) ∷ []) ∷ []

abbrev pub tables : List FilledTable
tables = database shapes rows

abbrev pub departments : TermTree
departments = TermTree.table (codes "departments")

abbrev pub employees : TermTree
employees = TermTree.table (codes "employees")

abbrev pub tasks : TermTree
tasks = TermTree.table (codes "tasks")

-- a column of a variable's row
abbrev pub at : ℕ → List ℕ → TermTree
at k l = TermTree.field (TermTree.var k) l

-- the employees of the innermost department
abbrev pub own_employees : TermTree → TermTree
own_employees body = TermTree.for employees (TermTree.guard
    (TermTree.binary Eq (at 0 (codes "dept")) (at 1 (codes "name"))) (TermTree.single body))

abbrev pub named : List ℕ → ℕ → RowName
named table n = (table, pos n)

abbrev pub element : Nested → List RowName → Nested
element v names = element_of v (rows_value names)

abbrev pub number : ℕ → Nested
number n = base (Int (pos n))

abbrev pub word : List ℕ → Nested
word t = base (Text t)

-- `[1] ++ (for (x <- table tasks) [1])`: a constant has no rows, and equal values stay apart by
-- theirs
abbrev pub one_and_tasks : TermTree
one_and_tasks = TermTree.union (TermTree.single (TermTree.int (pos 1)))
    (TermTree.for tasks (TermTree.single (TermTree.int (pos 1))))

abbrev pub ones : Nested
ones = bag_of (element (number 1) [] ∷ element (number 1) (named (codes "tasks") 1 ∷ [])
    ∷ element (number 1) (named (codes "tasks") 2 ∷ []) ∷ element (number 1)
    (named (codes "tasks") 3 ∷ []) ∷ element (number 1) (named (codes "tasks") 4 ∷ []) ∷ [])

pub one_and_tasks_trace : trace tables [] one_and_tasks ≡ ones
one_and_tasks_trace = refl

-- its normal form has the same elements, here in the same order
pub one_and_tasks_form : traced_meaning
    (rows_in (database (map numbered_shape shapes) (numbered_tables rows)))
    (normal_form shapes TypeTree.int one_and_tasks) ≡ ones
one_and_tasks_form = refl

-- `for (d <- table departments) for (e <- table employees) where (e.dept == d.name) [e.name]`: the
-- outer row first
pub join_trace : trace tables [] (TermTree.for departments (own_employees (at 0 (codes "name"))))
    ≡ bag_of (element (word (codes "Alex")) (named (codes "departments") 1
    ∷ named (codes "employees") 1 ∷ []) ∷ element (word (codes "Bert"))
    (named (codes "departments") 1 ∷ named (codes "employees") 2 ∷ [])
    ∷ element (word (codes "Erik")) (named (codes "departments") 4 ∷ named (codes "employees") 3
    ∷ []) ∷ [])
join_trace = refl

-- an inner bag's elements have their own rows alone, not those of the element around
abbrev pub staffed : List ℕ → List Nested → ℕ → Nested
staffed name es n = element (rec_of ((codes "d", word name) ∷ (codes "es", bag_of es) ∷ []))
    (named (codes "departments") n ∷ [])

pub nested_trace : trace tables [] (TermTree.for departments
    (TermTree.single (TermTree.rec (TermFields.with_field (codes "d") (at 0 (codes "name"))
    (TermFields.with_field (codes "es") (own_employees (at 0 (codes "name"))) TermFields.none)))))
    ≡ bag_of (staffed (codes "Product") (element (word (codes "Alex"))
    (named (codes "employees") 1 ∷ []) ∷ element (word (codes "Bert"))
    (named (codes "employees") 2 ∷ []) ∷ []) 1 ∷ staffed (codes "Quality") [] 2
    ∷ staffed (codes "Research") [] 3 ∷ staffed (codes "Sales")
    (element (word (codes "Erik")) (named (codes "employees") 3 ∷ []) ∷ []) 4 ∷ [])
nested_trace = refl

-- the source of a `for` may be any bag: the rows of its elements come first
pub source_trace : trace tables []
    (TermTree.for (TermTree.for departments (own_employees (at 0 (codes "name"))))
    (TermTree.for tasks (TermTree.guard (TermTree.binary Eq (at 0 (codes "employee"))
    (TermTree.var 1)) (TermTree.single (at 0 (codes "task"))))))
    ≡ bag_of (element (word (codes "build")) (named (codes "departments") 1
    ∷ named (codes "employees") 1 ∷ named (codes "tasks") 1 ∷ [])
    ∷ element (word (codes "build")) (named (codes "departments") 1
    ∷ named (codes "employees") 2 ∷ named (codes "tasks") 2 ∷ [])
    ∷ element (word (codes "call")) (named (codes "departments") 4 ∷ named (codes "employees") 3
    ∷ named (codes "tasks") 3 ∷ []) ∷ element (word (codes "enthuse"))
    (named (codes "departments") 4 ∷ named (codes "employees") 3 ∷ named (codes "tasks") 4 ∷ [])
    ∷ [])
source_trace = refl

-- a test, a count and a sum are of the values, and leave no name of theirs
pub count_trace : trace tables [] (TermTree.for departments
    (TermTree.single (TermTree.aggregate Count (own_employees (at 0 (codes "name"))))))
    ≡ bag_of (element (number 2) (named (codes "departments") 1 ∷ [])
    ∷ element (number 0) (named (codes "departments") 2 ∷ [])
    ∷ element (number 0) (named (codes "departments") 3 ∷ [])
    ∷ element (number 1) (named (codes "departments") 4 ∷ []) ∷ [])
unfolding int_wrap
count_trace = refl

pub sum_trace : trace tables []
    (TermTree.single (TermTree.aggregate Sum (TermTree.for employees
    (TermTree.single (at 0 (codes "salary")))))) ≡ bag_of (element (number 2020900) [] ∷ [])
unfolding int_wrap
sum_trace = refl

pub empty_trace : trace tables [] (TermTree.for departments
    (TermTree.guard (TermTree.aggregate Emptiness (own_employees (at 0 (codes "name"))))
    (TermTree.single (at 0 (codes "name")))))
    ≡ bag_of (element (word (codes "Quality")) (named (codes "departments") 2 ∷ [])
    ∷ element (word (codes "Research")) (named (codes "departments") 3 ∷ []) ∷ [])
empty_trace = refl

-- `table departments`: each row with its own name
pub table_trace : trace tables [] departments
    ≡ bag_of (element (rec_of ((codes "name", word (codes "Product")) ∷ []))
    (named (codes "departments") 1 ∷ []) ∷ element (rec_of
    ((codes "name", word (codes "Quality")) ∷ [])) (named (codes "departments") 2 ∷ [])
    ∷ element (rec_of ((codes "name", word (codes "Research")) ∷ []))
    (named (codes "departments") 3 ∷ []) ∷ element (rec_of
    ((codes "name", word (codes "Sales")) ∷ [])) (named (codes "departments") 4 ∷ []) ∷ [])
table_trace = refl
