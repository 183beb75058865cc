-- Worked examples: what forms mean over tables, and the rows of their shredded forms, checked by computing them.
use Rattle.std.proofs.Common.{◌≡◌, [], ◌∷◌, refl, codes, pos, ℕ, List, map}
use Rattle.nq_model.specs.Canonical.{canonical_text}
use Rattle.nq_model.specs.Databases.{FilledTable}
use Rattle.nq_model.specs.Types.{TypeTree, FieldTypes}
use Rattle.nq_model.specs.declared.table.Cell.{Cell}
use Rattle.nq_model.specs.declared.table.Cell.TheVariants as cell
use Rattle.nq_model.specs.declared.table.ColumnType.TheVariants as column
use Rattle.nq_model.specs.declared.term.Binary.TheVariants.{Eq}
use Rattle.nq_ir.specs.declared.base.Gen.{Gen}
use Rattle.nq_ir.specs.declared.path.Step.{Step}
use Rattle.nq_ir.specs.declared.path.Step.TheVariants.{Down, Field}
use Rattle.nq_ir.specs.Meanings.{Tables, rows_in, form_meaning}
use Rattle.nq_ir.specs.NormalForms.{normal_form}
use Rattle.nq_ir.specs.Spots.{spot_cells, strands_at, shredded_rows}
use Rattle.nq_ir.specs.Trees.{BaseTree, no_cond, and_cond, plain_body, rec_body, bag_body, no_body, with_body, no_comp, comp, FormTree}
use Rattle.nq_ir.proofs.Worked.{org, three_levels, names_query, sides_query, department, person}

abbrev pub word : List ℕ → Cell
word t = cell.Text t

abbrev pub number : ℕ → Cell
number n = cell.Int (pos n)

abbrev pub departments : List (List Cell) → FilledTable
departments rows = record { name = codes "departments"; columns = (codes "name", column.Text) ∷ []; rows = rows }

abbrev pub employees : List (List Cell) → FilledTable
employees rows = record { name = codes "employees"; columns = (codes "dept", column.Text) ∷ (codes "name", column.Text) ∷ (codes "salary", column.Int) ∷ []; rows = rows }

abbrev pub tasks : List (List Cell) → FilledTable
tasks rows = record { name = codes "tasks"; columns = (codes "employee", column.Text) ∷ (codes "task", column.Text) ∷ []; rows = rows }

-- the rows of the three employees
abbrev pub alex : List Cell
alex = word (codes "Product") ∷ word (codes "Alex") ∷ number 20000 ∷ []

abbrev pub bert : List Cell
bert = word (codes "Product") ∷ word (codes "Bert") ∷ number 900 ∷ []

abbrev pub erik : List Cell
erik = word (codes "Sales") ∷ word (codes "Erik") ∷ number 2000000 ∷ []

abbrev pub four_departments : Tables
four_departments =
    rows_in (departments ((word (codes "Product") ∷ []) ∷ (word (codes "Quality") ∷ []) ∷ (word (codes "Research") ∷ []) ∷ (word (codes "Sales") ∷ []) ∷ []) ∷ employees (alex ∷ bert ∷ erik ∷ []) ∷ tasks ((word (codes "Alex") ∷ word (codes "build") ∷ []) ∷ (word (codes "Bert") ∷ word (codes "build") ∷ []) ∷ (word (codes "Erik") ∷ word (codes "call") ∷ []) ∷ (word (codes "Erik") ∷ word (codes "enthuse") ∷ []) ∷ []) ∷ [])

abbrev pub generator : ℕ → List ℕ → Gen
generator n t = record { number = n; table = t }

abbrev pub col : ℕ → List ℕ → BaseTree
col g l = BaseTree.column g l

abbrev pub equal : BaseTree → BaseTree → BaseTree
equal a b = BaseTree.binary Eq a b

-- a row of a shredded form by the tag and the cells of its spot, and the tag and the cells of the child
abbrev pub rows_at : Tables → FormTree → List Step → List (ℕ × List (List Cell) × ℕ × List (List Cell))
rows_at ts form p =
    map (λ r. (r.0.tag, spot_cells r.0.rows, r.1.of.tag, spot_cells r.1.rows)) (shredded_rows ts (strands_at form.element form.comps p))

-- each department with its employees and their tasks, written out as a form
abbrev pub with_staff : FormTree
with_staff = record {
  element = department;
  comps = comp 1 (generator 1 (codes "departments") ∷ []) no_cond (rec_body (with_body (codes "department") (plain_body (col 1 (codes "name"))) (with_body (codes "employees") (bag_body person (comp 2 (generator 2 (codes "employees") ∷ []) (and_cond (equal (col 2 (codes "dept")) (col 1 (codes "name"))) no_cond) (rec_body (with_body (codes "name") (plain_body (col 2 (codes "name"))) (with_body (codes "tasks") (bag_body TypeTree.text (comp 3 (generator 3 (codes "tasks") ∷ []) (and_cond (equal (col 3 (codes "employee")) (col 2 (codes "name"))) no_cond) (plain_body (col 3 (codes "task"))) no_comp)) no_body))) no_comp)) no_body))) no_comp;
}

-- it is the normal form of the query that asks for this
pub with_staff_is_normal : normal_form org department three_levels ≡ with_staff
with_staff_is_normal = refl

-- four departments, of which two have nobody: their bags are empty
abbrev pub staff_text : List ℕ
staff_text = codes "{(department = 'Product', employees = {(name = 'Alex', tasks = {'build'}), (name = 'Bert', tasks = {'build'})}), (department = 'Quality', employees = {}), (department = 'Research', employees = {}), (department = 'Sales', employees = {(name = 'Erik', tasks = {'call', 'enthuse'})})}\n"

pub with_staff_mean : canonical_text (form_meaning four_departments with_staff) ≡ staff_text
with_staff_mean = refl

-- so the normal form of that query means the same
pub three_levels_mean : canonical_text (form_meaning four_departments (normal_form org department three_levels)) ≡ staff_text
three_levels_mean = refl

-- the rows of the departments, each below the top
pub staff_rows : rows_at four_departments with_staff []
    ≡ (0, [], 1, (word (codes "Product") ∷ []) ∷ [])
    ∷ (0, [], 1, (word (codes "Quality") ∷ []) ∷ [])
    ∷ (0, [], 1, (word (codes "Research") ∷ []) ∷ [])
    ∷ (0, [], 1, (word (codes "Sales") ∷ []) ∷ [])
    ∷ []
staff_rows = refl

-- the rows of the employees, each below its department; a department that has nobody has no row here
pub employee_rows : rows_at four_departments with_staff (Down ∷ Field (codes "employees") ∷ [])
    ≡ (1, (word (codes "Product") ∷ []) ∷ [], 2, (word (codes "Product") ∷ []) ∷ alex ∷ [])
    ∷ (1, (word (codes "Product") ∷ []) ∷ [], 2, (word (codes "Product") ∷ []) ∷ bert ∷ [])
    ∷ (1, (word (codes "Sales") ∷ []) ∷ [], 2, (word (codes "Sales") ∷ []) ∷ erik ∷ [])
    ∷ []
employee_rows = refl

-- the rows of the tasks, each below its employee, whose department stands before
pub task_rows : rows_at four_departments with_staff (Down ∷ Field (codes "employees") ∷ Down ∷ Field (codes "tasks") ∷ [])
    ≡ (2, (word (codes "Product") ∷ []) ∷ alex ∷ [], 3, (word (codes "Product") ∷ []) ∷ alex ∷ (word (codes "Alex") ∷ word (codes "build") ∷ []) ∷ [])
    ∷ (2, (word (codes "Product") ∷ []) ∷ bert ∷ [], 3, (word (codes "Product") ∷ []) ∷ bert ∷ (word (codes "Bert") ∷ word (codes "build") ∷ []) ∷ [])
    ∷ (2, (word (codes "Sales") ∷ []) ∷ erik ∷ [], 3, (word (codes "Sales") ∷ []) ∷ erik ∷ (word (codes "Erik") ∷ word (codes "call") ∷ []) ∷ [])
    ∷ (2, (word (codes "Sales") ∷ []) ∷ erik ∷ [], 3, (word (codes "Sales") ∷ []) ∷ erik ∷ (word (codes "Erik") ∷ word (codes "enthuse") ∷ []) ∷ [])
    ∷ []
task_rows = refl

-- the names of the employees of each department, with an element of its own where the names of departments are equal
abbrev pub with_names : FormTree
with_names = record {
  element = TypeTree.rec (FieldTypes.field (codes "d") TypeTree.text (FieldTypes.field (codes "es") (TypeTree.bag TypeTree.text) FieldTypes.none));
  comps = comp 1 (generator 1 (codes "departments") ∷ []) no_cond (rec_body (with_body (codes "d") (plain_body (col 1 (codes "name"))) (with_body (codes "es") (bag_body TypeTree.text (comp 2 (generator 2 (codes "employees") ∷ []) (and_cond (equal (col 2 (codes "dept")) (col 1 (codes "name"))) no_cond) (plain_body (col 2 (codes "name"))) no_comp)) no_body))) no_comp;
}

-- it is the normal form of the query that asks for this
pub with_names_is_normal : normal_form org with_names.element names_query ≡ with_names
with_names_is_normal = refl

abbrev pub equal_departments : Tables
equal_departments =
    rows_in (departments ((word (codes "Product") ∷ []) ∷ (word (codes "Product") ∷ []) ∷ []) ∷ employees ((word (codes "Product") ∷ word (codes "Alex") ∷ number 1 ∷ []) ∷ (word (codes "Product") ∷ word (codes "Bert") ∷ number 2 ∷ []) ∷ []) ∷ [])

abbrev pub names_text : List ℕ
names_text = codes "{(d = 'Product', es = {'Alex', 'Bert'}), (d = 'Product', es = {'Alex', 'Bert'})}\n"

pub equal_rows_count_twice : canonical_text (form_meaning equal_departments with_names) ≡ names_text
equal_rows_count_twice = refl

-- the rows of the departments: two that are equal are two rows
pub rows_at_the_top : rows_at equal_departments with_names [] ≡ (0, [], 1, (word (codes "Product") ∷ []) ∷ []) ∷ (0, [], 1, (word (codes "Product") ∷ []) ∷ []) ∷ []
rows_at_the_top = refl

-- the rows of the names: each of the two departments has both employees, so each row comes twice
pub rows_below : rows_at equal_departments with_names (Down ∷ Field (codes "es") ∷ [])
    ≡ (1, (word (codes "Product") ∷ []) ∷ [], 2, (word (codes "Product") ∷ []) ∷ (word (codes "Product") ∷ word (codes "Alex") ∷ number 1 ∷ []) ∷ [])
    ∷ (1, (word (codes "Product") ∷ []) ∷ [], 2, (word (codes "Product") ∷ []) ∷ (word (codes "Product") ∷ word (codes "Bert") ∷ number 2 ∷ []) ∷ [])
    ∷ (1, (word (codes "Product") ∷ []) ∷ [], 2, (word (codes "Product") ∷ []) ∷ (word (codes "Product") ∷ word (codes "Alex") ∷ number 1 ∷ []) ∷ [])
    ∷ (1, (word (codes "Product") ∷ []) ∷ [], 2, (word (codes "Product") ∷ []) ∷ (word (codes "Product") ∷ word (codes "Bert") ∷ number 2 ∷ []) ∷ [])
    ∷ []
rows_below = refl

-- the two sides of a union, of which the second has an empty bag
abbrev pub two_sides : FormTree
two_sides = record {
  element = TypeTree.rec (FieldTypes.field (codes "b") (TypeTree.bag TypeTree.text) (FieldTypes.field (codes "n") TypeTree.text FieldTypes.none));
  comps = comp 1 (generator 1 (codes "departments") ∷ []) (and_cond (equal (col 1 (codes "name")) (BaseTree.literal (word (codes "Sales")))) no_cond) (rec_body (with_body (codes "b") (bag_body TypeTree.text (comp 2 (generator 2 (codes "employees") ∷ []) (and_cond (equal (col 2 (codes "dept")) (col 1 (codes "name"))) no_cond) (plain_body (col 2 (codes "name"))) no_comp)) (with_body (codes "n") (plain_body (BaseTree.literal (word (codes "a")))) no_body))) (comp 3 [] no_cond (rec_body (with_body (codes "b") (bag_body TypeTree.text no_comp) (with_body (codes "n") (plain_body (BaseTree.literal (word (codes "b")))) no_body))) no_comp);
}

-- it is the normal form of the query that asks for this, whose fields now stand in label order
pub two_sides_is_normal : normal_form org two_sides.element sides_query ≡ two_sides
two_sides_is_normal = refl

abbrev pub sides_text : List ℕ
sides_text = codes "{(b = {}, n = 'b'), (b = {'Erik'}, n = 'a')}\n"

pub two_sides_mean : canonical_text (form_meaning four_departments two_sides) ≡ sides_text
two_sides_mean = refl

-- one row of each side: the second ranges over no table, so its spot has no row of a generator
pub two_sides_rows : rows_at four_departments two_sides [] ≡ (0, [], 1, (word (codes "Sales") ∷ []) ∷ []) ∷ (0, [], 3, []) ∷ []
two_sides_rows = refl

-- the names of the employees stand below the first side alone
pub two_sides_rows_below : rows_at four_departments two_sides (Down ∷ Field (codes "b") ∷ []) ≡ (1, (word (codes "Sales") ∷ []) ∷ [], 2, (word (codes "Sales") ∷ []) ∷ erik ∷ []) ∷ []
two_sides_rows_below = refl
