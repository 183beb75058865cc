-- Worked examples: normal forms of plain terms, as they print, and their tags, checked by computing them.
use Rattle.std.proofs.Common.{◌≡◌, true, [], ◌∷◌, refl, codes, pos, ℕ, List}
use Rattle.std.specs.Fmt.{digits}
use Rattle.nq_model.specs.Terms.{TermTree, TermFields, Emptiness, Count, Sum}
use Rattle.nq_model.specs.Types.{TypeTree, FieldTypes}
use Rattle.nq_model.specs.declared.table.ColumnType.TheVariants as column
use Rattle.nq_model.specs.declared.table.TableShape.{TableShape}
use Rattle.nq_model.specs.declared.term.Binary.TheVariants.{Eq}
use Rattle.nq_ir.specs.NormalForms.{normal_form}
use Rattle.nq_ir.specs.Printed.{printed_text}
use Rattle.nq_ir.specs.WellFormed.{comps_tags, comps_numbers}

abbrev pub org : List TableShape
org = record { name = codes "departments"; columns = (codes "name", column.Text) ∷ []; key = [] } ∷ record { name = codes "employees"; columns = (codes "dept", column.Text) ∷ (codes "name", column.Text) ∷ (codes "salary", column.Int) ∷ []; key = [] } ∷ record { name = codes "tasks"; columns = (codes "employee", column.Text) ∷ (codes "task", column.Text) ∷ []; key = [] } ∷ []

abbrev pub at : ℕ → List ℕ → TermTree
at k l = TermTree.field (TermTree.var k) l

-- each department with its employees and their tasks
abbrev pub three_levels : TermTree
three_levels =
    TermTree.for (TermTree.table (codes "departments")) (TermTree.single (TermTree.rec (TermFields.with_field (codes "department") (at 0 (codes "name")) (TermFields.with_field (codes "employees") (TermTree.for (TermTree.table (codes "employees")) (TermTree.guard (TermTree.binary Eq (at 0 (codes "dept")) (at 1 (codes "name"))) (TermTree.single (TermTree.rec (TermFields.with_field (codes "name") (at 0 (codes "name")) (TermFields.with_field (codes "tasks") (TermTree.for (TermTree.table (codes "tasks")) (TermTree.guard (TermTree.binary Eq (at 0 (codes "employee")) (at 1 (codes "name"))) (TermTree.single (at 0 (codes "task"))))) TermFields.none)))))) TermFields.none))))

abbrev pub person : TypeTree
person = TypeTree.rec (FieldTypes.field (codes "name") TypeTree.text (FieldTypes.field (codes "tasks") (TypeTree.bag TypeTree.text) FieldTypes.none))

abbrev pub department : TypeTree
department = TypeTree.rec (FieldTypes.field (codes "department") TypeTree.text (FieldTypes.field (codes "employees") (TypeTree.bag person) FieldTypes.none))

pub three_levels_print : printed_text (normal_form org department three_levels)
    ≡ codes "for (x1 <- table departments) [(department = x1.name, employees = for (x2 <- table employees) where (x2.dept == x1.name) [(name = x2.name, tasks = for (x3 <- table tasks) where (x3.employee == x2.name) [x3.task])])]"
unfolding digits
three_levels_print = refl

-- a test has generators and no tag; its body is gone
pub test_prints : printed_text (normal_form org TypeTree.bool (TermTree.single (TermTree.aggregate Emptiness (TermTree.table (codes "tasks"))))) ≡ codes "[empty(for (x1 <- table tasks) [()])]"
unfolding digits
test_prints = refl

-- both sides of a choice of bags, the second under the negated test
pub choice_prints : printed_text (normal_form org TypeTree.int (TermTree.choose (TermTree.bool true) (TermTree.single (TermTree.int (pos 1))) (TermTree.single (TermTree.int (pos 2))))) ≡ codes "(where (true) [1]) ++ (where (!true) [2])"
unfolding digits
choice_prints = refl

-- the element type goes with a bag of no comprehension
pub nothing_prints : printed_text (normal_form org (TypeTree.rec (FieldTypes.field (codes "a") TypeTree.int (FieldTypes.field (codes "b") (TypeTree.bag TypeTree.text) FieldTypes.none))) (TermTree.nil TypeTree.int)) ≡ codes "[: (a: int, b: [text])]"
nothing_prints = refl

-- a union of departments with their employees and of one record: the record's fields are numbered in label order
abbrev pub both_sides : TermTree
both_sides =
    TermTree.union (TermTree.for (TermTree.table (codes "departments")) (TermTree.single (TermTree.rec (TermFields.with_field (codes "n") (TermTree.text (codes "a")) (TermFields.with_field (codes "b") (TermTree.for (TermTree.table (codes "employees")) (TermTree.guard (TermTree.binary Eq (at 0 (codes "dept")) (at 1 (codes "name"))) (TermTree.single (at 0 (codes "name"))))) TermFields.none))))) (TermTree.single (TermTree.rec (TermFields.with_field (codes "n") (TermTree.text (codes "b")) (TermFields.with_field (codes "b") (TermTree.nil TypeTree.text) TermFields.none))))

pub tags_of_both_sides : comps_tags (normal_form org (TypeTree.rec (FieldTypes.field (codes "b") (TypeTree.bag TypeTree.text) (FieldTypes.field (codes "n") TypeTree.text FieldTypes.none))) both_sides).comps ≡ 1 ∷ 2 ∷ 3 ∷ []
tags_of_both_sides = refl

-- the names of the employees of each department
abbrev pub names_query : TermTree
names_query =
    TermTree.for (TermTree.table (codes "departments")) (TermTree.single (TermTree.rec (TermFields.with_field (codes "d") (at 0 (codes "name")) (TermFields.with_field (codes "es") (TermTree.for (TermTree.table (codes "employees")) (TermTree.guard (TermTree.binary Eq (at 0 (codes "dept")) (at 1 (codes "name"))) (TermTree.single (at 0 (codes "name"))))) TermFields.none))))

-- a union of one department with its employees and of one record with nobody; its fields are not in label order
abbrev pub sides_query : TermTree
sides_query =
    TermTree.union (TermTree.for (TermTree.table (codes "departments")) (TermTree.guard (TermTree.binary Eq (at 0 (codes "name")) (TermTree.text (codes "Sales"))) (TermTree.single (TermTree.rec (TermFields.with_field (codes "n") (TermTree.text (codes "a")) (TermFields.with_field (codes "b") (TermTree.for (TermTree.table (codes "employees")) (TermTree.guard (TermTree.binary Eq (at 0 (codes "dept")) (at 1 (codes "name"))) (TermTree.single (at 0 (codes "name"))))) TermFields.none)))))) (TermTree.single (TermTree.rec (TermFields.with_field (codes "n") (TermTree.text (codes "b")) (TermFields.with_field (codes "b") (TermTree.nil TypeTree.text) TermFields.none))))

pub numbers_of_three_levels : comps_numbers (normal_form org department three_levels).comps ≡ 1 ∷ 2 ∷ 3 ∷ []
numbers_of_three_levels = refl

-- how many employees each department has, and what they earn together
abbrev pub staffed : TermTree → TermTree
staffed body = TermTree.for (TermTree.table (codes "employees")) (TermTree.guard (TermTree.binary Eq (at 0 (codes "dept")) (at 1 (codes "name"))) (TermTree.single body))

abbrev pub totals_query : TermTree
totals_query =
    TermTree.for (TermTree.table (codes "departments")) (TermTree.single (TermTree.rec (TermFields.with_field (codes "d") (at 0 (codes "name")) (TermFields.with_field (codes "n") (TermTree.aggregate Count (staffed (TermTree.var 0))) (TermFields.with_field (codes "s") (TermTree.aggregate Sum (staffed (at 0 (codes "salary")))) TermFields.none)))))

abbrev pub totals_type : TypeTree
totals_type = TypeTree.rec (FieldTypes.field (codes "d") TypeTree.text (FieldTypes.field (codes "n") TypeTree.int (FieldTypes.field (codes "s") TypeTree.int FieldTypes.none)))

pub totals_print : printed_text (normal_form org totals_type totals_query)
    ≡ codes "nq 2; for (x1 <- table departments) [(d = x1.name, n = count(for (x2 <- table employees) where (x2.dept == x1.name) [()]), s = sum(for (x3 <- table employees) where (x3.dept == x1.name) [x3.salary]))]"
unfolding digits
totals_print = refl

-- a count of none is the number 0, and needs no header
pub no_count_prints : printed_text (normal_form org TypeTree.int (TermTree.single (TermTree.aggregate Count (TermTree.nil TypeTree.int)))) ≡ codes "[0]"
unfolding digits
no_count_prints = refl

-- one sum for each comprehension, joined from the left
pub sums_print : printed_text (normal_form org TypeTree.int (TermTree.single (TermTree.aggregate Sum (TermTree.union (TermTree.single (TermTree.int (pos 1))) (TermTree.union (TermTree.single (TermTree.int (pos 2))) (TermTree.single (TermTree.int (pos 3))))))))
    ≡ codes "nq 2; [sum([1]) + sum([2]) + sum([3])]"
unfolding digits
sums_print = refl

-- a count inside an emptiness test's condition; the body of the test is gone
pub nested_prints : printed_text (normal_form org TypeTree.bool (TermTree.single (TermTree.aggregate Emptiness (TermTree.for (TermTree.table (codes "departments")) (TermTree.guard (TermTree.binary Eq (TermTree.aggregate Count (TermTree.table (codes "tasks"))) (TermTree.int (pos 2))) (TermTree.single (TermTree.aggregate Sum (TermTree.nil TypeTree.int))))))))
    ≡ codes "nq 2; [empty(for (x1 <- table departments) where (count(for (x2 <- table tasks) [()]) == 2) [()])]"
unfolding digits
nested_prints = refl
