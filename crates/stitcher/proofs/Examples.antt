-- Worked examples: answers stitched by tag and number, checked by computing them.
use Rattle.std.proofs.Common.{◌≡◌, [], ◌∷◌, refl, codes, negsuc, ℕ, List}
use Rattle.std.specs.Fmt.{digits}
use Rattle.nq_model.specs.Canonical.{canonical_text}
use Rattle.nq_model.specs.Types.{TypeTree, bag}
use Rattle.nq_model.specs.declared.table.Cell.{Cell}
use Rattle.nq_model.specs.declared.table.Cell.TheVariants as cell
use Rattle.nq_ir.proofs.Examples.{word, number, with_staff, staff_text, with_names, names_text, two_sides, sides_text}
use Rattle.nq_ir.specs.Parts.{element_types}
use Rattle.stitcher.specs.FlatNumbers.{flat_numbers}
use Rattle.stitcher.specs.Schemes.{AnswerRows, stitched}

abbrev pub text_of_answers : TypeTree → List AnswerRows → List ℕ
text_of_answers a ans = canonical_text (stitched (flat_numbers (element_types (bag a))) a ans)

-- a row of an answer whose element is a text and a bag: its own index, the text, and the index of the bag
abbrev pub parent : ℕ → ℕ → List ℕ → ℕ → ℕ → List Cell
parent tag n t inner_tag inner_n = number tag ∷ number n ∷ word t ∷ number inner_tag ∷ number inner_n ∷ []

-- a row of an answer whose element is a text
abbrev pub leaf : ℕ → ℕ → List ℕ → List Cell
leaf tag n t = number tag ∷ number n ∷ word t ∷ []

-- a row below the top whose element is a bag and a text
abbrev pub side : ℕ → ℕ → List ℕ → List Cell
side inner_tag inner_n t = number 0 ∷ number 1 ∷ number inner_tag ∷ number inner_n ∷ word t ∷ []

-- departments with employees and tasks: the rows in the order of the tables, numbered in the order of their keys
pub three_levels : text_of_answers with_staff.element ((parent 0 1 (codes "Product") 1 1 ∷ parent 0 1 (codes "Quality") 1 2 ∷ parent 0 1 (codes "Research") 1 3 ∷ parent 0 1 (codes "Sales") 1 4 ∷ []) ∷ (parent 1 1 (codes "Alex") 2 1 ∷ parent 1 1 (codes "Bert") 2 2 ∷ parent 1 4 (codes "Erik") 2 3 ∷ []) ∷ (leaf 2 1 (codes "build") ∷ leaf 2 2 (codes "build") ∷ leaf 2 3 (codes "call") ∷ leaf 2 3 (codes "enthuse") ∷ []) ∷ []) ≡ staff_text
three_levels = refl

-- the same numbers, with the rows of each answer backwards
pub three_levels_turned : text_of_answers with_staff.element ((parent 0 1 (codes "Sales") 1 4 ∷ parent 0 1 (codes "Research") 1 3 ∷ parent 0 1 (codes "Quality") 1 2 ∷ parent 0 1 (codes "Product") 1 1 ∷ []) ∷ (parent 1 4 (codes "Erik") 2 3 ∷ parent 1 1 (codes "Bert") 2 2 ∷ parent 1 1 (codes "Alex") 2 1 ∷ []) ∷ (leaf 2 3 (codes "enthuse") ∷ leaf 2 3 (codes "call") ∷ leaf 2 2 (codes "build") ∷ leaf 2 1 (codes "build") ∷ []) ∷ []) ≡ staff_text
three_levels_turned = refl

-- other numbers for the departments and the employees: they only have to agree in the answers of parents and children
pub three_levels_numbered_otherwise : text_of_answers with_staff.element ((parent 0 1 (codes "Product") 1 3 ∷ parent 0 1 (codes "Quality") 1 1 ∷ parent 0 1 (codes "Research") 1 4 ∷ parent 0 1 (codes "Sales") 1 2 ∷ []) ∷ (parent 1 3 (codes "Alex") 2 2 ∷ parent 1 3 (codes "Bert") 2 3 ∷ parent 1 2 (codes "Erik") 2 1 ∷ []) ∷ (leaf 2 2 (codes "build") ∷ leaf 2 3 (codes "build") ∷ leaf 2 1 (codes "call") ∷ leaf 2 1 (codes "enthuse") ∷ []) ∷ []) ≡ staff_text
three_levels_numbered_otherwise = refl

-- those other numbers, with the rows of each answer backwards
pub three_levels_numbered_otherwise_turned : text_of_answers with_staff.element ((parent 0 1 (codes "Sales") 1 2 ∷ parent 0 1 (codes "Research") 1 4 ∷ parent 0 1 (codes "Quality") 1 1 ∷ parent 0 1 (codes "Product") 1 3 ∷ []) ∷ (parent 1 2 (codes "Erik") 2 1 ∷ parent 1 3 (codes "Bert") 2 3 ∷ parent 1 3 (codes "Alex") 2 2 ∷ []) ∷ (leaf 2 1 (codes "enthuse") ∷ leaf 2 1 (codes "call") ∷ leaf 2 3 (codes "build") ∷ leaf 2 2 (codes "build") ∷ []) ∷ []) ≡ staff_text
three_levels_numbered_otherwise_turned = refl

-- two equal departments, the first with the number 1
pub ties : text_of_answers with_names.element ((parent 0 1 (codes "Product") 1 1 ∷ parent 0 1 (codes "Product") 1 2 ∷ []) ∷ (leaf 1 1 (codes "Alex") ∷ leaf 1 2 (codes "Alex") ∷ leaf 1 1 (codes "Bert") ∷ leaf 1 2 (codes "Bert") ∷ []) ∷ []) ≡ names_text
ties = refl

-- the same numbers, with the rows of each answer backwards
pub ties_turned : text_of_answers with_names.element ((parent 0 1 (codes "Product") 1 2 ∷ parent 0 1 (codes "Product") 1 1 ∷ []) ∷ (leaf 1 2 (codes "Bert") ∷ leaf 1 1 (codes "Bert") ∷ leaf 1 2 (codes "Alex") ∷ leaf 1 1 (codes "Alex") ∷ []) ∷ []) ≡ names_text
ties_turned = refl

-- the first of the two with the number 2
pub ties_numbered_otherwise : text_of_answers with_names.element ((parent 0 1 (codes "Product") 1 2 ∷ parent 0 1 (codes "Product") 1 1 ∷ []) ∷ (leaf 1 2 (codes "Alex") ∷ leaf 1 1 (codes "Alex") ∷ leaf 1 2 (codes "Bert") ∷ leaf 1 1 (codes "Bert") ∷ []) ∷ []) ≡ names_text
ties_numbered_otherwise = refl

-- that with the rows of each answer backwards
pub ties_numbered_otherwise_turned : text_of_answers with_names.element ((parent 0 1 (codes "Product") 1 1 ∷ parent 0 1 (codes "Product") 1 2 ∷ []) ∷ (leaf 1 1 (codes "Bert") ∷ leaf 1 2 (codes "Bert") ∷ leaf 1 1 (codes "Alex") ∷ leaf 1 2 (codes "Alex") ∷ []) ∷ []) ≡ names_text
ties_numbered_otherwise_turned = refl

-- each answer numbers the two in its own way: which of them has which number makes no difference
pub ties_numbered_apart : text_of_answers with_names.element ((parent 0 1 (codes "Product") 1 1 ∷ parent 0 1 (codes "Product") 1 2 ∷ []) ∷ (leaf 1 2 (codes "Alex") ∷ leaf 1 1 (codes "Alex") ∷ leaf 1 2 (codes "Bert") ∷ leaf 1 1 (codes "Bert") ∷ []) ∷ []) ≡ names_text
ties_numbered_apart = refl

-- two parents with the number 1 are told apart by their tags
pub two_tags : text_of_answers two_sides.element ((side 1 1 (codes "a") ∷ side 3 1 (codes "b") ∷ []) ∷ (leaf 1 1 (codes "Erik") ∷ []) ∷ []) ≡ sides_text
two_tags = refl

-- the same numbers, with the second side before the first
pub two_tags_turned : text_of_answers two_sides.element ((side 3 1 (codes "b") ∷ side 1 1 (codes "a") ∷ []) ∷ (leaf 1 1 (codes "Erik") ∷ []) ∷ []) ≡ sides_text
two_tags_turned = refl

-- other numbers: the first side has the number 2, the second still 1
pub two_tags_numbered_otherwise : text_of_answers two_sides.element ((side 1 2 (codes "a") ∷ side 3 1 (codes "b") ∷ []) ∷ (leaf 1 2 (codes "Erik") ∷ []) ∷ []) ≡ sides_text
two_tags_numbered_otherwise = refl

-- those other numbers, with the second side before the first
pub two_tags_numbered_otherwise_turned : text_of_answers two_sides.element ((side 3 1 (codes "b") ∷ side 1 2 (codes "a") ∷ []) ∷ (leaf 1 2 (codes "Erik") ∷ []) ∷ []) ≡ sides_text
two_tags_numbered_otherwise_turned = refl

-- a number is not read by its absolute value, and rows that no parent has are left out
pub strange_rows : text_of_answers TypeTree.int (((number 0 ∷ cell.Int (negsuc 0) ∷ number 7 ∷ []) ∷ (number 9 ∷ number 9 ∷ number 8 ∷ []) ∷ (number 0 ∷ number 1 ∷ number 6 ∷ []) ∷ []) ∷ []) ≡ codes "{6}\n"
unfolding digits
strange_rows = refl
