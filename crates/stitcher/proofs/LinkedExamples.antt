-- Worked examples of linked answers and their faults, checked by computing them.
use Rattle.std.proofs.Common.{◌≡◌, [], ◌∷◌, refl, codes, ℕ, List, Some}
use Rattle.nq_model.specs.Types.{TypeTree, bag}
use Rattle.nq_ir.proofs.Examples.{with_names}
use Rattle.stitcher.specs.Schemes.{AnswerRows}
use Rattle.stitcher.specs.Linked.{dangling, twice, link_fault, IsLinked}
use Rattle.stitcher.proofs.Examples.{leaf, parent}

-- departments, each with the names of its employees
abbrev staff : TypeTree
staff = bag with_names.element

-- two departments with the numbers m and n, and the rows of their employees
abbrev held : ℕ → ℕ → AnswerRows → List AnswerRows
held m n rows = (parent 0 1 (codes "Product") 1 m ∷ parent 0 1 (codes "Product") 1 n ∷ []) ∷ rows ∷ []

-- with any numbers, in any order, and with no employees
pub linked : IsLinked staff (held 1 2 (leaf 1 1 (codes "Alex") ∷ leaf 1 2 (codes "Alex") ∷ leaf 1 1 (codes "Bert") ∷ []))
unfolding link_fault
linked = refl

pub numbered_otherwise : IsLinked staff (held 7 3 (leaf 1 3 (codes "Alex") ∷ leaf 1 7 (codes "Alex") ∷ []))
unfolding link_fault
numbered_otherwise = refl

pub childless : IsLinked staff (held 1 2 [])
unfolding link_fault
childless = refl

-- an employee of a department that is not there
pub third_department : link_fault staff (held 1 2 (leaf 1 3 (codes "Alex") ∷ leaf 1 2 (codes "Alex") ∷ [])) ≡ Some (dangling 2 1)
unfolding link_fault
third_department = refl

-- two departments under one number: the tag stands in the fourth column
pub one_number : link_fault staff (held 1 1 (leaf 1 1 (codes "Alex") ∷ [])) ≡ Some (twice 1 2 4 1)
unfolding link_fault
one_number = refl

-- a row that is not of the whole value, before one that gives a number again
pub no_whole : link_fault staff ((parent 0 1 (codes "A") 1 1 ∷ parent 0 2 (codes "B") 1 1 ∷ []) ∷ [] ∷ []) ≡ Some (dangling 1 2)
unfolding link_fault
no_whole = refl
