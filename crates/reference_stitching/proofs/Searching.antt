-- Elements found among all rows of an answer.
use Rattle.std.proofs.Common.{◌≡◌, ℕ, suc, List, [], ◌++◌, map, filter, get_or, drop}
use Rattle.nq_model.specs.Types.{TypeTree}
use Rattle.nq_model.specs.Values.{Nested, nested}
use Rattle.nq_model.specs.declared.value.Value.{Value}
use Rattle.nq_ir.specs.Building.{element, built}
use Rattle.stitcher.specs.Schemes.{Scheme, AnswerRows, answers}

module _ {I : Type 0} (S : Scheme I) (ans : List AnswerRows) (a : TypeTree) (q : ℕ) (i : I) where
  -- the elements of some rows: of those that stand under the index
  abbrev pub among : AnswerRows → List Nested
  among rows = map (λ r. element (answers S ans) a q 0 0 (suc q) r) (filter (λ r. S.is (S.outer q r) i) rows)

  -- these values, and the elements of the rows from one on, are all elements
  abbrev pub AreFound : List Value → ℕ → Type 0
  AreFound made row = map nested made ++ among (drop row (get_or ans q [])) ≡ built (answers S ans) a q i
