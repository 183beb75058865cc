-- Answers of a type can be judged, and the first fault that is found is theirs.
use Rattle.std.proofs.Common.{◌≡◌, ℕ, suc, ℤ, ◌<◌, List, [], ◌∷◌, map, refl, sym, ap, ◌∙◌, subst, length}
use Rattle.nq_model.specs.Types.{TypeTree, bag}
use Rattle.nq_ir.specs.Parts.{slots, element_types}
use Rattle.stitcher.specs.FlatNumbers.{flat_numbers}
use Rattle.stitcher.specs.Linked.{Home, homes, home_of, fault_by, link_fault}
use Rattle.stitcher.specs.Schemes.{Scheme, AnswerRows, element_of}
use Rattle.stitcher.specs.Stitching.{AreAnswersOf}
use Rattle.stitcher.proofs.Homes.{homes_long, homes_before}
use Rattle.stitcher.proofs.Laid.{types_length}
use Rattle.foreign_answers.specs.Columns.{tags_of}
use Rattle.foreign_answers.specs.Judging.{column_in, CanJudge}
use Rattle.foreign_answers.proofs.TagColumns.{column_same, tags_counted}

map_long : {A B : Type 0} (f : A → B) (xs : List A) → length (map f xs) ≡ length xs
map_long f [] = refl
map_long f (x ∷ xs) = ap suc (map_long f xs)

module _ (type : TypeTree) (S : Scheme (ℤ × ℤ)) (all : List Home) (columns : List (List ℕ)) (own ans : List AnswerRows) (by_number : S ≡ flat_numbers (element_types type)) (at_home : all ≡ homes type) (tags : columns ≡ map tags_of (element_types type)) (same : own ≡ ans) where
  pub same_fault : fault_by S all (column_in columns) own ≡ link_fault type ans
  unfolding link_fault
  same_fault = λ t. fault_by (by_number t) (at_home t) (column_same (element_types type) columns tags t) (same t)

  pub can_judge : (element : TypeTree) → type ≡ bag element → AreAnswersOf (flat_numbers (element_types type)) type ans → CanJudge S own all columns
  can_judge element is given =
      let elements : List TypeTree = element_types type in
      let Before : TypeTree → Type 0 = λ a. (q : ℕ) → 0 < q → q < length (element_types a) → ((home_of (homes a) q).0 < q) × ((home_of (homes a) q).1 < slots (element_of (element_types a) (home_of (homes a) q).0)) in
      subst (λ (z : Scheme (ℤ × ℤ)). CanJudge z own all columns) (sym by_number)
      (subst (λ (z : List AnswerRows). CanJudge (flat_numbers elements) z all columns) (sym same)
      (subst (λ (z : List Home). CanJudge (flat_numbers elements) ans z columns) (sym at_home)
      (record {
        answered = given.counted;
        fitting = given.fitting;
        homed = homes_long type 0 0 0 ∙ sym (types_length type);
        before = subst Before (sym is) (homes_before element);
        columned = ap length tags ∙ map_long tags_of elements;
        counted = tags_counted elements columns tags;
      })))
