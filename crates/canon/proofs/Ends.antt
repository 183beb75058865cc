-- How two lists compare where the shorter one ends.
use Rattle.std.proofs.Common.{◌≡◌, ℕ, suc, ◌-◌, List, [], ◌∷◌, map, drop, length, min, refl, ◌∙◌, arith, length-drop}
use Rattle.std.proofs.lemmas.Bool.Decides.{nat_tests}
use Rattle.std.specs.declared.cmp.Ordering.TheVariants.{Less, Greater}
use Rattle.std.specs.Ordering.{nat_cmp}
use Rattle.std.specs.Cmp.{nat_cmp_is}
use Rattle.std.specs.Cmp.Lexicographic.{slice_cmp}
use Rattle.nq_model.specs.Orders.{label_cmp}
use Rattle.nq_model.specs.Values.{Nested, fields_of, bag_of, labels, fields_view}
use Rattle.nq_model.specs.Canonical.{value_cmp, fields_cmp}
use Rattle.nq_model.specs.declared.value.Value.{Value}

less : (n : ℕ) → Less ≡ nat_cmp 0 (suc n)
less n = nat_cmp_is 0 (suc n) Less (omega arith)

greater : (n : ℕ) → Greater ≡ nat_cmp (suc n) 0
greater n = nat_cmp_is (suc n) 0 Greater (omega arith)

-- at the shorter one's length, one of the two rests is empty
rests_cmp : (m n i : ℕ) → i ≡ min m n → nat_cmp (m - i) (n - i) ≡ nat_cmp m n
rests_cmp m n i e = grind (arith, nat_tests)

module _ {A : Type 0} (view : A → Nested) where
  elements_ended : (xs ys : List A) → min (length xs) (length ys) ≡ 0
      → value_cmp (bag_of (map view xs)) (bag_of (map view ys)) ≡ nat_cmp (length xs) (length ys)
  elements_ended [] [] e = refl
  elements_ended [] (y ∷ ys) e = less (length ys)
  elements_ended (x ∷ xs) [] e = greater (length xs)
  elements_ended (x ∷ xs) (y ∷ ys) e = absurd (omega arith)

  pub elements_end : (a b : List A) (i : ℕ) → i ≡ min (length a) (length b) →
      value_cmp (bag_of (map view (drop i a))) (bag_of (map view (drop i b)))
      ≡ nat_cmp (length a) (length b)
  elements_end a b i e =
      elements_ended (drop i a) (drop i b) (rw (length-drop, length-drop) (omega arith))
      ∙ rw (length-drop, length-drop) (rests_cmp (length a) (length b) i e)

fields_ended : (xs ys : List (List ℕ × Value)) → min (length xs) (length ys) ≡ 0
    → fields_cmp (fields_of (fields_view xs)) (fields_of (fields_view ys))
    ≡ nat_cmp (length xs) (length ys)
fields_ended [] [] e = refl
fields_ended [] (y ∷ ys) e = less (length ys)
fields_ended (x ∷ xs) [] e = greater (length xs)
fields_ended (x ∷ xs) (y ∷ ys) e = absurd (omega arith)

labels_ended : (xs ys : List (List ℕ × Value)) → min (length xs) (length ys) ≡ 0 →
    slice_cmp label_cmp (labels (fields_of (fields_view xs))) (labels (fields_of (fields_view ys)))
    ≡ nat_cmp (length xs) (length ys)
labels_ended [] [] e = refl
labels_ended [] (y ∷ ys) e = less (length ys)
labels_ended (x ∷ xs) [] e = greater (length xs)
labels_ended (x ∷ xs) (y ∷ ys) e = absurd (omega arith)

pub fields_end : (a b : List (List ℕ × Value)) (i : ℕ) → i ≡ min (length a) (length b) →
    fields_cmp (fields_of (fields_view (drop i a))) (fields_of (fields_view (drop i b)))
    ≡ nat_cmp (length a) (length b)
fields_end a b i e =
    fields_ended (drop i a) (drop i b) (rw (length-drop, length-drop) (omega arith))
    ∙ rw (length-drop, length-drop) (rests_cmp (length a) (length b) i e)

pub labels_end : (a b : List (List ℕ × Value)) (i : ℕ) → i ≡ min (length a) (length b) →
    slice_cmp label_cmp (labels (fields_of (fields_view (drop i a))))
    (labels (fields_of (fields_view (drop i b)))) ≡ nat_cmp (length a) (length b)
labels_end a b i e =
    labels_ended (drop i a) (drop i b) (rw (length-drop, length-drop) (omega arith))
    ∙ rw (length-drop, length-drop) (rests_cmp (length a) (length b) i e)
