-- Lists whose keys do not fall, by what a sort says of neighbours.
use Rattle.std.proofs.Common.{◌≡◌, ℕ, zero, suc, ◌+◌, ◌<◌, ◌≤◌, Bool, false, List, [], ◌∷◌, map, length, get_or, ap, ◌∙◌, arith}
use Rattle.std.proofs.lemmas.List.Sorted.{sorted_far, ranks_by}
use Rattle.std.specs.Cmp.{IsTotalOrder}
use Rattle.std.specs.List.{AllByRecursion as Each}
use Rattle.std.specs.List.Sorted.{IsSortedByKey}
use Rattle.std.specs.declared.cmp.Ordering.{Ordering}
use Rattle.std.specs.Ordering.{is_lt}
use Rattle.nq_model.specs.Numberings.{Rises}

module _ {A K : Type 0} (lt : K → K → Bool) (key : A → K) where
  each_by_place : (x : K) (ys : List A) → ((k : ℕ) (d : A) → k < length ys → lt (key (get_or ys k d)) x ≡ false) → Each (λ y. lt y x ≡ false) (map key ys)
  each_by_place x [] h = tt
  each_by_place x (y ∷ ys) h = (h 0 y (omega arith), each_by_place x ys (λ k d b. h (suc k) d (omega (arith, b))))

  rises_by_place : (xs : List A) → ((i j : ℕ) (d : A) → i ≤ j → j < length xs → lt (key (get_or xs j d)) (key (get_or xs i d)) ≡ false) → Rises lt (map key xs)
  rises_by_place [] h = tt
  rises_by_place (x ∷ xs) h = (
    each_by_place (key x) xs (λ k d b. h 0 (suc k) d (omega arith) (omega (arith, b))),
    rises_by_place xs (λ i j d le b. h (suc i) (suc j) d (omega (arith, le)) (omega (arith, b))),
  )

  -- the key of each element is not below the one before
  pub rises_next : (xs : List A) → Rises lt (map key xs) → (k : ℕ) (d : A) → k + 1 < length xs → lt (key (get_or xs (k + 1) d)) (key (get_or xs k d)) ≡ false
  rises_next [] up k d h = absurd (omega (arith, h))
  rises_next (x ∷ []) up k d h = absurd (omega (arith, h))
  rises_next (x ∷ y ∷ xs) up zero d h = up.0.0
  rises_next (x ∷ y ∷ xs) up (suc k) d h =
      let place_is : suc k + 1 ≡ suc (k + 1) = omega arith in
      ap (λ (n : ℕ). lt (key (get_or (x ∷ y ∷ xs) n d)) (key (get_or (y ∷ xs) k d))) place_is ∙ rises_next (y ∷ xs) up.1 k d (omega (arith, h))

module _ {A K : Type 0} (cmp : K → K → Ordering) (key : A → K) where
  -- what a sort of std says of its order
  pub rises_from_sorted : IsTotalOrder cmp → (xs : List A) → IsSortedByKey key cmp xs → Rises (λ x y. is_lt (cmp x y)) (map key xs)
  rises_from_sorted o xs up =
      rises_by_place (λ x y. is_lt (cmp x y)) key xs (λ i j d le b. sorted_far (λ x y. is_lt (cmp (key x) (key y))) (ranks_by o key) xs up i j d le b)
