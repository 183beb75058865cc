-- A stable sort of std gives the list in order, elements that tie as they stood.
use Rattle.std.proofs.Common.{◌≡◌, ℕ, suc, ◌<◌, ◌≤◌, ◌&&◌, not, Bool, true, false, cond, List, [], ◌∷◌, filter, refl, sym, ap, ◌∙◌, subst, length, arith, get_or, true≢false}
use Rattle.std.specs.declared.cmp.Ordering.{Ordering}
use Rattle.std.specs.declared.cmp.Ordering.TheVariants.{Less, Equal, Greater}
use Rattle.std.specs.Ordering.{is_gt, is_lt, ordering_reverse}
use Rattle.std.specs.Cmp.{IsTotalOrder, upto}
use Rattle.std.specs.List.{AllByRecursion as Each}
use Rattle.std.specs.List.Sorted.{IsSortedBy, IsStableBy, ties}
use Rattle.std.proofs.lemmas.List.Sorted.{sorted_far, ranks_by}
use Rattle.nq_model.specs.Orders.{put_by, sorted_by}
use Rattle.nq_model.proofs.Orders.{Ascends}

not_below : (r s : Ordering) → r ≡ ordering_reverse s → is_lt s ≡ false → is_gt r ≡ false
not_below r Less e h = absurd (true≢false h)
not_below r Equal e h = ap is_gt e
not_below r Greater e h = ap is_gt e

module _ {A : Type 0} (cmp : A → A → Ordering) (o : IsTotalOrder cmp) where
  abbrev below : A → A → Bool
  below x y = is_lt (cmp x y)

  each_by_place : (x : A) (ys : List A) → ((k : ℕ) (d : A) → k < length ys → is_gt (cmp x (get_or ys k d)) ≡ false) → Each (λ y. is_gt (cmp x y) ≡ false) ys
  each_by_place x [] h = tt
  each_by_place x (y ∷ ys) h = (h 0 y (omega arith), each_by_place x ys (λ k d b. h (suc k) d (omega (arith, b))))

  ascends_by_place : (xs : List A) → ((i j : ℕ) (d : A) → i ≤ j → j < length xs → is_gt (cmp (get_or xs i d) (get_or xs j d)) ≡ false) → Ascends cmp xs
  ascends_by_place [] h = tt
  ascends_by_place (x ∷ xs) h = (
    each_by_place x xs (λ k d b. h 0 (suc k) d (omega arith) (omega (arith, b))),
    ascends_by_place xs (λ i j d le b. h (suc i) (suc j) d (omega (arith, le)) (omega (arith, b))),
  )

  -- what a sort of std says of its order
  ascends_from_sorted : (xs : List A) → IsSortedBy below xs → Ascends cmp xs
  ascends_from_sorted xs up =
      ascends_by_place xs (λ i j d le b. not_below (cmp (get_or xs i d) (get_or xs j d)) (cmp (get_or xs j d) (get_or xs i d)) (o.antisymm (get_or xs i d) (get_or xs j d)) (sorted_far below (ranks_by o (λ (x : A). x)) xs up i j d le b))

  -- elements that tie
  tie : (r s : Ordering) → s ≡ ordering_reverse r → (not (is_lt r) && not (is_lt s)) ≡ true → r ≡ Equal
  tie Less s e h = cc
  tie Equal s e h = refl
  tie Greater s e h = let g : is_lt s ≡ true = ap is_lt e in absurd (true≢false (sym (sym (ap not g) ∙ h)))

  ties_equal : (x y : A) → ties below x y ≡ true → cmp x y ≡ Equal
  ties_equal x y h = tie (cmp x y) (cmp y x) (o.antisymm y x) h

  equal_ties : (x y : A) → cmp x y ≡ Equal → ties below x y ≡ true
  equal_ties x y h = let g : cmp y x ≡ Equal = o.antisymm y x ∙ ap ordering_reverse h in rw (h, g) refl

  self_equal : (x : A) → cmp x x ≡ Equal
  self_equal x = by (cmp x x) refl (o.antisymm x x)
    where
      by : (r : Ordering) → cmp x x ≡ r → cmp x x ≡ ordering_reverse (cmp x x) → cmp x x ≡ Equal
      by Less e h = let g = sym e ∙ h ∙ ap ordering_reverse e in cc
      by Equal e h = e
      by Greater e h = let g = sym e ∙ h ∙ ap ordering_reverse e in cc

  -- what stands in order stays above what is below its first element
  further : (x y z : A) → cmp x y ≡ Less → is_gt (cmp y z) ≡ false → cmp x z ≡ Less
  further x y z h k = by (cmp x z) refl
    where
      back : is_gt (cmp z x) ≡ false → ⊥
      back g =
          let e : is_gt (cmp y x) ≡ false = upto o y z x k g in
          true≢false (sym (ap is_gt (o.antisymm y x ∙ ap ordering_reverse h)) ∙ e)

      by : (r : Ordering) → cmp x z ≡ r → cmp x z ≡ Less
      by Less e = e
      by Equal e = absurd (back (ap is_gt (o.antisymm z x ∙ ap ordering_reverse e)))
      by Greater e = absurd (back (ap is_gt (o.antisymm z x ∙ ap ordering_reverse e)))

  less_no_tie : (x y : A) → cmp x y ≡ Less → ties below x y ≡ false
  less_no_tie x y h = rw h refl

  none_tie : (x : A) (ys : List A) → Each (λ y. cmp x y ≡ Less) ys → filter (ties below x) ys ≡ []
  none_tie x [] h = refl
  none_tie x (y ∷ ys) h =
      ap (λ b. cond b (y ∷ filter (ties below x) ys) (filter (ties below x) ys)) (less_no_tie x y h.0) ∙ none_tie x ys h.1

  all_further : (x y : A) (ys : List A) → cmp x y ≡ Less → Each (λ z. is_gt (cmp y z) ≡ false) ys → Each (λ z. cmp x z ≡ Less) ys
  all_further x y [] h all = tt
  all_further x y (z ∷ zs) h all = (further x y z h all.0, all_further x y zs h all.1)

  kept : (x y : A) (ys : List A) (b : Bool) → ties below x y ≡ b → filter (ties below x) (y ∷ ys) ≡ cond b (y ∷ filter (ties below x) ys) (filter (ties below x) ys)
  kept x y ys b e = ap (λ c. cond c (y ∷ filter (ties below x) ys) (filter (ties below x) ys)) e

  -- two lists in order that have the same elements at each rank are one
  pub one_order : (xs ys : List A) → Ascends cmp xs → Ascends cmp ys → ((x : A) → filter (ties below x) xs ≡ filter (ties below x) ys) → xs ≡ ys
  one_order [] [] up down same = refl
  one_order [] (y ∷ ys) up down same = let e = same y ∙ kept y y ys true (equal_ties y y (self_equal y)) in cc
  one_order (x ∷ xs) [] up down same = let e = sym (same x) ∙ kept x x xs true (equal_ties x x (self_equal x)) in cc
  one_order (x ∷ xs) (y ∷ ys) up down same = by (cmp x y) refl (one_order xs ys up.1 down.1)
    where
      firsts : cmp x y ≡ Equal → x ≡ y
      firsts e =
          let h : x ∷ filter (ties below x) xs ≡ y ∷ filter (ties below x) ys = sym (kept x x xs true (equal_ties x x (self_equal x))) ∙ same x ∙ kept x y ys true (equal_ties x y e) in cc

      rests : x ≡ y → (z : A) → filter (ties below z) xs ≡ filter (ties below z) ys
      rests one z = at (ties below z x) refl
        where
          at : (b : Bool) → ties below z x ≡ b → filter (ties below z) xs ≡ filter (ties below z) ys
          at true e =
              let h : x ∷ filter (ties below z) xs ≡ y ∷ filter (ties below z) ys = sym (kept z x xs true e) ∙ same z ∙ kept z y ys true (ap (ties below z) (sym one) ∙ e) in cc
          at false e = sym (kept z x xs false e) ∙ same z ∙ kept z y ys false (ap (ties below z) (sym one) ∙ e)

      by : (r : Ordering) → cmp x y ≡ r → (((z : A) → filter (ties below z) xs ≡ filter (ties below z) ys) → xs ≡ ys) → x ∷ xs ≡ y ∷ ys
      by Less e later =
          let none : filter (ties below x) (y ∷ ys) ≡ [] = none_tie x (y ∷ ys) (e, all_further x y ys e down.0) in
          let some = sym (kept x x xs true (equal_ties x x (self_equal x))) ∙ same x ∙ none in cc
      by Equal e later = let one = firsts e in let rest = later (rests one) in cc
      by Greater e later =
          let back : cmp y x ≡ Less = o.antisymm y x ∙ ap ordering_reverse e in
          let none : filter (ties below y) (x ∷ xs) ≡ [] = none_tie y (x ∷ xs) (back, all_further y x xs back up.0) in
          let some = sym (kept y y ys true (equal_ties y y (self_equal y))) ∙ sym (same y) ∙ none in cc

  -- putting an element where it belongs
  each_put : (P : A → Type 0) (x : A) (ys : List A) → P x → Each P ys → Each P (put_by cmp x ys)
  each_put P x [] h all = (h, tt)
  each_put P x (y ∷ ys) h all = choose (is_gt (cmp x y)) (all.0, each_put P x ys h all.1) (h, all)
    where
      choose : (b : Bool) → Each P (y ∷ put_by cmp x ys) → Each P (x ∷ y ∷ ys) → Each P (cond b (y ∷ put_by cmp x ys) (x ∷ y ∷ ys))
      choose true p q = p
      choose false p q = q

  put_case : (x y : A) (ys : List A) (b : Bool) → is_gt (cmp x y) ≡ b → put_by cmp x (y ∷ ys) ≡ cond b (y ∷ put_by cmp x ys) (x ∷ y ∷ ys)
  put_case x y ys b e = ap (λ c. cond c (y ∷ put_by cmp x ys) (x ∷ y ∷ ys)) e

  not_above : (r s : Ordering) → s ≡ ordering_reverse r → is_gt r ≡ true → is_gt s ≡ false
  not_above Less s e h = cc
  not_above Equal s e h = cc
  not_above Greater s e h = ap is_gt e

  low_first : (x y : A) (ys : List A) → is_gt (cmp x y) ≡ false → Each (λ z. is_gt (cmp y z) ≡ false) ys → Each (λ z. is_gt (cmp x z) ≡ false) ys
  low_first x y [] h all = tt
  low_first x y (z ∷ zs) h all = (upto o x y z h all.0, low_first x y zs h all.1)

  put_ascends : (x : A) (ys : List A) → Ascends cmp ys → Ascends cmp (put_by cmp x ys)
  put_ascends x [] up = (tt, tt)
  put_ascends x (y ∷ ys) up = by (is_gt (cmp x y)) refl (put_ascends x ys up.1)
    where
      by : (b : Bool) → is_gt (cmp x y) ≡ b → Ascends cmp (put_by cmp x ys) → Ascends cmp (put_by cmp x (y ∷ ys))
      by true e later =
          subst (λ (l : List A). Ascends cmp l) (sym (put_case x y ys true e))
          (each_put (λ z. is_gt (cmp y z) ≡ false) x ys (not_above (cmp x y) (cmp y x) (o.antisymm y x) e) up.0, later)
      by false e later =
          subst (λ (l : List A). Ascends cmp l) (sym (put_case x y ys false e)) ((e, low_first x y ys e up.0), up)

  sorted_ascends : (xs : List A) → Ascends cmp (sorted_by cmp xs)
  sorted_ascends [] = tt
  sorted_ascends (x ∷ xs) = put_ascends x (sorted_by cmp xs) (sorted_ascends xs)

  -- of two elements that tie with a third, neither is above the other
  tied : (x y z : A) → ties below x y ≡ true → ties below x z ≡ true → is_gt (cmp y z) ≡ false
  tied x y z h k = ap is_gt (sym (o.congr x y z (ties_equal x y h)) ∙ ties_equal x z k)

  put_kept : (x y : A) (ys : List A) → filter (ties below x) (put_by cmp y ys) ≡ filter (ties below x) (y ∷ ys)
  put_kept x y [] = refl
  put_kept x y (z ∷ zs) = by (is_gt (cmp y z)) refl (ties below x y) refl (ties below x z) refl (put_kept x y zs)
    where
      by : (b : Bool) → is_gt (cmp y z) ≡ b → (s : Bool) → ties below x y ≡ s → (t : Bool) → ties below x z ≡ t →
          filter (ties below x) (put_by cmp y zs) ≡ filter (ties below x) (y ∷ zs) → filter (ties below x) (put_by cmp y (z ∷ zs)) ≡ filter (ties below x) (y ∷ z ∷ zs)
      by false e s p t q later = ap (filter (ties below x)) (put_case y z zs false e)
      by true e true p true q later = absurd (true≢false (sym e ∙ tied x y z p q))
      by true e false p t q later =
          ap (filter (ties below x)) (put_case y z zs true e) ∙ kept x z (put_by cmp y zs) t q
          ∙ ap (λ (l : List A). cond t (z ∷ l) l) (later ∙ kept x y zs false p)
          ∙ sym (kept x y (z ∷ zs) false p ∙ kept x z zs t q)
      by true e true p false q later =
          ap (filter (ties below x)) (put_case y z zs true e) ∙ kept x z (put_by cmp y zs) false q
          ∙ later ∙ kept x y zs true p
          ∙ sym (kept x y (z ∷ zs) true p ∙ ap (λ (l : List A). y ∷ l) (kept x z zs false q))

  sorted_kept : (x : A) (xs : List A) → filter (ties below x) (sorted_by cmp xs) ≡ filter (ties below x) xs
  sorted_kept x [] = refl
  sorted_kept x (y ∷ ys) =
      put_kept x y (sorted_by cmp ys) ∙ ap (λ (l : List A). cond (ties below x y) (y ∷ l) l) (sorted_kept x ys)

  -- what a stable sort of std gives
  pub stable_sort : (xs ys : List A) → IsStableBy below xs ys → IsSortedBy below ys → ys ≡ sorted_by cmp xs
  stable_sort xs ys stable up =
      one_order ys (sorted_by cmp xs) (ascends_from_sorted ys up) (sorted_ascends xs) (λ x. stable x ∙ sym (sorted_kept x xs))
