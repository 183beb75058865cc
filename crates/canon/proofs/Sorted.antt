-- The canonical form is sorted at every depth, and what is sorted so is its own canonical form.
use Rattle.std.proofs.Common.{◌≡◌, zero, suc, ◌+◌, List, [], ◌∷◌, ◌++◌, codes, map, refl, sym, ap, ap₂, ◌∙◌, subst, Bool, true, false, cond, arith, get_or, true≢false}
use Rattle.std.specs.declared.cmp.Ordering.{Ordering}
use Rattle.std.specs.declared.cmp.Ordering.TheVariants.{Less, Equal, Greater}
use Rattle.std.specs.Ordering.{is_gt, is_lt, ordering_reverse}
use Rattle.std.specs.Cmp.{upto}
use Rattle.std.specs.List.{AllByRecursion as Each}
use Rattle.std.specs.List.Sorted.{IsSorted}
use Rattle.nq_model.specs.Orders.{put_by, sorted_by}
use Rattle.nq_model.specs.Values.{Nested, base, rec, bag, Fields, none, field, Elements, end, more, elements, elements_of, bag_of}
use Rattle.nq_model.specs.Canonical.{value_cmp, canonical, canonical_fields, canonical_elements, written, canonical_text}
use Rattle.nq_model.proofs.Sameness.{elements_back, elements_of_back}
use Rattle.nq_model.proofs.Orders.{IsStrictOrder, Ascends, sorted_ascending}
use Rattle.nq_model.proofs.Canonical.{value_order, canonical_sorted}
use Rattle.canon.specs.Sorted.{IsSortedDeep, FieldsAreSorted, ElementsAreSorted}
use Rattle.canon.proofs.Sorting.{ascends_from_sorted}

-- what holds of an element and of each of a list holds of each where the element is put
pub each_put : {A : Type 0} (P : A → Type 0) (cmp : A → A → Ordering) (x : A) (ys : List A) → P x
    → Each P ys → Each P (put_by cmp x ys)
each_put P cmp x [] h e = (h, tt)
each_put {A} P cmp x (y ∷ ys) h e = go (is_gt (cmp x y)) (each_put P cmp x ys h e.1)
  where
    go : (b : Bool) → Each P (put_by cmp x ys) → Each P (cond b (y ∷ put_by cmp x ys) (x ∷ y ∷ ys))
    go true f = (e.0, f)
    go false f = (h, e)

turned_above : (r s : Ordering) → r ≡ ordering_reverse s → is_gt s ≡ true → is_gt r ≡ false
turned_above r Less e h = absurd (true≢false (sym h))
turned_above r Equal e h = absurd (true≢false (sym h))
turned_above r Greater e h = ap is_gt e

not_above : (r s : Ordering) → r ≡ ordering_reverse s → is_gt s ≡ false → is_lt r ≡ false
not_above r Less e h = ap is_lt e
not_above r Equal e h = ap is_lt e
not_above r Greater e h = absurd (true≢false h)

module _ {A : Type 0} (cmp : A → A → Ordering) (o : IsStrictOrder cmp) where
  below_all : (x y : A) (zs : List A) → is_gt (cmp x y) ≡ false
      → Each (λ z. is_gt (cmp y z) ≡ false) zs → Each (λ z. is_gt (cmp x z) ≡ false) zs
  below_all x y [] h e = tt
  below_all x y (z ∷ zs) h e = (upto o.total x y z h e.0, below_all x y zs h e.1)

  -- an element put into a list in order leaves it in order
  put_ascends : (x : A) (ys : List A) → Ascends cmp ys → Ascends cmp (put_by cmp x ys)
  put_ascends x [] up = (tt, tt)
  put_ascends x (y ∷ ys) up = go (is_gt (cmp x y)) refl (put_ascends x ys up.1)
    where
      go : (b : Bool) → is_gt (cmp x y) ≡ b → Ascends cmp (put_by cmp x ys)
          → Ascends cmp (cond b (y ∷ put_by cmp x ys) (x ∷ y ∷ ys))
      go true h later = (
        each_put (λ z. is_gt (cmp y z) ≡ false) cmp x ys
            (turned_above (cmp y x) (cmp x y) (o.total.antisymm y x) h) up.0,
        later,
      )
      go false h later = ((h, below_all x y ys h up.0), up)

  pub sorted_ascends : (xs : List A) → Ascends cmp (sorted_by cmp xs)
  sorted_ascends [] = tt
  sorted_ascends (x ∷ xs) = put_ascends x (sorted_by cmp xs) (sorted_ascends xs)

  -- to be in order is to be so between neighbours
  pub ascending_sorted : (xs : List A) → Ascends cmp xs → IsSorted cmp xs
  ascending_sorted [] up k d low high = absurd (omega (arith, high))
  ascending_sorted (x ∷ []) up k d low high = absurd (omega (arith, high))
  ascending_sorted (x ∷ y ∷ ys) up zero d low high = not_above (cmp y x) (cmp x y)
      (o.total.antisymm y x) up.0.0
  ascending_sorted (x ∷ y ∷ ys) up (suc k) d low high =
      let next : suc k + 1 ≡ suc (k + 1) = omega arith in
      subst (λ i. is_lt (cmp (get_or (x ∷ y ∷ ys) i d) (get_or (x ∷ y ∷ ys) (suc k) d)) ≡ false)
      (sym next) (ascending_sorted (y ∷ ys) up.1 k d (omega arith) (omega (arith, high)))

  pub sorted_ascending_all : (xs : List A) → IsSorted cmp xs → Ascends cmp xs
  sorted_ascending_all xs up = subst (Ascends cmp) (same xs)
      (ascends_from_sorted cmp (λ x. x) o.total xs up)
    where
      same : (ys : List A) → map (λ x. x) ys ≡ ys
      same [] = refl
      same (y ∷ ys) = ap (λ (l : List A). y ∷ l) (same ys)

each_element : (xs : List Nested) → Each IsSortedDeep xs → ElementsAreSorted (elements_of xs)
each_element [] e = tt
each_element (x ∷ xs) e = (e.0, each_element xs e.1)

mutual
  pub canonical_is_sorted : (v : Nested) → IsSortedDeep (canonical v)
  canonical_is_sorted (base c) = tt
  canonical_is_sorted (rec fs) = canonical_fields_sorted fs
  canonical_is_sorted (bag vs) = (
    subst (IsSorted value_cmp) (sym (elements_back (canonical_elements vs) ∙ canonical_sorted vs))
        (ascending_sorted value_cmp value_order (sorted_by value_cmp (map canonical (elements vs)))
        (sorted_ascends value_cmp value_order (map canonical (elements vs)))),
    each_element (canonical_elements vs) (canonical_elements_sorted vs),
  )

  canonical_fields_sorted : (fs : Fields) → FieldsAreSorted (canonical_fields fs)
  canonical_fields_sorted none = tt
  canonical_fields_sorted (field l v fs) = (canonical_is_sorted v, canonical_fields_sorted fs)

  canonical_elements_sorted : (vs : Elements) → Each IsSortedDeep (canonical_elements vs)
  canonical_elements_sorted end = tt
  canonical_elements_sorted (more v vs) =
      each_put IsSortedDeep value_cmp (canonical v) (canonical_elements vs) (canonical_is_sorted v)
      (canonical_elements_sorted vs)

mutual
  pub sorted_is_canonical : (v : Nested) → IsSortedDeep v → canonical v ≡ v
  sorted_is_canonical (base c) h = refl
  sorted_is_canonical (rec fs) h = ap rec (sorted_fields_canonical fs h)
  sorted_is_canonical (bag vs) h =
      ap bag_of (canonical_sorted vs ∙ ap (sorted_by value_cmp) (sorted_elements_canonical vs h.1)
      ∙ sorted_ascending value_cmp (elements vs) (sorted_ascending_all value_cmp value_order
      (elements vs) h.0))
      ∙ ap bag (elements_of_back vs)

  sorted_fields_canonical : (fs : Fields) → FieldsAreSorted fs → canonical_fields fs ≡ fs
  sorted_fields_canonical none h = refl
  sorted_fields_canonical (field l v fs) h =
      ap₂ (λ w (gs : Fields). field l w gs) (sorted_is_canonical v h.0)
      (sorted_fields_canonical fs h.1)

  sorted_elements_canonical : (vs : Elements) → ElementsAreSorted vs → map canonical (elements vs)
      ≡ elements vs
  sorted_elements_canonical end h = refl
  sorted_elements_canonical (more v vs) h =
      ap₂ (λ w (l : List Nested). w ∷ l) (sorted_is_canonical v h.0)
      (sorted_elements_canonical vs h.1)

-- the text of what is sorted is canonical
pub sorted_text : (v : Nested) → IsSortedDeep v → written v ++ codes "\n" ≡ canonical_text v
sorted_text v h = ap (λ (u : Nested). written u ++ codes "\n") (sym (sorted_is_canonical v h))
