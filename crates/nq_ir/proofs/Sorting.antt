-- A list sorted by its keys.
use Rattle.std.proofs.Common.{◌≡◌, List, [], ◌∷◌, map, refl, sym, ap, ap₂, ◌∙◌, Bool, true, false, cond}
use Rattle.std.specs.Cmp.{IsTotalOrder}
use Rattle.std.specs.Ordering.{is_gt, is_lt, ordering_reverse}
use Rattle.std.specs.declared.cmp.Ordering.{Ordering}
use Rattle.std.specs.declared.cmp.Ordering.TheVariants.{Less, Equal, Greater}
use Rattle.nq_model.specs.Orders.{put_by, sorted_by}
use Rattle.nq_model.proofs.Numberings.{each_map}
use Rattle.nq_model.specs.Bags.{Pick, Reordered, here, there}
use Rattle.nq_model.specs.Numberings.{Ranks, Rises}
use Rattle.std.specs.List.{AllByRecursion as Each}

module _ {X K : Type 0} (lt : K → K → Bool) (key : X → K) where
  abbrev pub put_in : X → List X → List X
  put_in x [] = x ∷ []
  put_in x (y ∷ ys) = cond (lt (key y) (key x)) (y ∷ put_in x ys) (x ∷ y ∷ ys)

  abbrev pub sort_by : List X → List X
  sort_by [] = []
  sort_by (x ∷ xs) = put_in x (sort_by xs)

  pick_put : (x : X) (ys : List X) → Pick x (put_in x ys) ys
  pick_put x [] = here
  pick_put x (y ∷ ys) = go (lt (key y) (key x)) (pick_put x ys)
    where
      go : (b : Bool) → Pick x (put_in x ys) ys → Pick x (cond b (y ∷ put_in x ys) (x ∷ y ∷ ys)) (y ∷ ys)
      go true p = there p
      go false p = here

  pub sort_reorders : (xs : List X) → Reordered xs (sort_by xs)
  sort_reorders [] = refl
  sort_reorders (x ∷ xs) = (x, sort_by xs, pick_put x (sort_by xs), refl, sort_reorders xs)

  each_put : (P : K → Type 0) (x : X) (ys : List X) → P (key x) → Each P (map key ys) → Each P (map key (put_in x ys))
  each_put P x [] p e = (p, tt)
  each_put P x (y ∷ ys) p e = go (lt (key y) (key x)) (each_put P x ys p e.1)
    where
      go : (b : Bool) → Each P (map key (put_in x ys)) → Each P (map key (cond b (y ∷ put_in x ys) (x ∷ y ∷ ys)))
      go true q = (e.0, q)
      go false q = (p, e)

  module _ (o : Ranks lt) where
    not_above : (x y z : K) → lt y x ≡ false → lt z y ≡ false → lt z x ≡ false
    not_above x y z h k = go (lt z x) refl (lt y z) refl
      where
        go : (a : Bool) → lt z x ≡ a → (b : Bool) → lt y z ≡ b → a ≡ false
        go false e b f = refl
        go true e true f = let w : true ≡ false = sym (o.transitive y z x f e) ∙ h in w
        go true e false f = let s : y ≡ z = o.connected y z f k in let w : true ≡ false = sym e ∙ ap (λ u. lt u x) (sym s) ∙ h in w

    not_back : (x y : K) → lt y x ≡ true → lt x y ≡ false
    not_back x y h = go (lt x y) refl
      where
        go : (a : Bool) → lt x y ≡ a → a ≡ false
        go true e = let w : true ≡ false = sym (o.transitive x y x e h) ∙ o.irreflexive x in w
        go false e = refl

    put_rises : (x : X) (ys : List X) → Rises lt (map key ys) → Rises lt (map key (put_in x ys))
    put_rises x [] r = (tt, tt)
    put_rises x (y ∷ ys) r = go (lt (key y) (key x)) refl (put_rises x ys r.1)
      where
        go : (b : Bool) → lt (key y) (key x) ≡ b → Rises lt (map key (put_in x ys)) → Rises lt (map key (cond b (y ∷ put_in x ys) (x ∷ y ∷ ys)))
        go true e q = (each_put (λ z. lt z (key y) ≡ false) x ys (not_back (key x) (key y) e) r.0, q)
        go false e q = ((e, each_map (λ z. lt z (key y) ≡ false) (λ z. lt z (key x) ≡ false) (λ z h. not_above (key x) (key y) z e h) (map key ys) r.0), r)

    pub sort_rises : (xs : List X) → Rises lt (map key (sort_by xs))
    sort_rises [] = tt
    sort_rises (x ∷ xs) = put_rises x (sort_by xs) (sort_rises xs)

turned : (r s : Ordering) → r ≡ ordering_reverse s → is_gt r ≡ is_lt s
turned r Less e = ap is_gt e
turned r Equal e = ap is_gt e
turned r Greater e = ap is_gt e

-- the same sorting, by the comparison
module _ {X K : Type 0} (cmp : K → K → Ordering) (o : IsTotalOrder cmp) (key : X → K) where
  put_is : (x : X) (ys : List X) → put_by (λ y z. cmp (key y) (key z)) x ys ≡ put_in (λ j k. is_lt (cmp j k)) key x ys
  put_is x [] = refl
  put_is x (y ∷ ys) =
      ap₂ (λ b (l : List X). cond b (y ∷ l) (x ∷ y ∷ ys)) (turned (cmp (key x) (key y)) (cmp (key y) (key x)) (o.antisymm (key x) (key y))) (put_is x ys)

  pub sorted_is : (xs : List X) → sorted_by (λ y z. cmp (key y) (key z)) xs ≡ sort_by (λ j k. is_lt (cmp j k)) key xs
  sorted_is [] = refl
  sorted_is (x ∷ xs) = ap (put_by (λ y z. cmp (key y) (key z)) x) (sorted_is xs) ∙ put_is x (sort_by (λ j k. is_lt (cmp j k)) key xs)
