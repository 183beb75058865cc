-- Sorting by a number.
use Rattle.std.proofs.Common.{◌≡◌, ℕ, zero, suc, ◌<◌, ◌≤◌, List, [], ◌∷◌, map, refl, sym, ap, ◌∙◌, subst, Bool, true, false, cond, nat_eq, arith, true≢false, inl, inr, ⊎_elim, ◌⊎◌}
use Rattle.std.specs.List.{AllByRecursion as Each}
use Rattle.std.specs.Ordering.{nat_cmp, is_gt, ordering_reverse}
use Rattle.std.specs.declared.cmp.Ordering.{Ordering}
use Rattle.std.specs.declared.cmp.Ordering.TheVariants.{Less, Equal, Greater}
use Rattle.std.proofs.lemmas.Cmp.{nat_cmp_total}
use Rattle.std.proofs.lemmas.Map.Keys.{le_from_not_gt}
use Rattle.nq_model.proofs.Bags.{reordered_sym}
use Rattle.nq_model.proofs.Canonical.{reordered_sorted}
use Rattle.nq_model.proofs.Numberings.{each_map, each_pick, each_reordered}
use Rattle.nq_model.specs.Bags.{Pick, Reordered, here, there}
use Rattle.nq_model.specs.Orders.{put_by, sorted_by}
use Rattle.nq_ir.proofs.Distinct.{Distinct}
use Rattle.nq_ir.proofs.Equal.{nat_differ, nat_same}
use Rattle.nq_ir.specs.Shredded.{IsRising}

ge_from_gt : (a b : ℕ) → is_gt (nat_cmp a b) ≡ true → b ≤ a
ge_from_gt a b h = go (nat_cmp a b) refl
  where
    go : (r : Ordering) → nat_cmp a b ≡ r → b ≤ a
    go Less e = absurd (true≢false (sym h ∙ ap is_gt e))
    go Equal e = absurd (true≢false (sym h ∙ ap is_gt e))
    go Greater e = le_from_not_gt b a (ap is_gt (nat_cmp_total.antisymm b a ∙ ap ordering_reverse e))

-- of two numbers that differ, the one that is not above the other is below it
pub strictly : (a b : ℕ) → a ≤ b → nat_eq a b ≡ false → a < b
strictly a b h f = ⊎_elim (λ (i : a ≡ b). absurd (true≢false (sym (nat_same a b i) ∙ f))) (λ (l : a < b). l) (by_cases a b h)
  where
    by_cases : (x y : ℕ) → x ≤ y → (x ≡ y) ⊎ (x < y)
    by_cases zero zero h = inl refl
    by_cases (suc x) zero h = absurd (omega (arith, h))
    by_cases zero (suc y) h = inr (omega arith)
    by_cases (suc x) (suc y) h = ⊎_elim (λ i. inl (ap suc i)) (λ (l : x < y). inr (omega (arith, l))) (by_cases x y (omega (arith, h)))

pub differ_turned : (a b : ℕ) → nat_eq a b ≡ false → nat_eq b a ≡ false
differ_turned a b e = nat_differ b a (λ (i : b ≡ a). absurd (true≢false (sym (nat_same a b (sym i)) ∙ e)))

module _ {X : Type 0} (key : X → ℕ) where
  -- no key is above a later one
  abbrev pub Ascends : List X → Type 0
  Ascends [] = Unit {0}
  Ascends (x ∷ xs) = Each (λ y. key x ≤ key y) xs × Ascends xs

  each_put : (P : X → Type 0) (x : X) (ys : List X) → P x → Each P ys → Each P (put_by (λ y z. nat_cmp (key y) (key z)) x ys)
  each_put P x [] p e = (p, tt)
  each_put P x (y ∷ ys) p e = go (is_gt (nat_cmp (key x) (key y))) (each_put P x ys p e.1)
    where
      go : (b : Bool) → Each P (put_by (λ y z. nat_cmp (key y) (key z)) x ys) → Each P (cond b (y ∷ put_by (λ y z. nat_cmp (key y) (key z)) x ys) (x ∷ y ∷ ys))
      go true q = (e.0, q)
      go false q = (p, e)

  put_ascends : (x : X) (ys : List X) → Ascends ys → Ascends (put_by (λ y z. nat_cmp (key y) (key z)) x ys)
  put_ascends x [] a = (tt, tt)
  put_ascends x (y ∷ ys) a = go (is_gt (nat_cmp (key x) (key y))) refl (put_ascends x ys a.1)
    where
      go : (b : Bool) → is_gt (nat_cmp (key x) (key y)) ≡ b → Ascends (put_by (λ y z. nat_cmp (key y) (key z)) x ys) → Ascends (cond b (y ∷ put_by (λ y z. nat_cmp (key y) (key z)) x ys) (x ∷ y ∷ ys))
      go true e q = (each_put (λ z. key y ≤ key z) x ys (ge_from_gt (key x) (key y) e) a.0, q)
      go false e q =
          let low : key x ≤ key y = le_from_not_gt (key x) (key y) e in
          ((low, each_map (λ z. key y ≤ key z) (λ z. key x ≤ key z) (λ z (h : key y ≤ key z). omega (arith, h, low)) ys a.0), a)

  pub sorted_ascends : (xs : List X) → Ascends (sorted_by (λ y z. nat_cmp (key y) (key z)) xs)
  sorted_ascends [] = tt
  sorted_ascends (x ∷ xs) = put_ascends x (sorted_by (λ y z. nat_cmp (key y) (key z)) xs) (sorted_ascends xs)

  abbrev Rising : List X → Type 0
  Rising xs = IsRising (map key xs)

  each_key : (P : ℕ → Type 0) (xs : List X) → Each (λ x. P (key x)) xs → Each P (map key xs)
  each_key P [] e = tt
  each_key P (x ∷ xs) e = (e.0, each_key P xs e.1)

  each_unkeyed : (P : ℕ → Type 0) (xs : List X) → Each P (map key xs) → Each (λ x. P (key x)) xs
  each_unkeyed P [] e = tt
  each_unkeyed P (x ∷ xs) e = (e.0, each_unkeyed P xs e.1)

  -- numbers that differ rise once they are sorted
  ascends_apart : (xs : List X) → Ascends xs → Distinct (map key xs) → Rising xs
  ascends_apart [] a d = tt
  ascends_apart (x ∷ xs) a d = (each_key (λ m. key x < m) xs (both xs a.0 (each_unkeyed (λ m. nat_eq (key x) m ≡ false) xs d.0)), ascends_apart xs a.1 d.1)
    where
      both : (ys : List X) → Each (λ y. key x ≤ key y) ys → Each (λ y. nat_eq (key x) (key y) ≡ false) ys → Each (λ y. key x < key y) ys
      both [] e f = tt
      both (y ∷ ys) e f = (strictly (key x) (key y) e.0 f.0, both ys e.1 f.1)

  pick_apart : {y : X} {ys rest : List X} → Pick y ys rest → Distinct (map key ys) → Each (λ z. nat_eq (key y) (key z) ≡ false) rest × Distinct (map key rest)
  pick_apart {y = y} (here {ys = ys}) d = (each_unkeyed (λ m. nat_eq (key y) m ≡ false) ys d.0, d.1)
  pick_apart {y = y} (there {z = z} {ys = ys} {rest = rest} p) d =
      let r = pick_apart p d.1 in
      let e : Each (λ x. nat_eq (key z) (key x) ≡ false) ys = each_unkeyed (λ m. nat_eq (key z) m ≡ false) ys d.0 in
      let q = each_pick (λ x. nat_eq (key z) (key x) ≡ false) p e in
      ((differ_turned (key z) (key y) q.0, r.0), (each_key (λ m. nat_eq (key z) m ≡ false) rest q.1, r.1))

  apart_reordered : (xs ys : List X) → Reordered xs ys → Distinct (map key ys) → Distinct (map key xs)
  apart_reordered [] ys m d = tt
  apart_reordered (x ∷ xs) ys m d =
      let r = pick_apart m.2 d in
      (each_key (λ n. nat_eq (key x) n ≡ false) xs (each_reordered (λ z. nat_eq (key x) (key z) ≡ false) m.1 xs (reordered_sym xs m.1 m.4) (subst (λ y. Each (λ z. nat_eq (key y) (key z) ≡ false) m.1) (sym m.3) r.0)), apart_reordered xs m.1 m.4 r.1)

  pub sorted_rises : (xs : List X) → Distinct (map key xs) → Rising (sorted_by (λ y z. nat_cmp (key y) (key z)) xs)
  sorted_rises xs d =
      ascends_apart (sorted_by (λ y z. nat_cmp (key y) (key z)) xs) (sorted_ascends xs) (apart_reordered (sorted_by (λ y z. nat_cmp (key y) (key z)) xs) xs (reordered_sym xs (sorted_by (λ y z. nat_cmp (key y) (key z)) xs) (reordered_sorted (λ y z. nat_cmp (key y) (key z)) xs)) d)
