-- The walk over a query in one pass gives what the steps reach.
use Rattle.std.proofs.Common.{◌≡◌, ℕ, zero, suc, ◌+◌, ◌-◌, ◌<◌, ◌≤◌, false, cond, List, [], ◌∷◌, Some, refl, sym, ap, ◌∙◌, subst as along, nat_lt, arith, inr}
use Rattle.std.specs.Prelude.{slice_get}
use Rattle.nq_model.specs.Types.{TypeTree, FieldTypes}
use Rattle.nq_model.specs.Terms.{PlacedTerm, PlacedNode, PlacedFields, at, bare, bare_fields}
use Rattle.nq_model.specs.Substitution.{shift, subst}
use Rattle.nq_model.specs.Tables.{base_type}
use Rattle.nq_model.specs.Typing.{HasType, HaveTypes, IsAccepted}
use Rattle.nq_model.specs.declared.table.Schema.{Schema}
use Rattle.nq_model.proofs.Substitution.{bare_shift}
use Rattle.unfold.specs.Hereditary.{fuel, fuel_fields, unfolded}
use Rattle.unfold.specs.Environments.{Entry, stays, given, looked_up, walk_in, walk_each, walked}
use Rattle.unfold.specs.Unfolded.{IsUnfolding}
use Rattle.unfold.proofs.Still.{Still, AreStill, shift_still}
use Rattle.unfold.proofs.Typings.{shift_has, plain_well, plain_rank}
use Rattle.unfold.proofs.Substitutes.{field_good, apply_good}
use Rattle.unfold.proofs.Whole.{AllWell, most, has_well, has_rank, unfolded_unfolds, is_unfolding}
use Rattle.unfold.proofs.Shifts.{shift_zero}
use Rattle.unfold.proofs.Confluence.{Reduces, ReduceFields, reduces_here, reduces_join, of_steps, reduces_unary, reduces_binary, reduces_choose, reduces_fun, reduces_apply, reduces_union, reduces_for, reduces_guard, reduces_bind, reduces_field, reduces_aggregate, reduces_single, reduces_rec, reduce_none, reduce_with_field, contracts_bind, contracts_fun, ends_once}
use Rattle.unfold.proofs.Together.{AreWithin, subst_all, subst_all_fields, put_all, stands_under, kept, put_in, put_none}

no_below : (k : ℕ) → nat_lt k 0 ≡ false
no_below k = grind arith

put_here : (n p : ℕ) (es : List Entry) (k : ℕ) → put_all n es 0 p k ≡ looked_up n p es k
put_here n p es k =
    let e : k - 0 ≡ k = omega arith in
    ap (λ b. cond b (at p (PlacedNode.var k)) (shift 0 0 (looked_up n p es (k - 0)))) (no_below k) ∙ shift_zero 0 (looked_up n p es (k - 0)) ∙ ap (looked_up n p es) e

module _ (schema : Schema) where
  -- the entry stands for terms of that type, under n binders that stay, of the types d
  abbrev StandsFor : ℕ → List TypeTree → Entry → TypeTree → Type 0
  StandsFor n d (stays m) A = (m < n) × (slice_get d (n - m - 1) ≡ Some A)
  StandsFor n d (given m s) A =
      (m ≤ n) × Still (bare (shift (n - m) 0 s)) × HasType schema d (bare (shift (n - m) 0 s)) A

  abbrev Fits : ℕ → List TypeTree → List Entry → List TypeTree → Type 0
  Fits n d [] [] = Unit {0}
  Fits n d (e ∷ es) (A ∷ g) = StandsFor n d e A × Fits n d es g
  Fits n d _ _ = ⊥

  within : (n : ℕ) (d : List TypeTree) (es : List Entry) (g : List TypeTree) → Fits n d es g → AreWithin n es
  within n d [] [] f = tt
  within n d [] (A ∷ g) f = absurd f
  within n d (e ∷ es) [] f = absurd f
  within n d (stays m ∷ es) (A ∷ g) f = (f.0.0, within n d es g f.1)
  within n d (given m s ∷ es) (A ∷ g) f = (f.0.0, within n d es g f.1)

  -- under one more binder that stays
  stands_more : (n : ℕ) (d : List TypeTree) (B : TypeTree) (e : Entry) (A : TypeTree) → StandsFor n d e A → StandsFor (n + 1) (B ∷ d) e A
  stands_more n d B (stays m) A f =
      let l = f.0 in
      let e : suc (n - m - 1) ≡ n + 1 - m - 1 = omega (arith, l) in
      (omega (arith, l), along (λ j. slice_get (B ∷ d) j ≡ Some A) e f.1)
  stands_more n d B (given m s) A f =
      let l = f.0 in
      let e = stands_under n 0 (given m s) f.0 in
      (omega (arith, l), along (λ z. Still (bare z)) (sym e) (along Still (sym (bare_shift 1 0 (shift (n - m) 0 s))) (shift_still 1 0 (bare (shift (n - m) 0 s)) f.1)), along (λ z. HasType schema (B ∷ d) (bare z) A) (sym e) (along (λ z. HasType schema (B ∷ d) z A) (sym (bare_shift 1 0 (shift (n - m) 0 s))) (shift_has schema (B ∷ []) d 1 refl [] 0 refl (bare (shift (n - m) 0 s)) A f.2)))

  fits_more : (n : ℕ) (d : List TypeTree) (B : TypeTree) (es : List Entry) (g : List TypeTree) → Fits n d es g → Fits (n + 1) (B ∷ d) es g
  fits_more n d B [] [] f = tt
  fits_more n d B [] (A ∷ g) f = absurd f
  fits_more n d B (e ∷ es) [] f = absurd f
  fits_more n d B (e ∷ es) (A ∷ g) f = (stands_more n d B e A f.0, fits_more n d B es g f.1)

  -- going under a binder that stays, and under one for which a term is put in
  fits_kept : (n : ℕ) (d : List TypeTree) (B : TypeTree) (es : List Entry) (g : List TypeTree) → Fits n d es g → Fits (n + 1) (B ∷ d) (stays n ∷ es) (B ∷ g)
  fits_kept n d B es g f =
      let l : n < n + 1 = omega arith in
      let e : 0 ≡ n + 1 - n - 1 = omega arith in
      ((l, along (λ j. slice_get (B ∷ d) j ≡ Some B) e refl), fits_more n d B es g f)

  fits_given : (n : ℕ) (d : List TypeTree) (A : TypeTree) (v : PlacedTerm) (es : List Entry) (g : List TypeTree) → Still (bare v) → HasType schema d (bare v) A → Fits n d es g → Fits n d (given n v ∷ es) (A ∷ g)
  fits_given n d A v es g s h f =
      let l : n ≤ n = omega arith in
      let z : n - n ≡ 0 = omega arith in
      let e : v ≡ shift (n - n) 0 v = sym (ap (λ j. shift j 0 v) z ∙ shift_zero 0 v) in
      ((l, along (λ x. Still (bare x)) e s, along (λ x. HasType schema d (bare x) A) e h), f)

  looked_good : (n p : ℕ) (d : List TypeTree) (es : List Entry) (g : List TypeTree) (k : ℕ) (A : TypeTree) → Fits n d es g → slice_get g k ≡ Some A → Still (bare (looked_up n p es k)) × HasType schema d (bare (looked_up n p es k)) A
  looked_good n p d [] [] k A f h = absurd (cc)
  looked_good n p d [] (B ∷ g) k A f h = absurd f
  looked_good n p d (e ∷ es) [] k A f h = absurd f
  looked_good n p d (stays m ∷ es) (B ∷ g) zero A f h =
      let s : B ≡ A = cc in
      (tt, along (λ z. slice_get d (n - m - 1) ≡ Some z) s f.0.1)
  looked_good n p d (given m v ∷ es) (B ∷ g) zero A f h =
      let s : B ≡ A = cc in
      (f.0.1, along (λ z. HasType schema d (bare (shift (n - m) 0 v)) z) s f.0.2)
  looked_good n p d (e ∷ es) (B ∷ g) (suc k) A f h = looked_good n p d es g k A f.1 h

  -- what a part becomes: its steps reach it, nothing in it is contractible, and it has the part's type
  abbrev Gives : ℕ → List TypeTree → List Entry → PlacedTerm → TypeTree → PlacedTerm → Type 0
  Gives n d es t A v = Reduces (subst_all n es 0 t) v × Still (bare v) × HasType schema d (bare v) A

  abbrev GivesFields : ℕ → List TypeTree → List Entry → PlacedFields → FieldTypes → PlacedFields → Type 0
  GivesFields n d es fs ks vs =
      ReduceFields (subst_all_fields n es 0 fs) vs × AreStill (bare_fields vs) × HaveTypes schema d (bare_fields vs) ks

  -- a body in which a term was put in for the innermost variable
  body_given : (n : ℕ) (d : List TypeTree) (es : List Entry) (t u v w : PlacedTerm) (A : TypeTree) → Reduces (subst_all n es 0 t) (subst 0 v (subst_all n es 1 u)) → Gives n d (given n v ∷ es) u A w → Gives n d es t A w
  body_given n d es t u v w A r a =
      (reduces_join (along (λ x. Reduces (subst_all n es 0 t) x) (put_in n es v 0 u) r) a.0, a.1, a.2)

  module _ (r : ℕ) where
    mutual
      pub walk_gives : (g : List TypeTree) → AllWell g → (n : ℕ) (d : List TypeTree) (es : List Entry) → Fits n d es g → (t : PlacedTerm) (A : TypeTree) → HasType schema g (bare t) A → most g + fuel (bare t) ≤ r → Gives n d es t A (walk_in r n es t)
      walk_gives g w n d es f (at z (PlacedNode.var j)) A h m =
          let s = looked_good n z d es g j A f h in
          (along (λ x. Reduces x (looked_up n z es j)) (sym (put_here n z es j)) (reduces_here (looked_up n z es j)), s.0, s.1)
      walk_gives g w n d es f (at z (PlacedNode.int i)) A h m = (reduces_here (at z (PlacedNode.int i)), tt, h)
      walk_gives g w n d es f (at z (PlacedNode.bool b)) A h m = (reduces_here (at z (PlacedNode.bool b)), tt, h)
      walk_gives g w n d es f (at z (PlacedNode.text s)) A h m = (reduces_here (at z (PlacedNode.text s)), tt, h)
      walk_gives g w n d es f (at z (PlacedNode.table l)) A h m = (reduces_here (at z (PlacedNode.table l)), tt, h)
      walk_gives g w n d es f (at z (PlacedNode.unary op t)) A h m =
          let a = walk_gives g w n d es f t (base_type h.0) h.2 (omega (arith, m)) in
          (reduces_unary a.0, a.1, (h.0, h.1, a.2, h.3, h.4))
      walk_gives g w n d es f (at z (PlacedNode.binary op t u)) A h m =
          let a = walk_gives g w n d es f t (base_type h.0) h.3 (omega (arith, m)) in
          let b = walk_gives g w n d es f u (base_type h.1) h.4 (omega (arith, m)) in
          (reduces_binary a.0 b.0, (a.1, b.1), (h.0, h.1, h.2, a.2, b.2, h.5, h.6))
      walk_gives g w n d es f (at z (PlacedNode.choose t u v)) A h m =
          let a = walk_gives g w n d es f t TypeTree.bool h.0 (omega (arith, m)) in
          let b = walk_gives g w n d es f u A h.1 (omega (arith, m)) in
          let c = walk_gives g w n d es f v A h.2 (omega (arith, m)) in
          (reduces_choose a.0 b.0 c.0, (a.1, b.1, c.1), (a.2, b.2, c.2))
      walk_gives g w n d es f (at z (PlacedNode.fun k t)) A h m =
          let a = walk_gives (k ∷ g) (h.1, w) (n + 1) (k ∷ d) (stays n ∷ es) (fits_kept n d k es g f) t h.0 h.2 (omega (arith, m)) in
          let q = along (λ x. Reduces x (walk_in r (n + 1) (stays n ∷ es) t)) (sym (kept n es (within n d es g f) 0 t)) a.0 in
          (reduces_fun q, a.1, (h.0, h.1, a.2, h.3))
      walk_gives g w n d es f (at z (PlacedNode.apply (at q (PlacedNode.fun k t)) u)) A h m =
          let b = walk_gives g w n d es f u h.0 h.2 (omega (arith, m)) in
          let x : h.0 ≡ k = let y = h.1.3 in cc in
          let y : h.1.0 ≡ A = let y = h.1.3 in cc in
          let i = along (λ c. HasType schema d (bare (walk_in r n es u)) c) x b.2 in
          let a = walk_gives (k ∷ g) (h.1.1, w) n d (given n (walk_in r n es u) ∷ es) (fits_given n d k (walk_in r n es u) es g b.1 i f) t A (along (λ c. HasType schema (k ∷ g) (bare t) c) y h.1.2) (omega (arith, m)) in
          body_given n d es (at z (PlacedNode.apply (at q (PlacedNode.fun k t)) u)) t (walk_in r n es u) (walk_in r n (given n (walk_in r n es u) ∷ es) t) A (reduces_join (reduces_apply (reduces_here (at q (PlacedNode.fun k (subst_all n es 1 t)))) b.0) contracts_fun) a
      walk_gives g w n d es f (at z (PlacedNode.apply t u)) A h m =
          let a = walk_gives g w n d es f t (TypeTree.fun h.0 A) h.1 (omega (arith, m)) in
          let b = walk_gives g w n d es f u h.0 h.2 (omega (arith, m)) in
          let s = has_rank schema g w (bare t) (TypeTree.fun h.0 A) h.1 in
          let x = apply_good schema r d z (walk_in r n es t) (walk_in r n es u) h.0 A a.2 b.2 a.1 b.1 (inr (omega (arith, s, m))) in
          (reduces_join (reduces_apply a.0 b.0) (of_steps x.0), x.1, x.2)
      walk_gives g w n d es f (at z (PlacedNode.rec fs)) A h m =
          let a = each_gives g w n d es f fs h.0 h.1 (omega (arith, m)) in
          (reduces_rec a.0, a.1, (h.0, a.2, h.2))
      walk_gives g w n d es f (at z (PlacedNode.field t l)) A h m =
          let a = walk_gives g w n d es f t (TypeTree.rec h.0) h.1 (omega (arith, m)) in
          let x = field_good schema d z (walk_in r n es t) h.0 l A a.2 h.2 a.1 in
          (reduces_join (reduces_field a.0) (of_steps x.0), x.1, x.2)
      walk_gives g w n d es f (at z (PlacedNode.aggregate o t)) A h m =
          let a = walk_gives g w n d es f t (TypeTree.bag h.0) h.1 (omega (arith, m)) in
          (reduces_aggregate a.0, a.1, (h.0, a.2, h.2))
      walk_gives g w n d es f (at z (PlacedNode.single t)) A h m =
          let a = walk_gives g w n d es f t h.0 h.1 (omega (arith, m)) in
          (reduces_single a.0, a.1, (h.0, a.2, h.2, h.3))
      walk_gives g w n d es f (at z (PlacedNode.nil k)) A h m = (reduces_here (at z (PlacedNode.nil k)), tt, h)
      walk_gives g w n d es f (at z (PlacedNode.union t u)) A h m =
          let a = walk_gives g w n d es f t A h.2 (omega (arith, m)) in
          let b = walk_gives g w n d es f u A h.3 (omega (arith, m)) in
          (reduces_union a.0 b.0, (a.1, b.1), (h.0, h.1, a.2, b.2))
      walk_gives g w n d es f (at z (PlacedNode.for t u)) A h m =
          let p = has_well schema g w (bare t) (TypeTree.bag h.0) h.2 in
          let e = plain_rank h.0 p in
          let a = walk_gives g w n d es f t (TypeTree.bag h.0) h.2 (omega (arith, m)) in
          let b = walk_gives (h.0 ∷ g) (plain_well h.0 p, w) (n + 1) (h.0 ∷ d) (stays n ∷ es) (fits_kept n d h.0 es g f) u A h.3 (omega (arith, m, e)) in
          let q = along (λ x. Reduces x (walk_in r (n + 1) (stays n ∷ es) u)) (sym (kept n es (within n d es g f) 0 u)) b.0 in
          (reduces_for a.0 q, (a.1, b.1), (h.0, h.1, a.2, b.2, h.4))
      walk_gives g w n d es f (at z (PlacedNode.guard t u)) A h m =
          let a = walk_gives g w n d es f t TypeTree.bool h.1 (omega (arith, m)) in
          let b = walk_gives g w n d es f u A h.2 (omega (arith, m)) in
          (reduces_guard a.0 b.0, (a.1, b.1), (h.0, a.2, b.2, h.3))
      walk_gives g w n d es f (at z (PlacedNode.bind t u)) A h m =
          let b = walk_gives g w n d es f t h.0 h.1 (omega (arith, m)) in
          let s = has_rank schema g w (bare t) h.0 h.1 in
          let a = walk_gives (h.0 ∷ g) (has_well schema g w (bare t) h.0 h.1, w) n d (given n (walk_in r n es t) ∷ es) (fits_given n d h.0 (walk_in r n es t) es g b.1 b.2 f) u A h.2 (omega (arith, m, s)) in
          body_given n d es (at z (PlacedNode.bind t u)) u (walk_in r n es t) (walk_in r n (given n (walk_in r n es t) ∷ es) u) A (reduces_join (reduces_bind b.0 (reduces_here (subst_all n es 1 u))) contracts_bind) a

      each_gives : (g : List TypeTree) → AllWell g → (n : ℕ) (d : List TypeTree) (es : List Entry) → Fits n d es g → (fs : PlacedFields) (ks : FieldTypes) → HaveTypes schema g (bare_fields fs) ks → most g + fuel_fields (bare_fields fs) ≤ r → GivesFields n d es fs ks (walk_each r n es fs)
      each_gives g w n d es f PlacedFields.none ks h m = (reduce_none, tt, h)
      each_gives g w n d es f (PlacedFields.with_field l t fs) ks h m =
          let a = walk_gives g w n d es f t h.0 h.2 (omega (arith, m)) in
          let b = each_gives g w n d es f fs h.1 h.3 (omega (arith, m)) in
          (reduce_with_field a.0 b.0, (a.1, b.1), (h.0, h.1, a.2, b.2, h.4))

  -- a typed query becomes what its steps reach
  pub walked_as_stepped : (t : PlacedTerm) (A : TypeTree) → HasType schema [] (bare t) A → walked t ≡ unfolded t
  walked_as_stepped t A h =
      let a = walk_gives (fuel (bare t)) [] tt 0 [] [] tt t A h (omega arith) in
      let b = unfolded_unfolds schema [] tt t A h in
      ends_once (along (λ x. Reduces x (walked t)) (put_none 0 t) a.0) (of_steps b.0.steps) a.1 b.1

  pub walked_unfolds : (t : PlacedTerm) (A : TypeTree) → IsAccepted schema (bare t) A → IsUnfolding schema t (walked t)
  walked_unfolds t A h =
      along (IsUnfolding schema t) (sym (walked_as_stepped t A h.typed)) (is_unfolding schema t A h)
