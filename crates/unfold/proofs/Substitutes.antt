-- Substitution by ranks gives the term that the steps reach.
use Rattle.std.proofs.Common.{◌≡◌, ℕ, zero, suc, ◌+◌, ◌-◌, ◌≤◌, cond, Bool, true, false, List, [], ◌∷◌, ◌++◌, length, Option, Some, None, refl, sym, ap, ◌∙◌, subst as along, nat_lt, nat_eq, arith, inl, inr, ◌⊎◌, ⊎_elim}
use Rattle.std.specs.Prelude.{slice_get, option_map}
use Rattle.nq_model.specs.Types.{TypeTree, FieldTypes}
use Rattle.nq_model.specs.Terms.{PlacedTerm, PlacedNode, PlacedFields, at, TermTree, bare, bare_fields}
use Rattle.nq_model.specs.Substitution.{shift, put, subst, subst_fields}
use Rattle.nq_model.specs.Unfolding.{part, picked, picked_tree, contract_apply, contract_field, step, step_fields, Chain, here, after, Steps}
use Rattle.nq_model.specs.Tables.{base_type}
use Rattle.nq_model.specs.Typing.{type_at, HasType, HaveTypes}
use Rattle.nq_model.specs.declared.table.Schema.{Schema}
use Rattle.nq_model.proofs.Substitution.{bare_shift}
use Rattle.nq_model.proofs.Unfolding.{join, one, two, bare_picked}
use Rattle.nq_model.proofs.Typing.{aggregate_base}
use Rattle.unfold.specs.Hereditary.{rank, or_else, field_by, substitute, substitute_fields, apply_at}
use Rattle.unfold.proofs.Still.{Still, AreStill, still_ended, stills_ended, shift_still, steps_choose}
use Rattle.unfold.proofs.Typings.{lt_true, lt_false, eq_true, eq_false, left, right, one_more, shift_has, base_no_fun, base_no_rec, field_rank}
use Rattle.unfold.proofs.Neutral.{IsNeutral, neutral_apply, neutral_fn, neutral_rec, picked_good}

apply_neutral : (n p : ℕ) (f a : PlacedTerm) → IsNeutral (bare f) → apply_at n p f a ≡ at p (PlacedNode.apply f a)
apply_neutral zero p f a h = refl
apply_neutral (suc n) p (at z (PlacedNode.var k)) a h = refl
apply_neutral (suc n) p (at z (PlacedNode.int j)) a h = absurd h
apply_neutral (suc n) p (at z (PlacedNode.bool b)) a h = absurd h
apply_neutral (suc n) p (at z (PlacedNode.text t)) a h = absurd h
apply_neutral (suc n) p (at z (PlacedNode.table l)) a h = absurd h
apply_neutral (suc n) p (at z (PlacedNode.unary op t)) a h = absurd h
apply_neutral (suc n) p (at z (PlacedNode.binary op t u)) a h = absurd h
apply_neutral (suc n) p (at z (PlacedNode.choose t u v)) a h = absurd h
apply_neutral (suc n) p (at z (PlacedNode.fun k t)) a h = absurd h
apply_neutral (suc n) p (at z (PlacedNode.apply t u)) a h = refl
apply_neutral (suc n) p (at z (PlacedNode.rec fs)) a h = absurd h
apply_neutral (suc n) p (at z (PlacedNode.field t l)) a h = refl
apply_neutral (suc n) p (at z (PlacedNode.aggregate o t)) a h = absurd h
apply_neutral (suc n) p (at z (PlacedNode.single t)) a h = absurd h
apply_neutral (suc n) p (at z (PlacedNode.nil k)) a h = absurd h
apply_neutral (suc n) p (at z (PlacedNode.union t u)) a h = absurd h
apply_neutral (suc n) p (at z (PlacedNode.for t u)) a h = absurd h
apply_neutral (suc n) p (at z (PlacedNode.guard t u)) a h = absurd h
apply_neutral (suc n) p (at z (PlacedNode.bind t u)) a h = absurd h

some_with_places : (o : Option PlacedTerm) (t : TermTree) → option_map bare o ≡ Some t → (u : PlacedTerm) × (o ≡ Some u) × (bare u ≡ t)
some_with_places None t e = absurd (cc)
some_with_places (Some u) t e = let s : bare u ≡ t = cc in (u, refl, s)

picked_with_places : (l : List ℕ) (fs : PlacedFields) (t : TermTree) → picked_tree l (bare_fields fs) ≡ Some t → (u : PlacedTerm) × (picked l fs ≡ Some u) × (bare u ≡ t)
picked_with_places l fs t e = some_with_places (picked l fs) t (bare_picked l fs ∙ e)

module _ (schema : Schema) where
  -- what a field of a done part becomes
  abbrev FieldGood : List TypeTree → ℕ → PlacedTerm → List ℕ → TypeTree → PlacedTerm → Type 0
  FieldGood g p t l k r =
      Steps (at p (PlacedNode.field t l)) r × Still (bare r) × HasType schema g (bare r) k × (IsNeutral (bare t) → IsNeutral (bare r))

  pub field_good : (g : List TypeTree) (p : ℕ) (t : PlacedTerm) (ks : FieldTypes) (l : List ℕ) (k : TypeTree) → HasType schema g (bare t) (TypeTree.rec ks) → type_at l ks ≡ Some k → Still (bare t) → FieldGood g p t l k (field_by p l t)
  field_good g p (at z (PlacedNode.var j)) ks l k h d s = (here, (s, refl), (ks, h, d), λ i. tt)
  field_good g p (at z (PlacedNode.int n)) ks l k h d s = let q = h in absurd (cc)
  field_good g p (at z (PlacedNode.bool i)) ks l k h d s = let q = h in absurd (cc)
  field_good g p (at z (PlacedNode.text i)) ks l k h d s = let q = h in absurd (cc)
  field_good g p (at z (PlacedNode.table m)) ks l k h d s = let q = h.2 in absurd (cc)
  field_good g p (at z (PlacedNode.unary op t)) ks l k h d s = base_no_rec h.1 ks h.4
  field_good g p (at z (PlacedNode.binary op t u)) ks l k h d s = base_no_rec h.2 ks h.6
  field_good g p (at z (PlacedNode.choose t u v)) ks l k h d s =
      let a = field_good g p u ks l k h.1 d s.1 in
      let b = field_good g p v ks l k h.2 d s.2 in
      let e = still_ended (at z (PlacedNode.choose t u v)) s in
      let last : step (at p (PlacedNode.field (at z (PlacedNode.choose t u v)) l)) ≡ Some (at p (PlacedNode.choose t (at p (PlacedNode.field u l)) (at p (PlacedNode.field v l)))) = ap (λ o. part o (λ x. at p (PlacedNode.field x l)) (contract_field p (at z (PlacedNode.choose t u v)) l)) e in
      (after last (steps_choose p here (still_ended t s.0) a.0 (still_ended (field_by p l u) a.1) b.0), (s.0, a.1, b.1), (h.0, a.2, b.2), λ i. absurd i)
  field_good g p (at z (PlacedNode.fun j t)) ks l k h d s = let q = h.3 in absurd (cc)
  field_good g p (at z (PlacedNode.apply t u)) ks l k h d s = (here, (s, refl), (ks, h, d), λ i. tt)
  field_good g p (at z (PlacedNode.rec fs)) ks l k h d s =
      let q : ks ≡ h.0 = cc in
      let r = picked_good schema g (bare_fields fs) h.0 l k h.1 (along (λ z. type_at l z ≡ Some k) q d) in
      let w = picked_with_places l fs r.0 r.1 in
      let e = stills_ended fs s in
      let last : step (at p (PlacedNode.field (at z (PlacedNode.rec fs)) l)) ≡ Some w.0 = rw e w.1 in
      let is : or_else (picked l fs) (at p (PlacedNode.field (at z (PlacedNode.rec fs)) l)) ≡ w.0 = ap (λ o. or_else o (at p (PlacedNode.field (at z (PlacedNode.rec fs)) l))) w.1 in
      along (λ y. FieldGood g p (at z (PlacedNode.rec fs)) l k y) (sym is) (after last here, along Still (sym w.2) (r.3 s), along (λ y. HasType schema g y k) (sym w.2) r.2, λ i. absurd i)
  field_good g p (at z (PlacedNode.field t m)) ks l k h d s = (here, (s, refl), (ks, h, d), λ i. tt)
  field_good g p (at z (PlacedNode.aggregate o t)) ks l k h d s = let q = aggregate_base o h.0 (TypeTree.rec ks) h.2 in base_no_rec q.0 ks q.1
  field_good g p (at z (PlacedNode.single t)) ks l k h d s = let q = h.3 in absurd (cc)
  field_good g p (at z (PlacedNode.nil j)) ks l k h d s = let q = h.1 in absurd (cc)
  field_good g p (at z (PlacedNode.union t u)) ks l k h d s = let q = h.1 in absurd (cc)
  field_good g p (at z (PlacedNode.for t u)) ks l k h d s = let q = h.4 in absurd (cc)
  field_good g p (at z (PlacedNode.guard t u)) ks l k h d s = let q = h.3 in absurd (cc)
  field_good g p (at z (PlacedNode.bind t u)) ks l k h d s = absurd s

  -- what an application of done parts becomes
  abbrev ApplyGives : List TypeTree → ℕ → PlacedTerm → PlacedTerm → TypeTree → PlacedTerm → Type 0
  ApplyGives g p f a B r =
      Steps (at p (PlacedNode.apply f a)) r × Still (bare r) × HasType schema g (bare r) B × (IsNeutral (bare f) → IsNeutral (bare r))

  abbrev ApplyGood : ℕ → Type 0
  ApplyGood n =
      (g : List TypeTree) (p : ℕ) (f a : PlacedTerm) (A B : TypeTree) → HasType schema g (bare f) (TypeTree.fun A B) → HasType schema g (bare a) A → Still (bare f) → Still (bare a) → IsNeutral (bare f) ⊎ (rank (TypeTree.fun A B) ≤ n) → ApplyGives g p f a B (apply_at n p f a)

  module _ (n : ℕ) (g : List TypeTree) (T : TypeTree) (s : PlacedTerm) (small : rank T ≤ n) (typed : HasType schema g (bare s) T) (done : Still (bare s)) where
    abbrev Stands : List TypeTree → PlacedTerm → TypeTree → Type 0
    Stands d r A = Still (bare r) × HasType schema (d ++ g) (bare r) A × (IsNeutral (bare r) ⊎ (rank A ≤ n))

    put_above : (d : List TypeTree) (j : ℕ) (A : TypeTree) → slice_get (d ++ T ∷ g) j ≡ Some A → length d ≤ j → (length d ≡ j → ⊥) → HasType schema (d ++ g) (TermTree.var (j - 1)) A
    put_above d j A h l m =
        let f : j ≡ length d + suc (j - 1 - length d) = omega (arith, l, m) in
        let k : j - 1 ≡ length d + (j - 1 - length d) = omega (arith, l, m) in
        ap (slice_get (d ++ g)) k ∙ right d g (j - 1 - length d) ∙ sym (right d (T ∷ g) (suc (j - 1 - length d))) ∙ ap (slice_get (d ++ T ∷ g)) (sym f) ∙ h

    put_at : (d : List TypeTree) (j : ℕ) (A : TypeTree) → slice_get (d ++ T ∷ g) j ≡ Some A → j ≡ length d → T ≡ A
    put_at d j A h e =
        let z : length d ≡ length d + 0 = omega arith in
        let q = sym (right d (T ∷ g) 0) ∙ ap (slice_get (d ++ T ∷ g)) (sym z) ∙ ap (slice_get (d ++ T ∷ g)) (sym e) ∙ h in
        cc

    put_by : (d : List TypeTree) (c p j : ℕ) (A : TypeTree) → c ≡ length d → slice_get (d ++ T ∷ g) j ≡ Some A → (a b : Bool) → nat_lt j c ≡ a → nat_eq j c ≡ b → Stands d (cond a (at p (PlacedNode.var j)) (cond b (shift c 0 s) (at p (PlacedNode.var (j - 1))))) A
    put_by d c p j A q h true b e f =
        let l = lt_true j c e in
        (tt, sym (left d (T ∷ g) g j (omega (arith, l, q))) ∙ h, inl tt)
    put_by d c p j A q h false true e f =
        let m = eq_true j c f in
        let t = put_at d j A h (m ∙ q) in (
          along Still (sym (bare_shift c 0 s)) (shift_still c 0 (bare s) done),
          along (λ z. HasType schema (d ++ g) (bare (shift c 0 s)) z) t (along (λ z. HasType schema (d ++ g) z T) (sym (bare_shift c 0 s)) (shift_has schema d g c q [] 0 refl (bare s) T typed)),
          inr (along (λ z. rank z ≤ n) t small),
        )
    put_by d c p j A q h false false e f =
        let l = lt_false j c e in
        let m = eq_false j c f in
        (tt, put_above d j A h (omega (arith, l, q)) (λ i. m (sym i ∙ sym q)), inl tt)

    put_stands : (d : List TypeTree) (c p j : ℕ) (A : TypeTree) → c ≡ length d → slice_get (d ++ T ∷ g) j ≡ Some A → Stands d (put c s p j) A
    put_stands d c p j A q h = put_by d c p j A q h (nat_lt j c) (nat_eq j c) refl refl

    -- what a substitution into a term that stands still gives
    abbrev Gives : List TypeTree → PlacedTerm → PlacedTerm → TypeTree → PlacedTerm → Type 0
    Gives d t w A r =
        Steps w r × Still (bare r) × HasType schema (d ++ g) (bare r) A × (IsNeutral (bare t) → IsNeutral (bare r) ⊎ (rank A ≤ n))

    module _ (good : ApplyGood n) where
      mutual
        sub_good : (d : List TypeTree) (c : ℕ) → c ≡ length d → (t : PlacedTerm) (A : TypeTree) → HasType schema (d ++ T ∷ g) (bare t) A → Still (bare t) → Gives d t (subst c s t) A (substitute (apply_at n) c s t)
        sub_good d c q (at z (PlacedNode.var k)) A h e =
            let r = put_stands d c z k A q h in
            (here, r.0, r.1, λ i. r.2)
        sub_good d c q (at z (PlacedNode.int n)) A h e = (here, tt, h, λ i. absurd i)
        sub_good d c q (at z (PlacedNode.bool i)) A h e = (here, tt, h, λ i. absurd i)
        sub_good d c q (at z (PlacedNode.text i)) A h e = (here, tt, h, λ i. absurd i)
        sub_good d c q (at z (PlacedNode.table l)) A h e = (here, tt, h, λ i. absurd i)
        sub_good d c q (at z (PlacedNode.unary op t)) A h e =
            let a = sub_good d c q t (base_type h.0) h.2 e in
            (one step step (λ x. at z (PlacedNode.unary op x)) (λ x. None) (λ x. refl) a.0, a.1, (h.0, h.1, a.2, h.3, h.4), λ i. absurd i)
        sub_good d c q (at z (PlacedNode.binary op t u)) A h e =
            let a = sub_good d c q t (base_type h.0) h.3 e.0 in
            let b = sub_good d c q u (base_type h.1) h.4 e.1 in
            (two step step step (λ x y. at z (PlacedNode.binary op x y)) (λ x y. None) (λ x y. refl) a.0 (still_ended (substitute (apply_at n) c s t) a.1) b.0, (a.1, b.1), (h.0, h.1, h.2, a.2, b.2, h.5, h.6), λ i. absurd i)
        sub_good d c q (at z (PlacedNode.choose t u v)) A h e =
            let a = sub_good d c q t TypeTree.bool h.0 e.0 in
            let b = sub_good d c q u A h.1 e.1 in
            let w = sub_good d c q v A h.2 e.2 in
            (steps_choose z a.0 (still_ended (substitute (apply_at n) c s t) a.1) b.0 (still_ended (substitute (apply_at n) c s u) b.1) w.0, (a.1, b.1, w.1), (a.2, b.2, w.2), λ i. absurd i)
        sub_good d c q (at z (PlacedNode.fun k t)) A h e =
            let a = sub_good (k ∷ d) (c + 1) (one_more c (length d) q) t h.0 h.2 e in
            (one step step (λ x. at z (PlacedNode.fun k x)) (λ x. None) (λ x. refl) a.0, a.1, (h.0, h.1, a.2, h.3), λ i. absurd i)
        sub_good d c q (at z (PlacedNode.apply t u)) A h e =
            let a = sub_good d c q t (TypeTree.fun h.0 A) h.1 e.0 in
            let b = sub_good d c q u h.0 h.2 e.1 in
            let i = a.3 (neutral_fn schema (d ++ T ∷ g) (bare t) h.0 A (bare u) h.1 e.0 e.2) in
            let r = good (d ++ g) z (substitute (apply_at n) c s t) (substitute (apply_at n) c s u) h.0 A a.2 b.2 a.1 b.1 i in
            (join (two step step step (λ x y. at z (PlacedNode.apply x y)) (contract_apply z) (λ x y. refl) a.0 (still_ended (substitute (apply_at n) c s t) a.1) b.0) r.0, r.1, r.2, λ j. ⊎_elim (λ x. inl (r.3 x)) (λ x. inr (omega (arith, x))) i)
        sub_good d c q (at z (PlacedNode.rec fs)) A h e =
            let a = subs_good d c q fs h.0 h.1 e in
            (one step_fields step (λ x. at z (PlacedNode.rec x)) (λ x. None) (λ x. refl) a.0, a.1, (h.0, a.2, h.2), λ i. absurd i)
        sub_good d c q (at z (PlacedNode.field t l)) A h e =
            let a = sub_good d c q t (TypeTree.rec h.0) h.1 e.0 in
            let i = a.3 (neutral_rec schema (d ++ T ∷ g) (bare t) h.0 l A h.1 h.2 e.0 e.1) in
            let r = field_good (d ++ g) z (substitute (apply_at n) c s t) h.0 l A a.2 h.2 a.1 in
            let w = field_rank l A h.0 h.2 in
            (join (one step step (λ x. at z (PlacedNode.field x l)) (λ x. contract_field z x l) (λ x. refl) a.0) r.0, r.1, r.2, λ j. ⊎_elim (λ x. inl (r.3 x)) (λ x. inr (omega (arith, x, w))) i)
        sub_good d c q (at z (PlacedNode.aggregate o t)) A h e =
            let a = sub_good d c q t (TypeTree.bag h.0) h.1 e in
            (one step step (λ x. at z (PlacedNode.aggregate o x)) (λ x. None) (λ x. refl) a.0, a.1, (h.0, a.2, h.2), λ i. absurd i)
        sub_good d c q (at z (PlacedNode.single t)) A h e =
            let a = sub_good d c q t h.0 h.1 e in
            (one step step (λ x. at z (PlacedNode.single x)) (λ x. None) (λ x. refl) a.0, a.1, (h.0, a.2, h.2, h.3), λ i. absurd i)
        sub_good d c q (at z (PlacedNode.nil j)) A h e = (here, tt, h, λ i. absurd i)
        sub_good d c q (at z (PlacedNode.union t u)) A h e =
            let a = sub_good d c q t A h.2 e.0 in
            let b = sub_good d c q u A h.3 e.1 in
            (two step step step (λ x y. at z (PlacedNode.union x y)) (λ x y. None) (λ x y. refl) a.0 (still_ended (substitute (apply_at n) c s t) a.1) b.0, (a.1, b.1), (h.0, h.1, a.2, b.2), λ i. absurd i)
        sub_good d c q (at z (PlacedNode.for t u)) A h e =
            let a = sub_good d c q t (TypeTree.bag h.0) h.2 e.0 in
            let b = sub_good (h.0 ∷ d) (c + 1) (one_more c (length d) q) u A h.3 e.1 in
            (two step step step (λ x y. at z (PlacedNode.for x y)) (λ x y. None) (λ x y. refl) a.0 (still_ended (substitute (apply_at n) c s t) a.1) b.0, (a.1, b.1), (h.0, h.1, a.2, b.2, h.4), λ i. absurd i)
        sub_good d c q (at z (PlacedNode.guard t u)) A h e =
            let a = sub_good d c q t TypeTree.bool h.1 e.0 in
            let b = sub_good d c q u A h.2 e.1 in
            (two step step step (λ x y. at z (PlacedNode.guard x y)) (λ x y. None) (λ x y. refl) a.0 (still_ended (substitute (apply_at n) c s t) a.1) b.0, (a.1, b.1), (h.0, a.2, b.2, h.3), λ i. absurd i)
        sub_good d c q (at z (PlacedNode.bind t u)) A h e = absurd e

        subs_good : (d : List TypeTree) (c : ℕ) → c ≡ length d → (fs : PlacedFields) (ks : FieldTypes) → HaveTypes schema (d ++ T ∷ g) (bare_fields fs) ks → AreStill (bare_fields fs) → Chain step_fields (subst_fields c s fs) (substitute_fields (apply_at n) c s fs) × AreStill (bare_fields (substitute_fields (apply_at n) c s fs)) × HaveTypes schema (d ++ g) (bare_fields (substitute_fields (apply_at n) c s fs)) ks
        subs_good d c q PlacedFields.none ks h e = (here, tt, h)
        subs_good d c q (PlacedFields.with_field l t fs) ks h e =
            let a = sub_good d c q t h.0 h.2 e.0 in
            let b = subs_good d c q fs h.1 h.3 e.1 in
            (two step step_fields step_fields (PlacedFields.with_field l) (λ x y. None) (λ x y. refl) a.0 (still_ended (substitute (apply_at n) c s t) a.1) b.0, (a.1, b.1), (h.0, h.1, a.2, b.2, h.4))

  stays : (n : ℕ) (g : List TypeTree) (p : ℕ) (f a : PlacedTerm) (A B : TypeTree) → HasType schema g (bare f) (TypeTree.fun A B) → HasType schema g (bare a) A → Still (bare f) → Still (bare a) → IsNeutral (bare f) → ApplyGives g p f a B (apply_at n p f a)
  stays n g p f a A B h q s r i =
      along (λ z. ApplyGives g p f a B z) (sym (apply_neutral n p f a i)) (here, (s, r, neutral_apply (bare f) (bare a) i), (A, h, q), λ j. tt)

  -- an application at a type of a rank within the fuel
  branches : (n : ℕ) → ApplyGood n → (g : List TypeTree) (p : ℕ) (a : PlacedTerm) (A B : TypeTree) → HasType schema g (bare a) A → Still (bare a) → rank (TypeTree.fun A B) ≤ suc n → (f : PlacedTerm) → HasType schema g (bare f) (TypeTree.fun A B) → Still (bare f) → ApplyGives g p f a B (apply_at (suc n) p f a)
  branches n good g p a A B q r m (at z (PlacedNode.var k)) h s = stays (suc n) g p (at z (PlacedNode.var k)) a A B h q s r tt
  branches n good g p a A B q r m (at z (PlacedNode.int j)) h s = let y = h in absurd (cc)
  branches n good g p a A B q r m (at z (PlacedNode.bool i)) h s = let y = h in absurd (cc)
  branches n good g p a A B q r m (at z (PlacedNode.text i)) h s = let y = h in absurd (cc)
  branches n good g p a A B q r m (at z (PlacedNode.table l)) h s = let y = h.2 in absurd (cc)
  branches n good g p a A B q r m (at z (PlacedNode.unary op t)) h s = base_no_fun h.1 A B h.4
  branches n good g p a A B q r m (at z (PlacedNode.binary op t u)) h s = base_no_fun h.2 A B h.6
  branches n good g p a A B q r m (at z (PlacedNode.choose t u v)) h s =
      let x = branches n good g p a A B q r m u h.1 s.1 in
      let y = branches n good g p a A B q r m v h.2 s.2 in
      let e = still_ended (at z (PlacedNode.choose t u v)) s in
      let f = still_ended a r in
      let last : step (at p (PlacedNode.apply (at z (PlacedNode.choose t u v)) a)) ≡ Some (at p (PlacedNode.choose t (at p (PlacedNode.apply u a)) (at p (PlacedNode.apply v a)))) =
      ap (λ o. part o (λ x. at p (PlacedNode.apply x a)) (part (step a) (λ x. at p (PlacedNode.apply (at z (PlacedNode.choose t u v)) x)) (contract_apply p (at z (PlacedNode.choose t u v)) a))) e ∙ ap (λ o. part o (λ x. at p (PlacedNode.apply (at z (PlacedNode.choose t u v)) x)) (contract_apply p (at z (PlacedNode.choose t u v)) a)) f in
      (after last (steps_choose p here (still_ended t s.0) x.0 (still_ended (apply_at (suc n) p u a) x.1) y.0), (s.0, x.1, y.1), (h.0, x.2, y.2), λ i. absurd i)
  branches n good g p a A B q r m (at z (PlacedNode.fun k t)) h s =
      let x : k ≡ A = let y = h.3 in cc in
      let y : h.0 ≡ B = let y = h.3 in cc in
      let w = sub_good n g A a (omega (arith, m)) q r good [] 0 refl t B (along (λ z. HasType schema (A ∷ g) (bare t) z) y (along (λ z. HasType schema (z ∷ g) (bare t) h.0) x h.2)) s in
      let e = still_ended t s in
      let f = still_ended a r in
      let last : step (at p (PlacedNode.apply (at z (PlacedNode.fun k t)) a)) ≡ Some (subst 0 a t) = rw (e, f) refl in
      (after last w.0, w.1, w.2, λ i. absurd i)
  branches n good g p a A B q r m (at z (PlacedNode.apply t u)) h s = stays (suc n) g p (at z (PlacedNode.apply t u)) a A B h q s r tt
  branches n good g p a A B q r m (at z (PlacedNode.rec fs)) h s = let y = h.2 in absurd (cc)
  branches n good g p a A B q r m (at z (PlacedNode.field t l)) h s = stays (suc n) g p (at z (PlacedNode.field t l)) a A B h q s r tt
  branches n good g p a A B q r m (at z (PlacedNode.aggregate o t)) h s = let y = aggregate_base o h.0 (TypeTree.fun A B) h.2 in base_no_fun y.0 A B y.1
  branches n good g p a A B q r m (at z (PlacedNode.single t)) h s = let y = h.3 in absurd (cc)
  branches n good g p a A B q r m (at z (PlacedNode.nil k)) h s = let y = h.1 in absurd (cc)
  branches n good g p a A B q r m (at z (PlacedNode.union t u)) h s = let y = h.1 in absurd (cc)
  branches n good g p a A B q r m (at z (PlacedNode.for t u)) h s = let y = h.4 in absurd (cc)
  branches n good g p a A B q r m (at z (PlacedNode.guard t u)) h s = let y = h.3 in absurd (cc)
  branches n good g p a A B q r m (at z (PlacedNode.bind t u)) h s = absurd s

  pub apply_good : (n : ℕ) → ApplyGood n
  apply_good zero g p f a A B h q s r k = ⊎_elim (λ i. stays zero g p f a A B h q s r i) (λ i. absurd (omega (arith, i))) k
  apply_good (suc n) g p f a A B h q s r k =
      ⊎_elim (λ i. stays (suc n) g p f a A B h q s r i) (λ m. branches n (apply_good n) g p a A B q r m f h s) k

  -- substitution into a term that stands still, of one that stands still and whose type's rank is within the
  -- bound, gives what the steps reach
  pub substitution_unfolds : (n : ℕ) (g : List TypeTree) (T A : TypeTree) (s t : PlacedTerm) → rank T ≤ n → HasType schema g (bare s) T → Still (bare s) → HasType schema (T ∷ g) (bare t) A → Still (bare t) → Steps (subst 0 s t) (substitute (apply_at n) 0 s t) × Still (bare (substitute (apply_at n) 0 s t)) × HasType schema g (bare (substitute (apply_at n) 0 s t)) A
  substitution_unfolds n g T A s t r p e q f =
      let o = sub_good n g T s r p e (apply_good n) [] 0 refl t A q f in
      (o.0, o.1, o.2)
