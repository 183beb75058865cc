-- What stands still in the place of a function or of a record.
use Rattle.std.proofs.Common.{◌≡◌, ℕ, cond, Bool, true, false, List, Option, Some, None, refl, sym, ◌∙◌, subst as along, bytes_eq}
use Rattle.nq_model.specs.Types.{TypeTree, FieldTypes}
use Rattle.nq_model.specs.Terms.{TermTree, TermFields}
use Rattle.nq_model.specs.Unfolding.{picked_tree, contract_tree_apply, contract_tree_field}
use Rattle.nq_model.specs.Typing.{type_at, HasType, HaveTypes}
use Rattle.nq_model.specs.declared.table.Schema.{Schema}
use Rattle.nq_model.proofs.Typing.{aggregate_base}
use Rattle.unfold.proofs.Still.{Still, AreStill}
use Rattle.unfold.proofs.Typings.{put_type_at, base_no_fun, base_no_rec}

-- the form of a head that cannot be contracted
abbrev pub IsNeutral : TermTree → Type 0
IsNeutral (TermTree.var k) = Unit {0}
IsNeutral (TermTree.apply t u) = Unit {0}
IsNeutral (TermTree.field t l) = Unit {0}
IsNeutral _ = ⊥

pub neutral_apply : (f a : TermTree) → IsNeutral f → contract_tree_apply f a ≡ None
neutral_apply (TermTree.var k) a h = refl
neutral_apply (TermTree.apply t u) a h = refl
neutral_apply (TermTree.field t l) a h = refl
neutral_apply _ a h = absurd h

module _ (schema : Schema) where
  -- a field that a record's type has stands in the record
  pub picked_good : (g : List TypeTree) (fs : TermFields) (ks : FieldTypes) (l : List ℕ) (k : TypeTree) → HaveTypes schema g fs ks → type_at l ks ≡ Some k → (t : TermTree) × (picked_tree l fs ≡ Some t) × HasType schema g t k × (AreStill fs → Still t)
  picked_good g TermFields.none ks l k h e =
      let f : type_at l FieldTypes.none ≡ Some k = along (λ z. type_at l z ≡ Some k) h e in
      absurd (cc)
  picked_good g (TermFields.with_field m t fs) ks l k h e =
      let f : cond (bytes_eq l m) (Some h.0) (type_at l h.1) ≡ Some k = sym (put_type_at l m h.0 h.1) ∙ along (λ z. type_at l z ≡ Some k) h.4 e in
      picked_by g fs t l k h.0 (type_at l h.1) h.2 (λ i. picked_good g fs h.1 l k h.3 i) (bytes_eq l m) f
    where
      picked_by : (g : List TypeTree) (fs : TermFields) (t : TermTree) (l : List ℕ) (k j : TypeTree) (o : Option TypeTree) → HasType schema g t j → (o ≡ Some k → (u : TermTree) × (picked_tree l fs ≡ Some u) × HasType schema g u k × (AreStill fs → Still u)) → (b : Bool) → cond b (Some j) o ≡ Some k → (u : TermTree) × (cond b (Some t) (picked_tree l fs) ≡ Some u) × HasType schema g u k × (Still t × AreStill fs → Still u)
      picked_by g fs t l k j o p ih true e =
          let s : j ≡ k = cc in
          (t, refl, along (λ z. HasType schema g t z) s p, λ s. s.0)
      picked_by g fs t l k j o p ih false e =
          let r = ih e in
          (r.0, r.1, r.2, λ s. r.3 s.1)

  -- what stands still in the place of a function or a record is neutral
  pub neutral_fn : (g : List TypeTree) (f : TermTree) (a b : TypeTree) (x : TermTree) → HasType schema g f (TypeTree.fun a b) → Still f → contract_tree_apply f x ≡ None → IsNeutral f
  neutral_fn g (TermTree.var k) a b x h s e = tt
  neutral_fn g (TermTree.int n) a b x h s e = let q = h in absurd (cc)
  neutral_fn g (TermTree.bool i) a b x h s e = let q = h in absurd (cc)
  neutral_fn g (TermTree.text i) a b x h s e = let q = h in absurd (cc)
  neutral_fn g (TermTree.table l) a b x h s e = let q = h.2 in absurd (cc)
  neutral_fn g (TermTree.unary op t) a b x h s e = base_no_fun h.1 a b h.4
  neutral_fn g (TermTree.binary op t u) a b x h s e = base_no_fun h.2 a b h.6
  neutral_fn g (TermTree.choose t u v) a b x h s e = absurd (cc)
  neutral_fn g (TermTree.fun k t) a b x h s e = absurd (cc)
  neutral_fn g (TermTree.apply t u) a b x h s e = tt
  neutral_fn g (TermTree.rec fs) a b x h s e = let q = h.2 in absurd (cc)
  neutral_fn g (TermTree.field t l) a b x h s e = tt
  neutral_fn g (TermTree.aggregate o t) a b x h s e = let q = aggregate_base o h.0 (TypeTree.fun a b) h.2 in base_no_fun q.0 a b q.1
  neutral_fn g (TermTree.single t) a b x h s e = let q = h.3 in absurd (cc)
  neutral_fn g (TermTree.nil k) a b x h s e = let q = h.1 in absurd (cc)
  neutral_fn g (TermTree.union t u) a b x h s e = let q = h.1 in absurd (cc)
  neutral_fn g (TermTree.for t u) a b x h s e = let q = h.4 in absurd (cc)
  neutral_fn g (TermTree.guard t u) a b x h s e = let q = h.3 in absurd (cc)
  neutral_fn g (TermTree.bind t u) a b x h s e = absurd s

  pub neutral_rec : (g : List TypeTree) (t : TermTree) (ks : FieldTypes) (l : List ℕ) (k : TypeTree) → HasType schema g t (TypeTree.rec ks) → type_at l ks ≡ Some k → Still t → contract_tree_field t l ≡ None → IsNeutral t
  neutral_rec g (TermTree.var j) ks l k h d s e = tt
  neutral_rec g (TermTree.int n) ks l k h d s e = let q = h in absurd (cc)
  neutral_rec g (TermTree.bool i) ks l k h d s e = let q = h in absurd (cc)
  neutral_rec g (TermTree.text i) ks l k h d s e = let q = h in absurd (cc)
  neutral_rec g (TermTree.table m) ks l k h d s e = let q = h.2 in absurd (cc)
  neutral_rec g (TermTree.unary op t) ks l k h d s e = base_no_rec h.1 ks h.4
  neutral_rec g (TermTree.binary op t u) ks l k h d s e = base_no_rec h.2 ks h.6
  neutral_rec g (TermTree.choose t u v) ks l k h d s e = absurd (cc)
  neutral_rec g (TermTree.fun j t) ks l k h d s e = let q = h.3 in absurd (cc)
  neutral_rec g (TermTree.apply t u) ks l k h d s e = tt
  neutral_rec g (TermTree.rec fs) ks l k h d s e =
      let q : ks ≡ h.0 = cc in
      let r = picked_good g fs h.0 l k h.1 (along (λ z. type_at l z ≡ Some k) q d) in
      let i = r.1 in
      absurd (cc)
  neutral_rec g (TermTree.field t m) ks l k h d s e = tt
  neutral_rec g (TermTree.aggregate o t) ks l k h d s e = let q = aggregate_base o h.0 (TypeTree.rec ks) h.2 in base_no_rec q.0 ks q.1
  neutral_rec g (TermTree.single t) ks l k h d s e = let q = h.3 in absurd (cc)
  neutral_rec g (TermTree.nil j) ks l k h d s e = let q = h.1 in absurd (cc)
  neutral_rec g (TermTree.union t u) ks l k h d s e = let q = h.1 in absurd (cc)
  neutral_rec g (TermTree.for t u) ks l k h d s e = let q = h.4 in absurd (cc)
  neutral_rec g (TermTree.guard t u) ks l k h d s e = let q = h.3 in absurd (cc)
  neutral_rec g (TermTree.bind t u) ks l k h d s e = absurd s
