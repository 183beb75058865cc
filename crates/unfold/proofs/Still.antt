-- Terms that stand still: no contractible node stands in them.
use Rattle.std.proofs.Common.{◌≡◌, ℕ, ◌+◌, cond, Bool, true, false, List, Option, Some, None, refl, ap, ◌∙◌, bytes_eq}
use Rattle.nq_model.specs.Terms.{TermTree, TermFields, PlacedTerm, PlacedNode, PlacedFields, at, bare, bare_fields}
use Rattle.nq_model.specs.Substitution.{shift_tree, shift_tree_fields}
use Rattle.nq_model.specs.Unfolding.{part, picked_tree, contract_tree_apply, contract_tree_field, step_tree, step_tree_fields, step, step_fields, Steps}
use Rattle.nq_model.proofs.Unfolding.{join, lift, ended_with_places, fields_ended_with_places}

pub part_none : {A B : Type 0} (o : Option A) (around : A → B) (rest : Option B) → o ≡ None → part o around rest ≡ rest
part_none o around rest e = ap (λ x. part x around rest) e

part_still : {A B : Type 0} (o : Option A) (around : A → B) (rest : Option B) → part o around rest ≡ None → (o ≡ None) × (rest ≡ None)
part_still None around rest e = (refl, e)
part_still (Some t) around rest e = cc

-- no contractible node stands in the term
abbrev mutual
  pub Still : TermTree → Type 0
  Still (TermTree.var k) = Unit {0}
  Still (TermTree.int n) = Unit {0}
  Still (TermTree.bool b) = Unit {0}
  Still (TermTree.text t) = Unit {0}
  Still (TermTree.table l) = Unit {0}
  Still (TermTree.unary op t) = Still t
  Still (TermTree.binary op t u) = Still t × Still u
  Still (TermTree.choose t u v) = Still t × Still u × Still v
  Still (TermTree.fun k t) = Still t
  Still (TermTree.apply t u) = Still t × Still u × (contract_tree_apply t u ≡ None)
  Still (TermTree.rec fs) = AreStill fs
  Still (TermTree.field t l) = Still t × (contract_tree_field t l ≡ None)
  Still (TermTree.aggregate g t) = Still t
  Still (TermTree.single t) = Still t
  Still (TermTree.nil k) = Unit {0}
  Still (TermTree.union t u) = Still t × Still u
  Still (TermTree.for t u) = Still t × Still u
  Still (TermTree.guard t u) = Still t × Still u
  Still (TermTree.bind t u) = ⊥

  pub AreStill : TermFields → Type 0
  AreStill TermFields.none = Unit {0}
  AreStill (TermFields.with_field l t fs) = Still t × AreStill fs

none_one : {A B : Type 0} (o : Option A) (around : A → B) → o ≡ None → part o around None ≡ None
none_one o around e = part_none o around None e

none_two : {A B C : Type 0} (o : Option A) (p : Option B) (around : A → C) (beside : B → C) → o ≡ None → p ≡ None → part o around (part p beside None) ≡ None
none_two o p around beside e f = part_none o around _ e ∙ part_none p beside _ f

mutual
  pub still_none : (t : TermTree) → Still t → step_tree t ≡ None
  still_none (TermTree.var k) s = refl
  still_none (TermTree.int n) s = refl
  still_none (TermTree.bool b) s = refl
  still_none (TermTree.text t) s = refl
  still_none (TermTree.table l) s = refl
  still_none (TermTree.unary op t) s = none_one (step_tree t) _ (still_none t s)
  still_none (TermTree.binary op t u) s = none_two (step_tree t) (step_tree u) _ _ (still_none t s.0) (still_none u s.1)
  still_none (TermTree.choose t u v) s = part_none (step_tree t) _ _ (still_none t s.0) ∙ none_two (step_tree u) (step_tree v) _ _ (still_none u s.1) (still_none v s.2)
  still_none (TermTree.fun k t) s = none_one (step_tree t) _ (still_none t s)
  still_none (TermTree.apply t u) s = part_none (step_tree t) _ _ (still_none t s.0) ∙ part_none (step_tree u) _ _ (still_none u s.1) ∙ s.2
  still_none (TermTree.rec fs) s = none_one (step_tree_fields fs) _ (still_nones fs s)
  still_none (TermTree.field t l) s = part_none (step_tree t) _ _ (still_none t s.0) ∙ s.1
  still_none (TermTree.aggregate g t) s = none_one (step_tree t) _ (still_none t s)
  still_none (TermTree.single t) s = none_one (step_tree t) _ (still_none t s)
  still_none (TermTree.nil k) s = refl
  still_none (TermTree.union t u) s = none_two (step_tree t) (step_tree u) _ _ (still_none t s.0) (still_none u s.1)
  still_none (TermTree.for t u) s = none_two (step_tree t) (step_tree u) _ _ (still_none t s.0) (still_none u s.1)
  still_none (TermTree.guard t u) s = none_two (step_tree t) (step_tree u) _ _ (still_none t s.0) (still_none u s.1)
  still_none (TermTree.bind t u) s = absurd s

  pub still_nones : (fs : TermFields) → AreStill fs → step_tree_fields fs ≡ None
  still_nones TermFields.none s = refl
  still_nones (TermFields.with_field l t fs) s = none_two (step_tree t) (step_tree_fields fs) _ _ (still_none t s.0) (still_nones fs s.1)

two_still : {A B C : Type 0} (o : Option A) (p : Option B) (around : A → C) (beside : B → C) (rest : Option C) → part o around (part p beside rest) ≡ None → (o ≡ None) × (p ≡ None)
two_still o p around beside rest e =
    let h = part_still o _ _ e in
    (h.0, (part_still p beside rest h.1).0)

mutual
  pub still_of : (t : TermTree) → step_tree t ≡ None → Still t
  still_of (TermTree.var k) e = tt
  still_of (TermTree.int n) e = tt
  still_of (TermTree.bool b) e = tt
  still_of (TermTree.text t) e = tt
  still_of (TermTree.table l) e = tt
  still_of (TermTree.unary op t) e = still_of t (part_still (step_tree t) _ _ e).0
  still_of (TermTree.binary op t u) e = let p = two_still (step_tree t) (step_tree u) _ _ _ e in (still_of t p.0, still_of u p.1)
  still_of (TermTree.choose t u v) e =
      let p = part_still (step_tree t) _ _ e in
      let q = part_still (step_tree u) _ _ p.1 in
      let r = part_still (step_tree v) _ _ q.1 in
      (still_of t p.0, still_of u q.0, still_of v r.0)
  still_of (TermTree.fun k t) e = still_of t (part_still (step_tree t) _ _ e).0
  still_of (TermTree.apply t u) e =
      let p = part_still (step_tree t) _ _ e in
      let q = part_still (step_tree u) _ _ p.1 in
      (still_of t p.0, still_of u q.0, q.1)
  still_of (TermTree.rec fs) e = stills_of fs (part_still (step_tree_fields fs) _ _ e).0
  still_of (TermTree.field t l) e =
      let p = part_still (step_tree t) _ _ e in
      (still_of t p.0, p.1)
  still_of (TermTree.aggregate g t) e = still_of t (part_still (step_tree t) _ _ e).0
  still_of (TermTree.single t) e = still_of t (part_still (step_tree t) _ _ e).0
  still_of (TermTree.nil k) e = tt
  still_of (TermTree.union t u) e = let p = two_still (step_tree t) (step_tree u) _ _ _ e in (still_of t p.0, still_of u p.1)
  still_of (TermTree.for t u) e = let p = two_still (step_tree t) (step_tree u) _ _ _ e in (still_of t p.0, still_of u p.1)
  still_of (TermTree.guard t u) e = let p = two_still (step_tree t) (step_tree u) _ _ _ e in (still_of t p.0, still_of u p.1)
  still_of (TermTree.bind t u) e =
      let p = part_still (step_tree t) _ _ e in
      let q = part_still (step_tree u) _ _ p.1 in
      let x = q.1 in
      absurd (cc)

  pub stills_of : (fs : TermFields) → step_tree_fields fs ≡ None → AreStill fs
  stills_of TermFields.none e = tt
  stills_of (TermFields.with_field l t fs) e =
      let p = part_still (step_tree t) _ _ e in
      let q = part_still (step_tree_fields fs) _ _ p.1 in
      (still_of t p.0, stills_of fs q.0)

-- shifting keeps what stands still
shift_contract : (d c : ℕ) (f a b : TermTree) → contract_tree_apply f a ≡ None → contract_tree_apply (shift_tree d c f) b ≡ None
shift_contract d c (TermTree.fun k t) a b e = cc
shift_contract d c (TermTree.choose x f g) a b e = cc
shift_contract d c _ a b e = refl

pick_none : (b : Bool) (t u : TermTree) (o p : Option TermTree) → (o ≡ None → p ≡ None) → cond b (Some t) o ≡ None → cond b (Some u) p ≡ None
pick_none true t u o p h e = cc
pick_none false t u o p h e = h e

shift_picked : (d c : ℕ) (l : List ℕ) (fs : TermFields) → picked_tree l fs ≡ None → picked_tree l (shift_tree_fields d c fs) ≡ None
shift_picked d c l TermFields.none e = refl
shift_picked d c l (TermFields.with_field m t fs) e =
    pick_none (bytes_eq l m) t (shift_tree d c t) (picked_tree l fs) _ (λ i. shift_picked d c l fs i) e

shift_contract_field : (d c : ℕ) (t : TermTree) (l : List ℕ) → contract_tree_field t l ≡ None → contract_tree_field (shift_tree d c t) l ≡ None
shift_contract_field d c (TermTree.rec fs) l e = shift_picked d c l fs e
shift_contract_field d c (TermTree.choose x t u) l e = cc
shift_contract_field d c _ l e = refl

mutual
  pub shift_still : (d c : ℕ) (t : TermTree) → Still t → Still (shift_tree d c t)
  shift_still d c (TermTree.var k) s = tt
  shift_still d c (TermTree.int n) s = tt
  shift_still d c (TermTree.bool b) s = tt
  shift_still d c (TermTree.text t) s = tt
  shift_still d c (TermTree.table l) s = tt
  shift_still d c (TermTree.unary op t) s = shift_still d c t s
  shift_still d c (TermTree.binary op t u) s = (shift_still d c t s.0, shift_still d c u s.1)
  shift_still d c (TermTree.choose t u v) s = (shift_still d c t s.0, shift_still d c u s.1, shift_still d c v s.2)
  shift_still d c (TermTree.fun k t) s = shift_still d (c + 1) t s
  shift_still d c (TermTree.apply t u) s = (shift_still d c t s.0, shift_still d c u s.1, shift_contract d c t u (shift_tree d c u) s.2)
  shift_still d c (TermTree.rec fs) s = shift_stills d c fs s
  shift_still d c (TermTree.field t l) s = (shift_still d c t s.0, shift_contract_field d c t l s.1)
  shift_still d c (TermTree.aggregate g t) s = shift_still d c t s
  shift_still d c (TermTree.single t) s = shift_still d c t s
  shift_still d c (TermTree.nil k) s = tt
  shift_still d c (TermTree.union t u) s = (shift_still d c t s.0, shift_still d c u s.1)
  shift_still d c (TermTree.for t u) s = (shift_still d c t s.0, shift_still d (c + 1) u s.1)
  shift_still d c (TermTree.guard t u) s = (shift_still d c t s.0, shift_still d c u s.1)
  shift_still d c (TermTree.bind t u) s = absurd s

  shift_stills : (d c : ℕ) (fs : TermFields) → AreStill fs → AreStill (shift_tree_fields d c fs)
  shift_stills d c TermFields.none s = tt
  shift_stills d c (TermFields.with_field l t fs) s = (shift_still d c t s.0, shift_stills d c fs s.1)

-- no step goes on from what stands still
pub still_ended : (t : PlacedTerm) → Still (bare t) → step t ≡ None
still_ended t s = ended_with_places t (still_none (bare t) s)

pub stills_ended : (fs : PlacedFields) → AreStill (bare_fields fs) → step_fields fs ≡ None
stills_ended fs s = fields_ended_with_places fs (still_nones (bare_fields fs) s)

-- the steps of the parts of a choice
pub steps_choose : (p : ℕ) {t u v a b c : PlacedTerm} → Steps t a → step a ≡ None → Steps u b → step b ≡ None → Steps v c → Steps (at p (PlacedNode.choose t u v)) (at p (PlacedNode.choose a b c))
steps_choose p {u = u} {v = v} {a = a} {b = b} r e s f q =
    join (lift step step (λ x. at p (PlacedNode.choose x u v)) (λ x y g. rw g refl) r)
    (join (lift step step (λ x. at p (PlacedNode.choose a x v)) (λ x y g. rw (e, g) refl) s)
    (lift step step (λ x. at p (PlacedNode.choose a b x)) (λ x y g. rw (e, f, g) refl) q))
