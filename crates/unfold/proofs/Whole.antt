-- The walk over a whole term gives what the steps reach, and that is plain.
use Rattle.std.proofs.Common.{◌≡◌, ℕ, zero, suc, ◌+◌, ◌≤◌, max, Bool, true, false, ◌&&◌, cond, List, [], ◌∷◌, map, Some, None, refl, sym, ap, ◌∙◌, subst as along, arith, inr}
use Rattle.std.specs.Prelude.{slice_get}
use Rattle.std.specs.Ordering.{is_gt}
use Rattle.nq_model.specs.Orders.{by_label, put_by, label_cmp}
use Rattle.nq_model.specs.Types.{TypeTree, FieldTypes, rec, field_types_of, is_plain, are_plain, is_well_formed, are_well_formed}
use Rattle.nq_model.specs.Terms.{PlacedTerm, PlacedNode, PlacedFields, at, TermTree, TermFields, bare, bare_fields}
use Rattle.nq_model.specs.Substitution.{subst}
use Rattle.nq_model.specs.Unfolding.{contract_apply, contract_field, step, step_fields, Chain, here, after, Steps, Unfolds}
use Rattle.nq_model.specs.Proper.{IsPlainTerm, ArePlainTerms}
use Rattle.nq_model.specs.Tables.{Columns, base_type, table_type}
use Rattle.nq_model.specs.Typing.{put_type, HasType, HaveTypes, IsPlainBag, IsAccepted}
use Rattle.nq_model.specs.declared.table.Schema.{Schema}
use Rattle.nq_model.specs.declared.table.ColumnType.{ColumnType}
use Rattle.nq_model.proofs.Unfolding.{join, one, two}
use Rattle.nq_model.proofs.Typing.{aggregate_base}
use Rattle.unfold.specs.Hereditary.{rank, ranks, fuel, fuel_fields, walk, walk_fields, unfolded}
use Rattle.unfold.specs.Unfolded.{IsUnfolding}
use Rattle.unfold.proofs.Still.{Still, AreStill, still_ended, steps_choose}
use Rattle.unfold.proofs.Typings.{base_plain, field_rank, put_rank, and_split, both, put_plain, put_well, field_plain, field_well, plain_well, plain_rank}
use Rattle.unfold.proofs.Proper.{walk_proper, typed_closed}
use Rattle.unfold.proofs.Neutral.{IsNeutral, neutral_fn, neutral_rec}
use Rattle.unfold.proofs.Substitutes.{field_good, apply_good, substitution_unfolds}

abbrev pub AllWell : List TypeTree → Type 0
AllWell [] = Unit {0}
AllWell (A ∷ g) = (is_well_formed A ≡ true) × AllWell g

abbrev pub AllPlain : List TypeTree → Type 0
AllPlain [] = Unit {0}
AllPlain (A ∷ g) = (is_plain A ≡ true) × AllPlain g

pub plain_all_well : (g : List TypeTree) → AllPlain g → AllWell g
plain_all_well [] p = tt
plain_all_well (A ∷ g) p = (plain_well A p.0, plain_all_well g p.1)

get_well : (g : List TypeTree) (j : ℕ) (A : TypeTree) → AllWell g → slice_get g j ≡ Some A → is_well_formed A ≡ true
get_well [] j A w h = absurd (cc)
get_well (B ∷ g) zero A w h = let s : B ≡ A = cc in along (λ z. is_well_formed z ≡ true) s w.0
get_well (B ∷ g) (suc j) A w h = get_well g j A w.1 h

get_plain : (g : List TypeTree) (j : ℕ) (A : TypeTree) → AllPlain g → slice_get g j ≡ Some A → is_plain A ≡ true
get_plain [] j A w h = absurd (cc)
get_plain (B ∷ g) zero A w h = let s : B ≡ A = cc in along (λ z. is_plain z ≡ true) s w.0
get_plain (B ∷ g) (suc j) A w h = get_plain g j A w.1 h

-- the greatest rank of a variable's type
abbrev pub most : List TypeTree → ℕ
most [] = 0
most (A ∷ g) = max (rank A) (most g)

get_most : (g : List TypeTree) (j : ℕ) (A : TypeTree) → slice_get g j ≡ Some A → rank A ≤ most g
get_most [] j A h = absurd (cc)
get_most (B ∷ g) zero A h = let s : B ≡ A = cc in along (λ z. rank z ≤ max (rank B) (most g)) s (omega arith)
get_most (B ∷ g) (suc j) A h = let s = get_most g j A h in omega (arith, s)

plain_most : (g : List TypeTree) → AllPlain g → most g ≡ 0
plain_most [] p = refl
plain_most (A ∷ g) p =
    let a = plain_rank A p.0 in
    let b = plain_most g p.1 in
    omega (arith, a, b)

well_is : (A K : TypeTree) → A ≡ K → is_well_formed K ≡ true → is_well_formed A ≡ true
well_is A K e w = along (λ z. is_well_formed z ≡ true) (sym e) w

plain_is : (A K : TypeTree) → A ≡ K → is_plain A ≡ true → is_plain K ≡ true
plain_is A K e w = along (λ z. is_plain z ≡ true) e w

low : (A K : TypeTree) (m : ℕ) → A ≡ K → rank K ≡ 0 → rank A ≤ m
low A K m e z = let s : rank A ≡ 0 = ap rank e ∙ z in omega (arith, s)

plain_low : (A : TypeTree) (m : ℕ) → is_plain A ≡ true → rank A ≤ m
plain_low A m p = let s = plain_rank A p in omega (arith, s)

no_plain_fn : {X : Type 0} (a b : TypeTree) → is_plain (TypeTree.fun a b) ≡ true → X
no_plain_fn a b p = absurd (cc)

based : (A : TypeTree) (c : ColumnType) → A ≡ base_type c → is_plain A ≡ true
based A c e = along (λ z. is_plain z ≡ true) (sym e) (base_plain c)

-- the rows of a table have plain types
put_row_by : (f g : List ℕ × TypeTree) (fs : List (List ℕ × TypeTree)) (b : Bool) → is_plain f.1 ≡ true → is_plain g.1 ≡ true → are_plain (field_types_of fs) ≡ true → are_plain (field_types_of (put_by (λ x y. label_cmp x.0 y.0) f fs)) ≡ true → are_plain (field_types_of (cond b (g ∷ put_by (λ x y. label_cmp x.0 y.0) f fs) (f ∷ g ∷ fs))) ≡ true
put_row_by f g fs true p q r h = both (is_plain g.1) (are_plain (field_types_of (put_by (λ x y. label_cmp x.0 y.0) f fs))) q h
put_row_by f g fs false p q r h = both (is_plain f.1) (is_plain g.1 && are_plain (field_types_of fs)) p (both (is_plain g.1) (are_plain (field_types_of fs)) q r)

put_row : (f : List ℕ × TypeTree) (fs : List (List ℕ × TypeTree)) → is_plain f.1 ≡ true → are_plain (field_types_of fs) ≡ true → are_plain (field_types_of (put_by (λ x y. label_cmp x.0 y.0) f fs)) ≡ true
put_row f [] p h = both (is_plain f.1) true p refl
put_row f (g ∷ fs) p h =
    let s = and_split (is_plain g.1) (are_plain (field_types_of fs)) h in
    put_row_by f g fs (is_gt (label_cmp f.0 g.0)) p s.0 s.1 (put_row f fs p s.1)

table_plain : (columns : Columns) → is_plain (rec (field_types_of (by_label (map (λ column. (column.0, base_type column.1)) columns)))) ≡ true
table_plain [] = refl
table_plain (c ∷ cs) =
    put_row (c.0, base_type c.1) (by_label (map (λ column. (column.0, base_type column.1)) cs)) (base_plain c.1) (table_plain cs)

bag_is_plain : (a : TypeTree) → IsPlainBag a → is_plain a ≡ true
bag_is_plain (TypeTree.bag a) h = h
bag_is_plain _ h = absurd h

module _ (schema : Schema) where
  -- types of terms are well formed
  mutual
    pub has_well : (g : List TypeTree) → AllWell g → (t : TermTree) (A : TypeTree) → HasType schema g t A → is_well_formed A ≡ true
    has_well g w (TermTree.var j) A h = get_well g j A w h
    has_well g w (TermTree.int n) A h = well_is A TypeTree.int h refl
    has_well g w (TermTree.bool b) A h = well_is A TypeTree.bool h refl
    has_well g w (TermTree.text t) A h = well_is A TypeTree.text h refl
    has_well g w (TermTree.table l) A h = well_is A (table_type h.0.columns) h.2 (table_plain h.0.columns)
    has_well g w (TermTree.unary op t) A h = plain_well A (based A h.1 h.4)
    has_well g w (TermTree.binary op t u) A h = plain_well A (based A h.2 h.6)
    has_well g w (TermTree.choose t u v) A h = has_well g w u A h.1
    has_well g w (TermTree.fun k t) A h = well_is A (TypeTree.fun k h.0) h.3 (both (is_well_formed k) (is_well_formed h.0) h.1 (has_well (k ∷ g) (h.1, w) t h.0 h.2))
    has_well g w (TermTree.apply t u) A h = (and_split (is_well_formed h.0) (is_well_formed A) (has_well g w t (TypeTree.fun h.0 A) h.1)).1
    has_well g w (TermTree.rec fs) A h = well_is A (TypeTree.rec h.0) h.2 (have_well g w fs h.0 h.1)
    has_well g w (TermTree.field t l) A h = field_well l A h.0 (has_well g w t (TypeTree.rec h.0) h.1) h.2
    has_well g w (TermTree.aggregate o t) A h = let b = aggregate_base o h.0 A h.2 in plain_well A (based A b.0 b.1)
    has_well g w (TermTree.single t) A h = well_is A (TypeTree.bag h.0) h.3 h.2
    has_well g w (TermTree.nil k) A h = well_is A (TypeTree.bag k) h.1 h.0
    has_well g w (TermTree.union t u) A h = has_well g w t A h.2
    has_well g w (TermTree.for t u) A h = has_well (h.0 ∷ g) (plain_well h.0 (has_well g w t (TypeTree.bag h.0) h.2), w) u A h.3
    has_well g w (TermTree.guard t u) A h = has_well g w u A h.2
    has_well g w (TermTree.bind t u) A h = has_well (h.0 ∷ g) (has_well g w t h.0 h.1, w) u A h.2

    have_well : (g : List TypeTree) → AllWell g → (fs : TermFields) (ks : FieldTypes) → HaveTypes schema g fs ks → are_well_formed ks ≡ true
    have_well g w TermFields.none ks h = ap are_well_formed h
    have_well g w (TermFields.with_field l t fs) ks h =
        ap are_well_formed h.4 ∙ put_well l h.0 h.1 ∙ both (is_well_formed h.0) (are_well_formed h.1) (has_well g w t h.0 h.2) (have_well g w fs h.1 h.3)

  -- the ranks of types of parts are within the fuel
  mutual
    pub has_rank : (g : List TypeTree) → AllWell g → (t : TermTree) (A : TypeTree) → HasType schema g t A → rank A ≤ most g + fuel t
    has_rank g w (TermTree.var j) A h = let s = get_most g j A h in omega (arith, s)
    has_rank g w (TermTree.int n) A h = low A TypeTree.int _ h refl
    has_rank g w (TermTree.bool b) A h = low A TypeTree.bool _ h refl
    has_rank g w (TermTree.text t) A h = low A TypeTree.text _ h refl
    has_rank g w (TermTree.table l) A h = low A (table_type h.0.columns) _ h.2 refl
    has_rank g w (TermTree.unary op t) A h = plain_low A _ (based A h.1 h.4)
    has_rank g w (TermTree.binary op t u) A h = plain_low A _ (based A h.2 h.6)
    has_rank g w (TermTree.choose t u v) A h = let s = has_rank g w u A h.1 in omega (arith, s)
    has_rank g w (TermTree.fun k t) A h =
        let s = has_rank (k ∷ g) (h.1, w) t h.0 h.2 in
        let e : rank A ≡ suc (max (rank k) (rank h.0)) = ap rank h.3 in
        omega (arith, s, e)
    has_rank g w (TermTree.apply t u) A h = let s = has_rank g w t (TypeTree.fun h.0 A) h.1 in omega (arith, s)
    has_rank g w (TermTree.rec fs) A h =
        let s = have_rank g w fs h.0 h.1 in
        let e : rank A ≡ ranks h.0 = ap rank h.2 in
        omega (arith, s, e)
    has_rank g w (TermTree.field t l) A h =
        let s = has_rank g w t (TypeTree.rec h.0) h.1 in
        let e = field_rank l A h.0 h.2 in
        omega (arith, s, e)
    has_rank g w (TermTree.aggregate o t) A h = let b = aggregate_base o h.0 A h.2 in plain_low A _ (based A b.0 b.1)
    has_rank g w (TermTree.single t) A h = low A (TypeTree.bag h.0) _ h.3 refl
    has_rank g w (TermTree.nil k) A h = low A (TypeTree.bag k) _ h.1 refl
    has_rank g w (TermTree.union t u) A h = low A (TypeTree.bag h.0) _ h.1 refl
    has_rank g w (TermTree.for t u) A h = low A (TypeTree.bag h.1) _ h.4 refl
    has_rank g w (TermTree.guard t u) A h = low A (TypeTree.bag h.0) _ h.3 refl
    has_rank g w (TermTree.bind t u) A h =
        let s = has_rank g w t h.0 h.1 in
        let r = has_rank (h.0 ∷ g) (has_well g w t h.0 h.1, w) u A h.2 in
        omega (arith, s, r)

    have_rank : (g : List TypeTree) → AllWell g → (fs : TermFields) (ks : FieldTypes) → HaveTypes schema g fs ks → ranks ks ≤ most g + fuel_fields fs
    have_rank g w TermFields.none ks h = let e : ranks ks ≡ 0 = ap ranks h in omega (arith, e)
    have_rank g w (TermFields.with_field l t fs) ks h =
        let e : ranks ks ≡ ranks (put_type l h.0 h.1) = ap ranks h.4 in
        let p = put_rank l h.0 h.1 in
        let s = has_rank g w t h.0 h.2 in
        let r = have_rank g w fs h.1 h.3 in
        omega (arith, e, p, s, r)

  abbrev Walks : List TypeTree → PlacedTerm → TypeTree → PlacedTerm → Type 0
  Walks g t A r = Steps t r × Still (bare r) × HasType schema g (bare r) A

  module _ (n : ℕ) where
    mutual
      pub walk_good : (g : List TypeTree) → AllWell g → (t : PlacedTerm) (A : TypeTree) → HasType schema g (bare t) A → most g + fuel (bare t) ≤ n → Walks g t A (walk n t)
      walk_good g w (at z (PlacedNode.var j)) A h m = (here, tt, h)
      walk_good g w (at z (PlacedNode.int i)) A h m = (here, tt, h)
      walk_good g w (at z (PlacedNode.bool b)) A h m = (here, tt, h)
      walk_good g w (at z (PlacedNode.text s)) A h m = (here, tt, h)
      walk_good g w (at z (PlacedNode.table l)) A h m = (here, tt, h)
      walk_good g w (at z (PlacedNode.unary op t)) A h m =
          let a = walk_good g w t (base_type h.0) h.2 (omega (arith, m)) in
          (one step step (λ x. at z (PlacedNode.unary op x)) (λ x. None) (λ x. refl) a.0, a.1, (h.0, h.1, a.2, h.3, h.4))
      walk_good g w (at z (PlacedNode.binary op t u)) A h m =
          let a = walk_good g w t (base_type h.0) h.3 (omega (arith, m)) in
          let b = walk_good g w u (base_type h.1) h.4 (omega (arith, m)) in
          (two step step step (λ x y. at z (PlacedNode.binary op x y)) (λ x y. None) (λ x y. refl) a.0 (still_ended (walk n t) a.1) b.0, (a.1, b.1), (h.0, h.1, h.2, a.2, b.2, h.5, h.6))
      walk_good g w (at z (PlacedNode.choose t u v)) A h m =
          let a = walk_good g w t TypeTree.bool h.0 (omega (arith, m)) in
          let b = walk_good g w u A h.1 (omega (arith, m)) in
          let c = walk_good g w v A h.2 (omega (arith, m)) in
          (steps_choose z a.0 (still_ended (walk n t) a.1) b.0 (still_ended (walk n u) b.1) c.0, (a.1, b.1, c.1), (a.2, b.2, c.2))
      walk_good g w (at z (PlacedNode.fun k t)) A h m =
          let a = walk_good (k ∷ g) (h.1, w) t h.0 h.2 (omega (arith, m)) in
          (one step step (λ x. at z (PlacedNode.fun k x)) (λ x. None) (λ x. refl) a.0, a.1, (h.0, h.1, a.2, h.3))
      walk_good g w (at z (PlacedNode.apply t u)) A h m =
          let a = walk_good g w t (TypeTree.fun h.0 A) h.1 (omega (arith, m)) in
          let b = walk_good g w u h.0 h.2 (omega (arith, m)) in
          let s = has_rank g w (bare t) (TypeTree.fun h.0 A) h.1 in
          let r = apply_good schema n g z (walk n t) (walk n u) h.0 A a.2 b.2 a.1 b.1 (inr (omega (arith, s, m))) in
          (join (two step step step (λ x y. at z (PlacedNode.apply x y)) (contract_apply z) (λ x y. refl) a.0 (still_ended (walk n t) a.1) b.0) r.0, r.1, r.2)
      walk_good g w (at z (PlacedNode.rec fs)) A h m =
          let a = walks_good g w fs h.0 h.1 (omega (arith, m)) in
          (one step_fields step (λ x. at z (PlacedNode.rec x)) (λ x. None) (λ x. refl) a.0, a.1, (h.0, a.2, h.2))
      walk_good g w (at z (PlacedNode.field t l)) A h m =
          let a = walk_good g w t (TypeTree.rec h.0) h.1 (omega (arith, m)) in
          let r = field_good schema g z (walk n t) h.0 l A a.2 h.2 a.1 in
          (join (one step step (λ x. at z (PlacedNode.field x l)) (λ x. contract_field z x l) (λ x. refl) a.0) r.0, r.1, r.2)
      walk_good g w (at z (PlacedNode.aggregate o t)) A h m =
          let a = walk_good g w t (TypeTree.bag h.0) h.1 (omega (arith, m)) in
          (one step step (λ x. at z (PlacedNode.aggregate o x)) (λ x. None) (λ x. refl) a.0, a.1, (h.0, a.2, h.2))
      walk_good g w (at z (PlacedNode.single t)) A h m =
          let a = walk_good g w t h.0 h.1 (omega (arith, m)) in
          (one step step (λ x. at z (PlacedNode.single x)) (λ x. None) (λ x. refl) a.0, a.1, (h.0, a.2, h.2, h.3))
      walk_good g w (at z (PlacedNode.nil k)) A h m = (here, tt, h)
      walk_good g w (at z (PlacedNode.union t u)) A h m =
          let a = walk_good g w t A h.2 (omega (arith, m)) in
          let b = walk_good g w u A h.3 (omega (arith, m)) in
          (two step step step (λ x y. at z (PlacedNode.union x y)) (λ x y. None) (λ x y. refl) a.0 (still_ended (walk n t) a.1) b.0, (a.1, b.1), (h.0, h.1, a.2, b.2))
      walk_good g w (at z (PlacedNode.for t u)) A h m =
          let p = has_well g w (bare t) (TypeTree.bag h.0) h.2 in
          let e = plain_rank h.0 p in
          let a = walk_good g w t (TypeTree.bag h.0) h.2 (omega (arith, m)) in
          let b = walk_good (h.0 ∷ g) (plain_well h.0 p, w) u A h.3 (omega (arith, m, e)) in
          (two step step step (λ x y. at z (PlacedNode.for x y)) (λ x y. None) (λ x y. refl) a.0 (still_ended (walk n t) a.1) b.0, (a.1, b.1), (h.0, h.1, a.2, b.2, h.4))
      walk_good g w (at z (PlacedNode.guard t u)) A h m =
          let a = walk_good g w t TypeTree.bool h.1 (omega (arith, m)) in
          let b = walk_good g w u A h.2 (omega (arith, m)) in
          (two step step step (λ x y. at z (PlacedNode.guard x y)) (λ x y. None) (λ x y. refl) a.0 (still_ended (walk n t) a.1) b.0, (a.1, b.1), (h.0, a.2, b.2, h.3))
      walk_good g w (at z (PlacedNode.bind t u)) A h m =
          let a = walk_good g w t h.0 h.1 (omega (arith, m)) in
          let s = has_rank g w (bare t) h.0 h.1 in
          let b = walk_good (h.0 ∷ g) (has_well g w (bare t) h.0 h.1, w) u A h.2 (omega (arith, m, s)) in
          let r = substitution_unfolds schema n g h.0 A (walk n t) (walk n u) (omega (arith, m, s)) a.2 a.1 b.2 b.1 in
          let e = still_ended (walk n t) a.1 in
          let f = still_ended (walk n u) b.1 in
          let last : step (at z (PlacedNode.bind (walk n t) (walk n u))) ≡ Some (subst 0 (walk n t) (walk n u)) = rw (e, f) refl in
          (join (two step step step (λ x y. at z (PlacedNode.bind x y)) (λ x y. Some (subst 0 x y)) (λ x y. refl) a.0 e b.0) (after last r.0), r.1, r.2)

      pub walks_good : (g : List TypeTree) → AllWell g → (fs : PlacedFields) (ks : FieldTypes) → HaveTypes schema g (bare_fields fs) ks → most g + fuel_fields (bare_fields fs) ≤ n → Chain step_fields fs (walk_fields n fs) × AreStill (bare_fields (walk_fields n fs)) × HaveTypes schema g (bare_fields (walk_fields n fs)) ks
      walks_good g w PlacedFields.none ks h m = (here, tt, h)
      walks_good g w (PlacedFields.with_field l t fs) ks h m =
          let a = walk_good g w t h.0 h.2 (omega (arith, m)) in
          let b = walks_good g w fs h.1 h.3 (omega (arith, m)) in
          (two step step_fields step_fields (PlacedFields.with_field l) (λ x y. None) (λ x y. refl) a.0 (still_ended (walk n t) a.1) b.0, (a.1, b.1), (h.0, h.1, a.2, b.2, h.4))

  -- among variables of plain types the fuel of the term is enough
  pub unfolded_unfolds : (g : List TypeTree) → AllPlain g → (t : PlacedTerm) (A : TypeTree) → HasType schema g (bare t) A → Unfolds t (unfolded t) × Still (bare (unfolded t)) × HasType schema g (bare (unfolded t)) A
  unfolded_unfolds g p t A h =
      let z = plain_most g p in
      let r = walk_good (fuel (bare t)) g (plain_all_well g p) t A h (omega (arith, z)) in
      (record { steps = r.0; ended = still_ended (unfolded t) r.1 }, r.1, r.2)

  -- among variables of plain types what is neutral has a plain type
  neutral_plain : (g : List TypeTree) → AllPlain g → (t : TermTree) (A : TypeTree) → HasType schema g t A → Still t → IsNeutral t → is_plain A ≡ true
  neutral_plain g p (TermTree.var j) A h s i = get_plain g j A p h
  neutral_plain g p (TermTree.apply t u) A h s i = no_plain_fn h.0 A (neutral_plain g p t (TypeTree.fun h.0 A) h.1 s.0 (neutral_fn schema g t h.0 A u h.1 s.0 s.2))
  neutral_plain g p (TermTree.field t l) A h s i = field_plain l A h.0 (neutral_plain g p t (TypeTree.rec h.0) h.1 s.0 (neutral_rec schema g t h.0 l A h.1 h.2 s.0 s.1)) h.2
  neutral_plain g p _ A h s i = absurd i

  bag_plain : (g : List TypeTree) → AllPlain g → (t : TermTree) (A : TypeTree) → HasType schema g t (TypeTree.bag A) → is_plain A ≡ true
  bag_plain g p t A h = has_well g (plain_all_well g p) t (TypeTree.bag A) h

  -- what stands still among variables of plain types, and has a plain type, is plain
  mutual
    pub plain_of : (g : List TypeTree) → AllPlain g → (t : TermTree) (A : TypeTree) → HasType schema g t A → is_plain A ≡ true → Still t → IsPlainTerm t
    plain_of g p (TermTree.var j) A h q s = tt
    plain_of g p (TermTree.int i) A h q s = tt
    plain_of g p (TermTree.bool b) A h q s = tt
    plain_of g p (TermTree.text i) A h q s = tt
    plain_of g p (TermTree.table l) A h q s = tt
    plain_of g p (TermTree.unary op t) A h q s = plain_of g p t (base_type h.0) h.2 (base_plain h.0) s
    plain_of g p (TermTree.binary op t u) A h q s =
        (plain_of g p t (base_type h.0) h.3 (base_plain h.0) s.0, plain_of g p u (base_type h.1) h.4 (base_plain h.1) s.1)
    plain_of g p (TermTree.choose t u v) A h q s =
        (plain_of g p t TypeTree.bool h.0 refl s.0, plain_of g p u A h.1 q s.1, plain_of g p v A h.2 q s.2)
    plain_of g p (TermTree.fun k t) A h q s = no_plain_fn k h.0 (plain_is A (TypeTree.fun k h.0) h.3 q)
    plain_of g p (TermTree.apply t u) A h q s =
        no_plain_fn h.0 A (neutral_plain g p t (TypeTree.fun h.0 A) h.1 s.0 (neutral_fn schema g t h.0 A u h.1 s.0 s.2))
    plain_of g p (TermTree.rec fs) A h q s = plains_of g p fs h.0 h.1 (plain_is A (TypeTree.rec h.0) h.2 q) s
    plain_of g p (TermTree.field t l) A h q s =
        plain_of g p t (TypeTree.rec h.0) h.1 (neutral_plain g p t (TypeTree.rec h.0) h.1 s.0 (neutral_rec schema g t h.0 l A h.1 h.2 s.0 s.1)) s.0
    plain_of g p (TermTree.aggregate o t) A h q s = plain_of g p t (TypeTree.bag h.0) h.1 (bag_plain g p t h.0 h.1) s
    plain_of g p (TermTree.single t) A h q s = plain_of g p t h.0 h.1 h.2 s
    plain_of g p (TermTree.nil k) A h q s = tt
    plain_of g p (TermTree.union t u) A h q s = (plain_of g p t A h.2 q s.0, plain_of g p u A h.3 q s.1)
    plain_of g p (TermTree.for t u) A h q s =
        let b = bag_plain g p t h.0 h.2 in
        (plain_of g p t (TypeTree.bag h.0) h.2 b s.0, plain_of (h.0 ∷ g) (b, p) u A h.3 q s.1)
    plain_of g p (TermTree.guard t u) A h q s = (plain_of g p t TypeTree.bool h.1 refl s.0, plain_of g p u A h.2 q s.1)
    plain_of g p (TermTree.bind t u) A h q s = absurd s

    plains_of : (g : List TypeTree) → AllPlain g → (fs : TermFields) (ks : FieldTypes) → HaveTypes schema g fs ks → are_plain ks ≡ true → AreStill fs → ArePlainTerms fs
    plains_of g p TermFields.none ks h q s = tt
    plains_of g p (TermFields.with_field l t fs) ks h q s =
        let b = and_split (is_plain h.0) (are_plain h.1) (sym (put_plain l h.0 h.1) ∙ ap are_plain (sym h.4) ∙ q) in
        (plain_of g p t h.0 h.2 b.0 s.0, plains_of g p fs h.1 h.3 b.1 s.1)

  -- what an accepted term unfolds to
  pub is_unfolding : (t : PlacedTerm) (a : TypeTree) → IsAccepted schema (bare t) a → IsUnfolding schema t (unfolded t)
  is_unfolding t a h =
      let r = unfolded_unfolds [] tt t a h.typed in
      record {
        unfolds = r.0;
        plain = plain_of [] tt (bare (unfolded t)) a r.2 (bag_is_plain a h.plain_bag) r.1;
        closed = typed_closed schema [] 0 refl (bare (unfolded t)) a r.2;
        proper = walk_proper (fuel (bare t)) t;
        keeps = λ b i. (unfolded_unfolds [] tt t b i).2;
      }
