-- Equality of types, and which of them are well formed.
use Rattle.std.proofs.Common.{◌≡◌, ℕ, suc, ◌&&◌, Bool, true, false, bytes_eq, length, List, [], ◌∷◌, refl, ap, sym, subst, Decides}
use Rattle.std.specs.Cmp.Lexicographic.{nat_list_eq_equiv, same_text}
use Rattle.nq_model.specs.Types.{TypeTree, FieldTypes, type_eq, field_types_eq, field_types_of, is_plain, are_plain, is_well_formed, are_well_formed}

and_false : (a b : Bool) → b ≡ false → (a && b) ≡ false
and_false true b e = e
and_false false b e = refl

pub differ_in_length : (fs gs : List (List ℕ × TypeTree)) → (length fs ≡ length gs → ⊥) → field_types_eq (field_types_of fs) (field_types_of gs) ≡ false
differ_in_length [] [] h = absurd (h refl)
differ_in_length [] (g ∷ gs) h = refl
differ_in_length (f ∷ fs) [] h = refl
differ_in_length (f ∷ fs) (g ∷ gs) h =
    and_false (bytes_eq f.0 g.0) _ (and_false (type_eq f.1 g.1) _ (differ_in_length fs gs (λ e. h (ap suc e))))

pub and_split : (a b : Bool) → (a && b) ≡ true → (a ≡ true) × (b ≡ true)
and_split true b e = (refl, e)
and_split false b e = cc

pub both : (a b : Bool) → a ≡ true → b ≡ true → (a && b) ≡ true
both a b p q = rw (p, q) refl

mutual
  pub type_eq_self : (a : TypeTree) → type_eq a a ≡ true
  type_eq_self TypeTree.int = refl
  type_eq_self TypeTree.bool = refl
  type_eq_self TypeTree.text = refl
  type_eq_self (TypeTree.rec fs) = field_types_eq_self fs
  type_eq_self (TypeTree.bag a) = type_eq_self a
  type_eq_self (TypeTree.fun a b) = both (type_eq a a) _ (type_eq_self a) (type_eq_self b)

  field_types_eq_self : (fs : FieldTypes) → field_types_eq fs fs ≡ true
  field_types_eq_self FieldTypes.none = refl
  field_types_eq_self (FieldTypes.field l a fs) =
      both (bytes_eq l l) _ (nat_list_eq_equiv.refl l) (both (type_eq a a) _ (type_eq_self a) (field_types_eq_self fs))

mutual
  pub type_eq_true : (a b : TypeTree) → type_eq a b ≡ true → a ≡ b
  type_eq_true TypeTree.int TypeTree.int e = refl
  type_eq_true TypeTree.bool TypeTree.bool e = refl
  type_eq_true TypeTree.text TypeTree.text e = refl
  type_eq_true (TypeTree.rec fs) (TypeTree.rec gs) e = ap TypeTree.rec (field_types_eq_true fs gs e)
  type_eq_true (TypeTree.bag a) (TypeTree.bag b) e = ap TypeTree.bag (type_eq_true a b e)
  type_eq_true (TypeTree.fun a b) (TypeTree.fun c d) e =
      let h = and_split (type_eq a c) (type_eq b d) e in
      cc (type_eq_true a c h.0, type_eq_true b d h.1)
  type_eq_true _ _ e = cc

  field_types_eq_true : (fs gs : FieldTypes) → field_types_eq fs gs ≡ true → fs ≡ gs
  field_types_eq_true FieldTypes.none FieldTypes.none e = refl
  field_types_eq_true (FieldTypes.field l a fs) (FieldTypes.field m b gs) e =
      let h = and_split (bytes_eq l m) (type_eq a b && field_types_eq fs gs) e in
      let g = and_split (type_eq a b) (field_types_eq fs gs) h.1 in
      cc (same_text l m (sym h.0), type_eq_true a b g.0, field_types_eq_true fs gs g.1)
  field_types_eq_true _ _ e = cc

-- what is plain is well formed
mutual
  pub plain_well_formed : (a : TypeTree) → is_plain a ≡ true → is_well_formed a ≡ true
  plain_well_formed TypeTree.int e = refl
  plain_well_formed TypeTree.bool e = refl
  plain_well_formed TypeTree.text e = refl
  plain_well_formed (TypeTree.rec fs) e = all_plain_well_formed fs e
  plain_well_formed (TypeTree.bag a) e = e
  plain_well_formed (TypeTree.fun a b) e = cc

  all_plain_well_formed : (fs : FieldTypes) → are_plain fs ≡ true → are_well_formed fs ≡ true
  all_plain_well_formed FieldTypes.none e = refl
  all_plain_well_formed (FieldTypes.field l a fs) e =
      let h = and_split (is_plain a) (are_plain fs) e in
      both (is_well_formed a) (are_well_formed fs) (plain_well_formed a h.0) (all_plain_well_formed fs h.1)

pub type_eq_Decides : (a b : TypeTree) → Decides (type_eq a b) (a ≡ b)
type_eq_Decides a b =
    (type_eq_true a b, λ e. let P : TypeTree → Type 0 = λ x. type_eq a x ≡ true in subst P e (type_eq_self a))
