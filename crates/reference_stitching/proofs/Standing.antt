-- Parts of an element one behind the other.
use Rattle.std.proofs.Common.{◌≡◌, ℕ, suc, ◌+◌, ◌<◌, List, [], ◌∷◌, ◌++◌, refl, sym, ap, ◌∙◌, subst, get_or, length, drop, drop-cons, arith}
use Rattle.std.proofs.lemmas.List.{map-append}
use Rattle.nq_model.specs.Types.{TypeTree, FieldTypes, rec, none, field, type_tree}
use Rattle.nq_model.specs.Values.{Nested, Fields, fields_of, nested, fields_view}
use Rattle.nq_model.specs.declared.ty.Ty.{Ty}
use Rattle.nq_model.specs.declared.value.Value.{Value}
use Rattle.stitcher.proofs.Walking.{onto, types_of}
use Rattle.stitcher.specs.Schemes.{Scheme, AnswerRows}
use Rattle.reference_stitching.specs.Places.{Stands, behind, value_at, fields_at}
use Rattle.reference_stitching.specs.declared.place.Place.{Place}

onto_more : (vs : List (List ℕ × Nested)) (v : List ℕ × Nested) (fs : Fields) → onto (vs ++ v ∷ []) fs ≡ onto vs (Fields.field v.0 v.1 fs)
onto_more [] v fs = refl
onto_more (x ∷ vs) v fs = ap (λ z. Fields.field x.0 x.1 z) (onto_more vs v fs)

onto_none : (vs : List (List ℕ × Nested)) → onto vs Fields.none ≡ fields_of vs
onto_none [] = refl
onto_none (v ∷ vs) = ap (λ z. Fields.field v.0 v.1 z) (onto_none vs)

-- the type of the field at a place, and those behind it
types_here : (fields : List (List ℕ × Ty)) (k : ℕ) (f : List ℕ × Ty) → k < length fields → f ≡ get_or fields k f → types_of (drop k fields) ≡ field f.0 (type_tree f.1) (types_of (drop (suc k) fields))
types_here fields k f h is = ap types_of (drop-cons fields k f h ∙ ap (λ (z : List ℕ × Ty). z ∷ drop (suc k) fields) (sym is))

module _ {I : Type 0} (S : Scheme I) (ans : List AnswerRows) where
  stands_head : (at : Place) (l : List ℕ) (a : TypeTree) (fs : FieldTypes) → Stands S ans at (rec (field l a fs)) → Stands S ans at a
  stands_head at l a fs s = record {
    path = s.path;
    row = s.row;
    leaf = omega (arith, s.leaf);
    slot = omega (arith, s.slot);
    inner = record { types = s.inner.types.0; below = omega (arith, s.inner.below) };
  }

  stands_tail : (at : Place) (l : List ℕ) (a : TypeTree) (fs : FieldTypes) → Stands S ans at (rec (field l a fs)) → Stands S ans (behind at a) (rec fs)
  stands_tail at l a fs s = record {
    path = s.path;
    row = s.row;
    leaf = omega (arith, s.leaf);
    slot = omega (arith, s.slot);
    inner = record { types = s.inner.types.1; below = omega (arith, s.inner.below) };
  }

  -- the values of some fields, and where the others stand
  pub record Filled (begin : Place) (all : FieldTypes) (made : List (List ℕ × Value)) (at : Place) (left : FieldTypes) : Type 0 where
    pub stands : Stands S ans at (rec left)
    pub values : onto (fields_view made) (fields_at S ans at left) ≡ fields_at S ans begin all

  more_filled : (begin : Place) (all : FieldTypes) (made : List (List ℕ × Value)) (at : Place) (l : List ℕ) (a : TypeTree) (fs : FieldTypes) (x : Value) → nested x ≡ value_at S ans at a → Filled begin all made at (field l a fs) → Filled begin all (made ++ (l, x) ∷ []) (behind at a) fs
  more_filled begin all made at l a fs x is f =
      let longer : fields_view (made ++ (l, x) ∷ []) ≡ fields_view made ++ (l, value_at S ans at a) ∷ [] = map-append (λ (p : List ℕ × Value). (p.0, nested p.1)) made ((l, x) ∷ []) ∙ ap (λ (z : Nested). fields_view made ++ (l, z) ∷ []) is in
      record {
        stands = stands_tail at l a fs f.stands;
        values = ap (λ (z : List (List ℕ × Nested)). onto z (fields_at S ans (behind at a) fs)) longer ∙ onto_more (fields_view made) (l, value_at S ans at a) (fields_at S ans (behind at a) fs) ∙ f.values;
      }

  pub head_stands : (fields : List (List ℕ × Ty)) (k : ℕ) (f : List ℕ × Ty) (at : Place) → k < length fields → f ≡ get_or fields k f → Stands S ans at (rec (types_of (drop k fields))) → Stands S ans at (type_tree f.1)
  head_stands fields k f at h is s = stands_head at f.0 (type_tree f.1) (types_of (drop (suc k) fields)) (subst (λ (z : FieldTypes). Stands S ans at (rec z)) (types_here fields k f h is) s)

  pub next_filled : (begin : Place) (all : FieldTypes) (made more : List (List ℕ × Value)) (at next : Place) (fields : List (List ℕ × Ty)) (k : ℕ) (f : List ℕ × Ty) (l : List ℕ) (x : Value) → k < length fields → f ≡ get_or fields k f → l ≡ f.0 → nested x ≡ value_at S ans at (type_tree f.1) → next ≡ behind at (type_tree f.1) → more ≡ made ++ (l, x) ∷ [] → Filled begin all made at (types_of (drop k fields)) → Filled begin all more next (types_of (drop (k + 1) fields))
  next_filled begin all made more at next fields k f l x h is label value on longer g =
      let a = type_tree f.1 in
      let left = types_of (drop (suc k) fields) in
      let here : Filled begin all made at (field f.0 a left) = subst (λ (z : FieldTypes). Filled begin all made at z) (types_here fields k f h is) g in
      let filled : Filled begin all (made ++ (f.0, x) ∷ []) (behind at a) left = more_filled begin all made at f.0 a left x value here in
      let named : Filled begin all (made ++ (l, x) ∷ []) (behind at a) left = subst (λ (z : List ℕ). Filled begin all (made ++ (z, x) ∷ []) (behind at a) left) (sym label) filled in
      let there : Filled begin all (made ++ (l, x) ∷ []) next left = subst (λ (z : Place). Filled begin all (made ++ (l, x) ∷ []) z left) (sym on) named in
      let one : suc k ≡ k + 1 = omega arith in
      subst (λ (m : List (List ℕ × Value)). Filled begin all m next (types_of (drop (k + 1) fields))) (sym longer) (subst (λ (n : ℕ). Filled begin all (made ++ (l, x) ∷ []) next (types_of (drop n fields))) one there)

  pub all_values : (begin : Place) (all : FieldTypes) (made : List (List ℕ × Value)) (at : Place) (left : FieldTypes) → left ≡ none → Filled begin all made at left → fields_of (fields_view made) ≡ fields_at S ans begin all
  all_values begin all made at left e f =
      sym (onto_none (fields_view made)) ∙ ap (λ (z : FieldTypes). onto (fields_view made) (fields_at S ans at z)) (sym e) ∙ f.values
