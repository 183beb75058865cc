-- Canonical texts of values of one type are equal exactly where the values are the same.
use Rattle.std.proofs.Common.{◌≡◌, ◌++◌, ap, arith, List, [], ◌∷◌, codes, ◌↔◌}
use Rattle.std.specs.List.{AllByRecursion as Each}
use Rattle.nq_model.specs.Types.{TypeTree, FieldTypes}
use Rattle.nq_model.specs.Values.{Nested, Fields, Elements, elements_of, Same}
use Rattle.nq_model.specs.Canonical.{value_cmp, canonical, canonical_fields, canonical_elements, written, canonical_text}
use Rattle.nq_model.proofs.Canonical.{canonical_same, same_by_canonical}
use Rattle.nq_model.specs.ValueTypes.{IsOfType, FieldsAreOfTypes, ElementsAreOfType}
use Rattle.canon.proofs.Apart.{apart}
use Rattle.canon.proofs.Sorted.{each_put}

each_typed : (t : TypeTree) (xs : List Nested) → Each (IsOfType t) xs
    → ElementsAreOfType t (elements_of xs)
each_typed t [] e = tt
each_typed t (x ∷ xs) e = (e.0, each_typed t xs e.1)

-- the canonical form of a value is of the value's types
mutual
  pub canonical_typed : (t : TypeTree) (v : Nested) → IsOfType t v → IsOfType t (canonical v)
  canonical_typed t (Nested.base c) h = h
  canonical_typed (TypeTree.rec ts) (Nested.rec fs) h = canonical_fields_typed ts fs h
  canonical_typed (TypeTree.bag t) (Nested.bag vs) h = each_typed t (canonical_elements vs)
      (canonical_elements_typed t vs h)
  canonical_typed t v h = absurd h

  canonical_fields_typed : (ts : FieldTypes) (fs : Fields) → FieldsAreOfTypes ts fs
      → FieldsAreOfTypes ts (canonical_fields fs)
  canonical_fields_typed FieldTypes.none Fields.none h = tt
  canonical_fields_typed (FieldTypes.field l t ts) (Fields.field m v fs) h =
      (h.0, canonical_typed t v h.1, canonical_fields_typed ts fs h.2)
  canonical_fields_typed ts fs h = absurd h

  canonical_elements_typed : (t : TypeTree) (vs : Elements) → ElementsAreOfType t vs
      → Each (IsOfType t) (canonical_elements vs)
  canonical_elements_typed t Elements.end h = tt
  canonical_elements_typed t (Elements.more v vs) h =
      each_put (IsOfType t) value_cmp (canonical v) (canonical_elements vs)
      (canonical_typed t v h.0) (canonical_elements_typed t vs h.1)

pub texts_equal : (t : TypeTree) (v w : Nested) → IsOfType t v → IsOfType t w
    → (canonical_text v ≡ canonical_text w) ↔ Same v w
texts_equal t v w h k = (
  λ e. same_by_canonical v w (apart t (canonical v) (canonical w) (codes "\n") (codes "\n")
      (canonical_typed t v h) (canonical_typed t w k) (λ r. omega (arith, r), λ r. omega (arith, r))
      (λ r. omega (arith, r), λ r. omega (arith, r)) e).0,
  λ s. ap (λ (u : Nested). written u ++ codes "\n") (canonical_same v w s),
)
