-- The canonical form of records and bags, from that of their parts.
use Rattle.std.proofs.Common.{◌≡◌, ℕ, List, [], ◌∷◌, map, refl, ap, ◌∙◌}
use Rattle.nq_model.specs.Orders.{sorted_by}
use Rattle.nq_model.specs.Values.{Nested, Fields, field, rec, elements_of, fields_of, bag_of, rec_of}
use Rattle.nq_model.specs.Canonical.{canonical, canonical_fields, value_cmp}
use Rattle.nq_model.proofs.Sameness.{elements_back}
use Rattle.nq_model.proofs.Canonical.{canonical_sorted}

canonical_fields-of : (fs : List (List ℕ × Nested)) → canonical_fields (fields_of fs)
    ≡ fields_of (map (λ f. (f.0, canonical f.1)) fs)
canonical_fields-of [] = refl
canonical_fields-of (f ∷ fs) = ap (λ (rest : Fields). field f.0 (canonical f.1) rest)
    (canonical_fields-of fs)

pub canonical_record : (fs : List (List ℕ × Nested)) → canonical (rec_of fs)
    ≡ rec_of (map (λ f. (f.0, canonical f.1)) fs)
canonical_record fs = ap rec (canonical_fields-of fs)

pub canonical_bag : (vs : List Nested) → canonical (bag_of vs)
    ≡ bag_of (sorted_by value_cmp (map canonical vs))
canonical_bag vs =
    ap bag_of (canonical_sorted (elements_of vs) ∙ ap (λ (l : List Nested). sorted_by value_cmp
    (map canonical l)) (elements_back vs))
