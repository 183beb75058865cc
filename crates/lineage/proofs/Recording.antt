-- Traced values as values of records, by their parts.
use Rattle.std.proofs.Common.{◌≡◌, List, [], ◌∷◌, map, refl, ap}
use Rattle.nq_model.proofs.Trees.{nested_record, nested_bag}
use Rattle.nq_model.specs.NamedRows.{Label}
use Rattle.nq_model.specs.Values.{Nested, rec, rec_of, bag_of, field, fields_of, elements_of, more}
use Rattle.lineage.specs.Recorded.{recorded, fields_recorded, elements_recorded, element_recorded}

pub recorded_record : (fs : List (Label × Nested))
    → recorded (rec_of fs) ≡ rec_of (map (λ f. (f.0, recorded f.1)) fs)
recorded_record fs = ap rec (go fs)
  where
    go : (fs : List (Label × Nested)) → fields_recorded (fields_of fs)
        ≡ fields_of (map (λ f. (f.0, recorded f.1)) fs)
    go [] = refl
    go (f ∷ fs) = ap (field f.0 (recorded f.1)) (go fs)

pub recorded_bag : (vs : List Nested) → recorded (bag_of vs) ≡ bag_of (map element_recorded vs)
recorded_bag vs = ap Nested.bag (go vs)
  where
    go : (vs : List Nested) → elements_recorded (elements_of vs)
        ≡ elements_of (map element_recorded vs)
    go [] = refl
    go (v ∷ vs) = ap (more (element_recorded v)) (go vs)

pub ruleset recorded_forms = (nested_record, nested_bag, recorded_record, recorded_bag)
