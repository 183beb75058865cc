use Rattle.std.proofs.Common.{◌≡◌, map, take}
use Rattle.nq_model.specs.Values.{nested, fields_view}
use Rattle.lineage.specs.Recorded.{recorded, element_recorded}
use Rattle.lineage.proofs.records.+record.Given as goal

abbrev pub invariant-fields_recorded-loop-field : goal.invariant-fields_recorded-loop-field
invariant-fields_recorded-loop-field l =
    fields_view l.made ≡ map (λ f. (f.0, recorded f.1)) (fields_view (take l.field-index l.fields))

abbrev pub invariant-elements_recorded-loop-element : goal.invariant-elements_recorded-loop-element
invariant-elements_recorded-loop-element l =
    map nested l.made ≡ map element_recorded (map nested (take l.element-index l.elements))
