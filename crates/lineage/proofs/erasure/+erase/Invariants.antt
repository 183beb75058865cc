use Rattle.std.proofs.Common.{◌≡◌, map, take}
use Rattle.nq_model.specs.Values.{nested, fields_view}
use Rattle.traced_meaning.specs.TracedValues.{erased, erased_element}
use Rattle.lineage.specs.TracedTrees.{traced_element, traced_fields}
use Rattle.lineage.proofs.erasure.+erase.Given as goal

abbrev pub invariant-erase_fields-loop-field : goal.invariant-erase_fields-loop-field
invariant-erase_fields-loop-field l =
    fields_view l.values ≡ map (λ f. (f.0, erased f.1))
    (traced_fields (take l.field-index l.fields))

abbrev pub invariant-erase_elements-loop-element : goal.invariant-erase_elements-loop-element
invariant-erase_elements-loop-element l =
    map nested l.values ≡ map erased_element (map traced_element (take l.element-index l.elements))
