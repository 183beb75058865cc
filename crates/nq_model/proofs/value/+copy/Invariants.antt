use Rattle.std.proofs.Common.{◌≡◌, take, map}
use Rattle.nq_model.specs.Values.{nested, fields_view}
use Rattle.nq_model.proofs.value.+copy.Given as goal

abbrev pub invariant-copy_fields-loop-field : goal.invariant-copy_fields-loop-field
invariant-copy_fields-loop-field l =
    fields_view l.copies ≡ fields_view (take l.field-index l.fields)

abbrev pub invariant-copy_elements-loop-element :
    goal.invariant-copy_elements-loop-element
invariant-copy_elements-loop-element l = map nested l.copies ≡ map nested (take l.element-index l.elements)
