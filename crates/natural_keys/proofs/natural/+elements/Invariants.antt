use Rattle.std.proofs.Common.{◌≡◌, ◌++◌, drop, map}
use Rattle.nq_model.specs.Types.{type_tree, field_types_of, fields_view}
use Rattle.nq_ir.specs.Parts.{element_types_in}
use Rattle.natural_keys.proofs.natural.+elements.Given as goal

abbrev pub invariant-push_field_elements-loop-field : goal.invariant-push_field_elements-loop-field
invariant-push_field_elements-loop-field l =
    map type_tree l.all ++ element_types_in (field_types_of
    (fields_view (drop l.field-index l.fields)))
    ≡ map type_tree l.initial.all ++ element_types_in (field_types_of (fields_view l.fields))
