use Rattle.std.proofs.Common.{◌≡◌, drop}
use Rattle.nq_model.specs.Types.{field_types_of, fields_view}
use Rattle.nq_model.specs.Typing.{type_at}
use Rattle.nq_types.proofs.fields.field_type.Given as goal

abbrev pub invariant-loop-field : goal.invariant-loop-field
invariant-loop-field l =
    type_at l.label (field_types_of (fields_view (drop l.field-index l.fields))) ≡ type_at l.label (field_types_of (fields_view l.fields))
