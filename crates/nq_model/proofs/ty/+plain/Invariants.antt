use Rattle.std.proofs.Common.{◌≡◌, drop}
use Rattle.nq_model.specs.Types.{are_plain, field_types_of, fields_view}
use Rattle.nq_model.proofs.ty.+plain.Given as goal

abbrev pub invariant-fields_plain-loop-field : goal.invariant-fields_plain-loop-field
invariant-fields_plain-loop-field l =
    are_plain (field_types_of (fields_view (drop l.field-index l.fields))) ≡ are_plain (field_types_of (fields_view l.fields))
