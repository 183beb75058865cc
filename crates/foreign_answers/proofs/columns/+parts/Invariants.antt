use Rattle.std.proofs.Common.{◌≡◌, drop}
use Rattle.nq_model.specs.Types.{field_types_of, fields_view}
use Rattle.foreign_answers.specs.Columns.{with_parts}
use Rattle.foreign_answers.proofs.columns.+parts.Given as goal

abbrev pub invariant-put_fields-loop-field : goal.invariant-put_fields-loop-field
invariant-put_fields-loop-field l =
    with_parts l.tags (field_types_of (fields_view (drop l.field-index l.fields)))
    ≡ with_parts l.initial.tags (field_types_of (fields_view l.fields))
