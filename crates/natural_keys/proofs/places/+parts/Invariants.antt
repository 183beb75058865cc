use Rattle.std.proofs.Common.{◌≡◌, drop}
use Rattle.nq_model.specs.Types.{field_types_of, fields_view}
use Rattle.natural_keys.specs.Levels.{with_parts}
use Rattle.natural_keys.proofs.places.+parts.Given as goal

abbrev pub invariant-put_fields-loop-field : goal.invariant-put_fields-loop-field
invariant-put_fields-loop-field l =
    with_parts l.index l.places (field_types_of (fields_view (drop l.field-index l.fields)))
    ≡ with_parts l.index l.initial.places (field_types_of (fields_view l.fields))
