use Rattle.std.proofs.Common.{◌≡◌, drop}
use Rattle.nq_model.specs.Types.{field_types_of, fields_view}
use Rattle.stitcher.specs.FlatNumbers.{with_parts}
use Rattle.stitcher.proofs.flat.+parts.Given as goal

abbrev pub invariant-put_fields-loop-field : goal.invariant-put_fields-loop-field
invariant-put_fields-loop-field l =
    with_parts l.level (field_types_of (fields_view (drop l.field-index l.fields)))
    ≡ with_parts l.initial.level (field_types_of (fields_view l.fields))
