use Rattle.std.proofs.Common.{◌≡◌, drop}
use Rattle.nq_model.specs.Types.{are_well_formed, field_types_of, fields_view}
use Rattle.nq_types.proofs.rules.+formed.Given as goal

abbrev pub invariant-are_well_formed-loop-field : goal.invariant-are_well_formed-loop-field
invariant-are_well_formed-loop-field l =
    are_well_formed (field_types_of (fields_view (drop l.field-index l.fields))) ≡ are_well_formed (field_types_of (fields_view l.fields))
