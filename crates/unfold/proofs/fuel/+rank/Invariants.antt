use Rattle.std.proofs.Common.{◌≡◌, max, drop}
use Rattle.nq_model.specs.Types.{field_types_of, fields_view as types_view}
use Rattle.unfold.specs.Hereditary.{ranks}
use Rattle.unfold.proofs.fuel.+rank.Given as goal

abbrev pub invariant-rank_fields-loop-field : goal.invariant-rank_fields-loop-field
invariant-rank_fields-loop-field l =
    max l.all (ranks (field_types_of (types_view (drop l.field-index l.fields)))) ≡ ranks (field_types_of (types_view l.fields))
