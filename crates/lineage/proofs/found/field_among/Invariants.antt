use Rattle.std.proofs.Common.{◌≡◌, drop}
use Rattle.nq_model.specs.Meaning.{value_under}
use Rattle.nq_model.specs.Values.{fields_of, fields_view}
use Rattle.lineage.proofs.found.field_among.Given as goal

abbrev pub invariant-loop-field : goal.invariant-loop-field
invariant-loop-field l =
    value_under l.label (fields_of (fields_view (drop l.field-index l.fields)))
    ≡ value_under l.label (fields_of (fields_view l.fields))
