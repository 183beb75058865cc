use Rattle.std.proofs.Common.{◌≡◌, drop}
use Rattle.nq_ir.specs.Trees.{bodies_of}
use Rattle.lineage.specs.Places.{bodies_view, field_body}
use Rattle.lineage.proofs.places.push_field.Given as goal

abbrev pub invariant-loop-field : goal.invariant-loop-field
invariant-loop-field l =
    (l.found ≡ l.initial.found)
    × (field_body l.label (bodies_of (bodies_view (drop l.field-index l.fields)))
    ≡ field_body l.label (bodies_of (bodies_view l.fields)))
