use Rattle.std.proofs.Common.{◌≡◌, ◌+◌, drop}
use Rattle.nq_model.specs.Types.{field_types_of, fields_view}
use Rattle.nq_ir.specs.Parts.{leaves_in}
use Rattle.reference_stitching.proofs.counts.+leaves.Given as goal

abbrev pub invariant-leaves_in-loop-field : goal.invariant-leaves_in-loop-field
invariant-leaves_in-loop-field l =
    l.count + leaves_in (field_types_of (fields_view (drop l.field-index l.fields)))
    ≡ leaves_in (field_types_of (fields_view l.fields))
