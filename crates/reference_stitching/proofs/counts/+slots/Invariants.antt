use Rattle.std.proofs.Common.{◌≡◌, ◌+◌, drop}
use Rattle.nq_model.specs.Types.{field_types_of, fields_view}
use Rattle.nq_ir.specs.Parts.{slots_in}
use Rattle.reference_stitching.proofs.counts.+slots.Given as goal

abbrev pub invariant-slots_in-loop-field : goal.invariant-slots_in-loop-field
invariant-slots_in-loop-field l =
    l.count + slots_in (field_types_of (fields_view (drop l.field-index l.fields)))
    ≡ slots_in (field_types_of (fields_view l.fields))
