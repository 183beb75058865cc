use Rattle.std.proofs.Common.{◌≡◌, ◌+◌, drop}
use Rattle.nq_model.specs.Types.{field_types_of, fields_view}
use Rattle.nq_ir.specs.Parts.{bags_in}
use Rattle.reference_stitching.proofs.counts.+bags.Given as goal

abbrev pub invariant-bags_in-loop-field : goal.invariant-bags_in-loop-field
invariant-bags_in-loop-field l =
    l.count + bags_in (field_types_of (fields_view (drop l.field-index l.fields)))
    ≡ bags_in (field_types_of (fields_view l.fields))
