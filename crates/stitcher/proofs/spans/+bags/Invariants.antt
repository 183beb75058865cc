use Rattle.std.proofs.Common.{◌≡◌, ◌+◌, drop}
use Rattle.nq_model.specs.Types.{field_types_of, fields_view}
use Rattle.nq_ir.specs.Parts.{bags_in}
use Rattle.stitcher.proofs.spans.+bags.Given as goal

abbrev pub invariant-field_bags-loop-field : goal.invariant-field_bags-loop-field
invariant-field_bags-loop-field l =
    l.count + bags_in (field_types_of (fields_view (drop l.field-index l.fields)))
    ≡ bags_in (field_types_of (fields_view l.fields))
