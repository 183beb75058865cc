use Rattle.std.proofs.Common.{◌≡◌, ◌++◌, drop}
use Rattle.nq_model.specs.Types.{field_types_of, fields_view}
use Rattle.nq_ir.specs.Parts.{element_types_in}
use Rattle.stitcher.specs.Stitching.{spans_of}
use Rattle.stitcher.proofs.spans.+spans.Given as goal

abbrev pub invariant-push_field_spans-loop-field : goal.invariant-push_field_spans-loop-field
invariant-push_field_spans-loop-field l =
    l.spans ++ spans_of (element_types_in (field_types_of (fields_view (drop l.field-index l.fields))))
    ≡ l.initial.spans ++ spans_of (element_types_in (field_types_of (fields_view l.fields)))
