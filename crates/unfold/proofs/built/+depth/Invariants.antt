use Rattle.std.proofs.Common.{◌≡◌, max, drop}
use Rattle.nq_model.specs.Terms.{term_fields_of, fields_view}
use Rattle.unfold.specs.Depths.{fields_depth}
use Rattle.unfold.proofs.built.+depth.Given as goal

abbrev pub invariant-fields_depth-loop-field : goal.invariant-fields_depth-loop-field
invariant-fields_depth-loop-field l =
    max l.deepest (fields_depth (term_fields_of (fields_view (drop l.field-index l.fields)))) ≡ fields_depth (term_fields_of (fields_view l.fields))
