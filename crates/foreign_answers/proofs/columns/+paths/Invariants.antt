use Rattle.std.proofs.Common.{◌≡◌, ◌++◌, drop, map}
use Rattle.nq_model.specs.Types.{field_types_of, fields_view}
use Rattle.nq_ir.specs.Parts.{element_types_in}
use Rattle.foreign_answers.specs.Columns.{tags_of}
use Rattle.foreign_answers.proofs.columns.+paths.Given as goal

abbrev pub invariant-push_field_columns-loop-field : goal.invariant-push_field_columns-loop-field
invariant-push_field_columns-loop-field l =
    l.columns ++ map tags_of (element_types_in (field_types_of (fields_view (drop l.field-index l.fields))))
    ≡ l.initial.columns ++ map tags_of (element_types_in (field_types_of (fields_view l.fields)))
