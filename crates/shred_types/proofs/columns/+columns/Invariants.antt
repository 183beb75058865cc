use Rattle.std.proofs.Common.{◌≡◌, ◌++◌, drop}
use Rattle.nq_model.specs.Types.{field_types_of, fields_view}
use Rattle.shred_types.specs.Columns.{fields_columns}
use Rattle.shred_types.proofs.columns.+columns.Given as goal

abbrev pub invariant-push_field_columns-loop-field : goal.invariant-push_field_columns-loop-field
invariant-push_field_columns-loop-field l =
    l.columns ++ fields_columns (field_types_of (fields_view (drop l.field-index l.fields)))
    ≡ l.initial.columns ++ fields_columns (field_types_of (fields_view l.fields))
