use Rattle.std.proofs.Common.{◌≡◌, ◌+◌, ◌++◌, length, drop}
use Rattle.nq_model.specs.Types.{field_types_of, fields_view}
use Rattle.shred_types.specs.Columns.{fields_columns}
use Rattle.query_json.specs.Parents.{field_parents}
use Rattle.query_json.proofs.parents.+parents.Given as goal

abbrev pub invariant-push_field_parents-loop-field : goal.invariant-push_field_parents-loop-field
invariant-push_field_parents-loop-field l = record {
  pushed : l.list ++ field_parents (field_types_of (fields_view (drop l.field-index l.fields))) l.around l.next (length l.list + 1)
      ≡ l.initial.list ++ field_parents (field_types_of (fields_view l.fields)) l.around l.column (length l.initial.list + 1);
  behind : l.next + length (fields_columns (field_types_of (fields_view (drop l.field-index l.fields))))
      ≡ l.column + length (fields_columns (field_types_of (fields_view l.fields)));
}
