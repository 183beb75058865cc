use Rattle.std.proofs.Common.{◌≡◌}
use Rattle.std.specs.Cmp.Lexicographic.{pointwise}
use Rattle.std.specs.Str.{bytes_eq}
use Rattle.nq_model.specs.Types.{field_types_of, fields_view}
use Rattle.serde_json.specs.View.{members_view}
use Rattle.nq_json.specs.Shapes.{has_labels}
use Rattle.nq_json.proofs.Walks.{keys_seen, labels_from}
use Rattle.nq_json.proofs.shape.has_labels.Given as goal

abbrev pub invariant-loop-field : goal.invariant-loop-field
invariant-loop-field l = record {
  can : (goal.iterator-loop-field).can_next l.keys;
  finite : (goal.iterator-loop-field).is_finite l.keys;
  so_far : has_labels (field_types_of (fields_view l.fields)) (members_view l.map.entries) ≡ pointwise bytes_eq (keys_seen l.keys) (labels_from l.fields l.field-index);
}
