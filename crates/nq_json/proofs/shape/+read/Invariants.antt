use Rattle.std.proofs.Common.{drop, map}
use Rattle.nq_model.specs.Types.{type_tree}
use Rattle.nq_model.specs.Values.{nested, fields_view as values_view}
use Rattle.serde_json.specs.View.{items_view}
use Rattle.nq_json.proofs.Walks.{ItemsLeft, Walked}
use Rattle.nq_json.proofs.shape.+read.Given as goal

abbrev pub invariant-read_fields-loop-field : goal.invariant-read_fields-loop-field
invariant-read_fields-loop-field l = record {
  can : (goal.iterator-read_fields-loop-field).can_next l.members;
  finite : (goal.iterator-read_fields-loop-field).is_finite l.members;
  walked : Walked l.fields l.initial.node l.map.entries l.field-index l.node l.members (values_view l.values);
}

abbrev pub invariant-read_items-loop-item : goal.invariant-read_items-loop-item
invariant-read_items-loop-item l = ItemsLeft (type_tree l.of) l.initial.node (items_view l.items) l.node (items_view (drop l.item-index l.items)) (map nested l.values)
