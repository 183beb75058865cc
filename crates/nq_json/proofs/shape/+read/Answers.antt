use Rattle.std.proofs.Common.{◌≡◌, List, [], ◌∷◌, ◌++◌, map, ap, sym, subst, ◌∙◌}
use Rattle.std.proofs.lemmas.List.{drop_all, map-append}
use Rattle.nq_model.specs.Types.{type_tree, field_types_of, fields_view}
use Rattle.nq_model.specs.Values.{nested, fields_of, fields_view as values_view}
use Rattle.nq_model.proofs.Trees.{nested_record}
use Rattle.serde_json.specs.View.{view, items_view, members_view}
use Rattle.serde_json.specs.declared.value.Value.{Value as Json}
use Rattle.serde_json.proofs.Views.{Entry}
use Rattle.nq_json.proofs.Parts.{record_read}
use Rattle.nq_json.proofs.Walks.{Walked, walk_more, walk_end, ItemsLeft, items_end}
use Rattle.nq_json.proofs.shape.+read.Goals as goal

pub read_record-returns-clause-ok : goal.read_record-returns-clause-ok
read_record-returns-clause-ok t c =
    let fields = rw c.in_ok-advance.ensures at c.in_ok-read_fields.ensures.ok in
    rw (nested_record c.in_ok-read_fields.field-0)
    (record_read c.args.node.now c.read_fields.new.node (view c.args.json.now) (field_types_of (fields_view c.args.fields.now)) (members_view c.in-Some.map.now.entries)
    (fields_of (values_view c.in_ok-read_fields.field-0)) (sym c.in-Some.ensures) (sym c.if-not-has_labels.ensures.is) c.has_labels.ensures.rising fields)

pub read_fields-loop-field-preserved : goal.read_fields-loop-field-preserved
read_fields-loop-field-preserved t c =
    let l = c.loop-field in
    let fields = c.args.fields.now in
    let from = c.args.node.now in
    let all = c.args.map.now.entries in
    let f = c.field-item.result in
    let e : Entry = (c.in-Some.field-0-0.now, c.in-Some.member.now) in
    let left = c.next.new.self in
    let done = values_view l.values in
    let old = subst (λ (es : List Entry). Walked fields from all l.field-index l.node es done) c.in-Some.ensures.steps l.invariant.walked in
    let more = walk_more fields from all l.field-index l.node f c.loop-field-test.true c.field-item.is e left done old c.read.new.node (nested c.in_ok-value.value) c.in_ok-value.ensures.ok in
    let pushed : values_view c.push.new.self ≡ done ++ (f.0, nested c.in_ok-value.value) ∷ [] = ap values_view c.in_ok-push.ensures.ok ∙ map-append _ l.values _ ∙ rw c.in_ok-copy.ensures in
    record { can = tt; finite = tt; walked = rw pushed more }

pub read_fields-returns-clause-ok : goal.read_fields-returns-clause-ok
read_fields-returns-clause-ok t c =
    walk_end c.args.fields.now c.args.node.now c.args.map.now.entries c.loop-field.field-index c.loop-field.node c.loop-field.members (values_view c.loop-field.values) c.loop-field-test.false
    c.loop-field.invariant.walked

pub read_items-returns-clause-ok : goal.read_items-returns-clause-ok
read_items-returns-clause-ok t c =
    let l = c.loop-item in
    let none = drop_all l.item-index c.args.items.now c.loop-item-test.false in
    let of = type_tree c.args.of.now in
    let all = items_view c.args.items.now in
    items_end of c.args.node.now all l.node (map nested l.values)
    (subst (λ (vs : List Json). ItemsLeft of c.args.node.now all l.node (items_view vs) (map nested l.values)) none l.invariant)
