use Rattle.std.proofs.Common.{ℕ, ◌+◌, List, ap, sym, subst, map, arith, rules, drop}
use Rattle.std.proofs.lemmas.List.{drop_all}
use Rattle.nq_model.specs.declared.value.Value.{Value}
use Rattle.stitcher.specs.Walks.{Stands}
use Rattle.nq_model.specs.Types.{type_tree}
use Rattle.nq_model.specs.Values.{nested}
use Rattle.stitcher.specs.Stitching.{rows_of}
use Rattle.stitcher.proofs.Walking.{falls_here, no_deeper, Filled, types_of, groups_here, none_gathered, place_low, here_stands, next_gathered, all_gathered, head_stands, next_filled, all_values}
use Rattle.stitcher.proofs.nested.+element.Goals as goal

pub elements-loop-place-init : goal.elements-loop-place-init
elements-loop-place-init g t c =
    let S = g.S.IndexScheme.scheme c.args.from.now.scheme.now in
    let ans = rows_of c.args.from.now.answers.now in
    let has = groups_here S ans g.S.Index.PartialEq.eq c.args.from.now.groups c.args.from.now.spans (type_tree c.args.of.now) c.args.path c.groups-groups.result.now c.requires.ready c.requires.path c.groups-groups.ensures in
    none_gathered S ans g.S.Index.PartialEq.eq c.groups-groups.result.now.firsts c.groups-groups.result.now.nexts (type_tree c.args.of.now) c.args.path c.args.index.now (map nested c.new-values.result) c.first-place.result (g.met.S.IndexScheme.compares c.args.from.now.scheme.now) has.grouped (ap (map nested) c.new-values.ensures) c.first-place.ensures

pub elements-row-requires : goal.elements-row-requires
elements-row-requires g t c =
    let S = g.S.IndexScheme.scheme c.args.from.now.scheme.now in
    let ans = rows_of c.args.from.now.answers.now in
    place_low S ans c.groups-groups.result.now.nexts (type_tree c.args.of.now) c.args.path c.args.index.now (map nested c.loop-place.values) c.loop-place.place c.loop-place.invariant

pub elements-element-requires : goal.elements-element-requires
elements-element-requires g t c κs within =
    let S = g.S.IndexScheme.scheme c.args.from.now.scheme.now in
    let ans = rows_of c.args.from.now.answers.now in
    let has = groups_here S ans g.S.Index.PartialEq.eq c.args.from.now.groups c.args.from.now.spans (type_tree c.args.of.now) c.args.path c.groups-groups.result.now c.requires.ready c.requires.path c.groups-groups.ensures in
    let stands : Stands S ans c.in_ok-walk.walk (type_tree c.args.of.now) = here_stands S ans c.groups-groups.result.now.nexts (type_tree c.args.of.now) c.args.path c.args.index.now (map nested c.loop-place.values) c.loop-place.place c.row.result c.in_ok-walk.walk has.counted c.requires.path c.loop-place-test.true c.row.ensures c.in_ok-walk.ensures c.loop-place.invariant in
    search rules

pub elements-next-place-requires-clause-there : goal.elements-next-place-requires-clause-there
elements-next-place-requires-clause-there g t c =
    let S = g.S.IndexScheme.scheme c.args.from.now.scheme.now in
    let ans = rows_of c.args.from.now.answers.now in
    place_low S ans c.groups-groups.result.now.nexts (type_tree c.args.of.now) c.args.path c.args.index.now (map nested c.loop-place.values) c.loop-place.place c.loop-place.invariant

pub elements-loop-place-preserved : goal.elements-loop-place-preserved
elements-loop-place-preserved g t c =
    let S = g.S.IndexScheme.scheme c.args.from.now.scheme.now in
    let ans = rows_of c.args.from.now.answers.now in
    let has = groups_here S ans g.S.Index.PartialEq.eq c.args.from.now.groups c.args.from.now.spans (type_tree c.args.of.now) c.args.path c.groups-groups.result.now c.requires.ready c.requires.path c.groups-groups.ensures in
    next_gathered S ans c.groups-groups.result.now.nexts (type_tree c.args.of.now) c.args.path c.args.index.now c.loop-place.values c.push.new.self c.in_ok-element.field-0 c.loop-place.place c.row.result c.next-place.result c.in_ok-walk.walk has.counted c.loop-place-test.true c.row.ensures c.next-place.ensures c.in_ok-walk.ensures c.in_ok-element.ensures.value c.in_ok-push.ensures.ok c.loop-place.invariant

pub elements-returns : goal.elements-returns
elements-returns g t c =
    let S = g.S.IndexScheme.scheme c.args.from.now.scheme.now in
    let ans = rows_of c.args.from.now.answers.now in
    all_gathered S ans c.groups-groups.result.now.nexts (type_tree c.args.of.now) c.args.path c.args.index.now (map nested c.loop-place.values) c.loop-place.place (omega arith) c.loop-place.invariant

pub field_values-element-requires : goal.field_values-element-requires
field_values-element-requires g t c κs within =
    let S = g.S.IndexScheme.scheme c.args.from.now.scheme.now in
    let ans = rows_of c.args.from.now.answers.now in
    let stands : Stands S ans c.loop-field.walk (type_tree c.field-item.result.1) = head_stands S ans c.args.fields.now c.loop-field.field-index c.field-item.result c.loop-field.walk c.loop-field-test.true c.field-item.is c.loop-field.invariant.stands in
    (no_deeper _ t (falls_here _ c.args.fields.now c.loop-field.field-index c.field-item.result t c.decreases c.loop-field-test.true c.field-item.is), (within.0, (within.1, (c.requires.ready, stands))))

pub field_values-loop-field-preserved : goal.field_values-loop-field-preserved
field_values-loop-field-preserved g t c =
    let S = g.S.IndexScheme.scheme c.args.from.now.scheme.now in
    let ans = rows_of c.args.from.now.answers.now in
    let more = next_filled S ans c.args.walk.now (types_of c.args.fields.now) c.loop-field.values c.loop-field.walk c.element.new.walk c.args.fields.now c.loop-field.field-index c.field-item.result c.in_ok-label.label c.in_ok-element.field-0 c.loop-field-test.true c.field-item.is c.in_ok-label.ensures c.in_ok-element.ensures.value c.in_ok-element.ensures.past c.loop-field.invariant in
    subst (λ (made : List (List ℕ × Value)). Filled S ans c.args.walk.now (types_of c.args.fields.now) made c.element.new.walk (types_of (drop (c.loop-field.field-index + 1) c.args.fields.now))) (sym c.in_ok-push.ensures.ok) more

pub field_values-returns-clause-values : goal.field_values-returns-clause-values
field_values-returns-clause-values g t c =
    let S = g.S.IndexScheme.scheme c.args.from.now.scheme.now in
    let ans = rows_of c.args.from.now.answers.now in
    all_values S ans c.args.walk.now (types_of c.args.fields.now) c.loop-field.values c.loop-field.walk (types_of (drop c.loop-field.field-index c.args.fields.now)) (ap types_of (drop_all c.loop-field.field-index c.args.fields.now (omega arith))) c.loop-field.invariant
