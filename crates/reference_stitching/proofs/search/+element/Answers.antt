use Rattle.std.proofs.Common.{ap, arith, drop}
use Rattle.std.proofs.lemmas.List.{drop_all}
use Rattle.nq_model.specs.Types.{type_tree}
use Rattle.stitcher.proofs.Walking.{falls_here, no_deeper, types_of}
use Rattle.stitcher.specs.Stitching.{rows_of}
use Rattle.reference_stitching.proofs.Standing.{head_stands, next_filled, all_values}
use Rattle.reference_stitching.specs.Places.{Stands}
use Rattle.reference_stitching.proofs.search.+element.Goals as goal

pub field_values-element-requires : goal.field_values-element-requires
field_values-element-requires g t c κs within =
    let S = g.S.IndexScheme.scheme c.args.scheme.now in
    let ans = rows_of c.args.answers.now in
    let stands : Stands S ans c.loop-field.here (type_tree c.field-item.result.1) = head_stands S ans c.args.fields.now c.loop-field.field-index c.field-item.result c.loop-field.here c.loop-field-test.true c.field-item.is c.loop-field.invariant.stands in
    (no_deeper _ t (falls_here _ c.args.fields.now c.loop-field.field-index c.field-item.result t c.decreases c.loop-field-test.true c.field-item.is), (within.0, (within.1, (c.requires.given, stands))))

pub field_values-loop-field-preserved : goal.field_values-loop-field-preserved
field_values-loop-field-preserved g t c =
    let S = g.S.IndexScheme.scheme c.args.scheme.now in
    let ans = rows_of c.args.answers.now in
    next_filled S ans c.args.at (types_of c.args.fields.now) c.loop-field.values c.push.new.self c.loop-field.here c.in_ok-here.here c.args.fields.now c.loop-field.field-index c.field-item.result c.in_ok-label.label c.in_ok-element.field-0 c.loop-field-test.true c.field-item.is c.in_ok-label.ensures c.in_ok-element.ensures c.in_ok-here.ensures c.in_ok-push.ensures.ok c.loop-field.invariant

pub field_values-returns : goal.field_values-returns
field_values-returns g t c =
    let S = g.S.IndexScheme.scheme c.args.scheme.now in
    let ans = rows_of c.args.answers.now in
    all_values S ans c.args.at (types_of c.args.fields.now) c.loop-field.values c.loop-field.here (types_of (drop c.loop-field.field-index c.args.fields.now)) (ap types_of (drop_all c.loop-field.field-index c.args.fields.now (omega arith))) c.loop-field.invariant
