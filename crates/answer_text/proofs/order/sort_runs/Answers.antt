use Rattle.std.proofs.Common.{refl}
use Rattle.answer_text.proofs.Running.{none_done, one_more, not_parted}
use Rattle.answer_text.proofs.order.sort_runs.Goals as goal

pub loop-start-init : goal.loop-start-init
loop-start-init c = none_done c.args.element.now c.args.rows.now c.args.places.now c.args.spans.now
    c.requires

pub loop-start-preserved : goal.loop-start-preserved
loop-start-preserved c =
    one_more c.args.element.now c.args.rows.now c.args.places.now c.loop-start.places
    c.loop-start.spans c.loop-start.start c.index_at-index.result c.loop-start.invariant
    c.loop-start-test.true c.index_at-index.ensures
    c.run_length-run.result _ c.behind-rest.result.now c.behind-rest.ensures
    c.run_length-run.ensures.within c.run_length-run.ensures.run c.run_length-run.ensures.ends
    refl
    c.put.new.self c.sort_run.new.places (c.has.ensures.none c.if-has.false)
    c.in_ok-sort_run.ensures.permutation c.in_ok-sort_run.ensures.sorted c.in_ok-put.ensures

pub shape_of-places : goal.shape_of-places
shape_of-places c = c.loop-start.invariant.long

pub returns-then-has-clause-parted : goal.returns-then-has-clause-parted
returns-then-has-clause-parted c =
    λ is_false. not_parted c.args.element.now c.args.rows.now c.args.places.now c.loop-start.places
    c.loop-start.spans c.loop-start.start c.index_at-index.result c.loop-start.invariant
    c.loop-start-test.true c.index_at-index.ensures (c.has.ensures.some c.if-has.true)
