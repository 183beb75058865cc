use Rattle.std.proofs.Common.{refl, sym, subst as along}
use Rattle.nq_model.specs.Terms.{placed}
use Rattle.nq_model.specs.Unfolding.{step}
use Rattle.reference_terms.specs.Stepping.{Then}
use Rattle.reference_terms.proofs.Stepping.{one_more_field}
use Rattle.reference_terms.proofs.stepper.+step.Goals as goal

pub step_fields-loop-label-preserved-in-Continue-1 :
    goal.step_fields-loop-label-preserved-in-Continue-1
step_fields-loop-label-preserved-in-Continue-1 t c =
    let moved = c.loop-label.moved in
    let term = placed c.in-Some.term in
    one_more_field c.in-Some.label c.in-Some.term c.in-Some.term c.loop-label.yielded c.loop-label.all c.push.new.self moved moved c.loop-label.invariant
    (along (λ b. Then b (step term) term moved term) (sym c.if-moved.true) (c.if-moved.true, refl)) c.in_ok-push.ensures.ok

pub step_fields-loop-label-preserved : goal.step_fields-loop-label-preserved
step_fields-loop-label-preserved t c =
    let moved = c.in_ok-stepped.stepped.moved in
    let term = placed c.in-Some.term in
    let after = c.in_ok-stepped.stepped.term in
    one_more_field c.in-Some.label c.in-Some.term after c.loop-label.yielded c.loop-label.all c.push-else-moved.new.self c.loop-label.moved moved c.loop-label.invariant
    (along (λ b. Then b (step term) term moved (placed after)) (sym c.if-moved.false) c.in_ok-stepped.ensures) c.in_ok-push-2.ensures.ok
