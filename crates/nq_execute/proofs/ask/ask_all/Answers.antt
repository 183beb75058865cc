use Rattle.std.proofs.Common.{◌≡◌, [], ◌∷◌, ◌++◌, Err, arith, refl, rules, subst, sym, ◌∙◌}
use Rattle.nq_execute.specs.Asking.{HaveFittingRows}
use Rattle.nq_execute.specs.Plans.{AsksFor}
use Rattle.nq_execute.proofs.Asks.{asking_none, both_length, may_ask, asked_more, asked_in_vain, all_asked, some_asked, refused_counts}
use Rattle.nq_execute.specs.declared.refusal.ServerRefusal.TheVariants as refusal
use Rattle.nq_execute.proofs.ask.ask_all.Goals as goal

pub loop-at-init : goal.loop-at-init
loop-at-init g c = asking_none c.args.texts.now c.args.columns.now _ _ _ _ _ c.in_ok-answers.answers c.in_ok-answers.ensures

pub bounds-columns-at : goal.bounds-columns-at
bounds-columns-at g c =
    let held = (goal.SqlServer-dyn g (c.args.server.now.vtable, c.args.server.now.value)).loaded c.args.server.now.value in
    let columned = both_length (AsksFor held) c.args.columns.now c.args.texts.now c.requires.askable in
    omega (arith, columned, c.loop-at-test.true)

pub ask_one-requires-clause-rows : goal.ask_one-requires-clause-rows
ask_one-requires-clause-rows g c = subst HaveFittingRows (sym c.loop-at.invariant.tables) c.requires.rows

pub ask_one-requires-clause-askable : goal.ask_one-requires-clause-askable
ask_one-requires-clause-askable g c =
    may_ask c.args.texts.now c.args.columns.now _ _ _ _ _ _ _ _ _ _ _ _ c.loop-at.invariant c.requires.askable c.as_slice.result.now c.as_slice-in-loop-at.result.now c.loop-at-test.true
    (c.as_slice-in-loop-at.ensures ∙ cc) (c.as_slice.ensures ∙ cc)

pub returns-in_err-answer-clause-counts : goal.returns-in_err-answer-clause-counts
returns-in_err-answer-clause-counts g c =
    let is : c.from_residual-in_err-answer.result ≡ Err c.in_err-answer.field-0.0 = search rules in
    refused_counts c.args.texts.now c.args.columns.now _ _ _ _ _ _ _ _ _ _ _ _ c.loop-at.invariant c.requires.askable _ c.in_err-answer.field-0.0 c.from_residual-in_err-answer.result is c.in_err-answer.ensures.counts

pub returns-in_err-answer-clause-tells : goal.returns-in_err-answer-clause-tells
returns-in_err-answer-clause-tells g c =
    let is : c.from_residual-in_err-answer.result ≡ Err c.in_err-answer.field-0.0 = search rules in
    asked_in_vain c.args.texts.now c.args.columns.now _ _ _ _ _ _ _ _ _ _ _ _ c.loop-at.invariant c.requires.askable c.as_slice.result.now c.as_slice-in-loop-at.result.now c.loop-at-test.true
    (c.as_slice-in-loop-at.ensures ∙ cc) (c.as_slice.ensures ∙ cc) _ _ c.in_err-answer.field-0.0 c.from_residual-in_err-answer.result is c.in_err-answer.ensures.tables_stay c.in_err-answer.ensures.tells

pub loop-at-preserved : goal.loop-at-preserved
loop-at-preserved g c =
    asked_more c.args.texts.now c.args.columns.now _ _ _ _ _ _ _ _ _ _ _ _ c.loop-at.invariant c.requires.askable c.as_slice.result.now c.as_slice-in-loop-at.result.now c.loop-at-test.true
    (c.as_slice-in-loop-at.ensures ∙ cc) (c.as_slice.ensures ∙ cc) _ _ _ _ _ c.in_ok-answer.answer c.push.new.self
    c.in_ok-answer.ensures.tables_stay c.in_ok-answer.ensures.honesty_stays c.in_ok-answer.ensures.bound_stays c.in_ok-answer.ensures.counts c.in_ok-answer.ensures.telling c.in_ok-answer.ensures.tells c.in_ok-push.ensures.ok

pub returns-clause-tells : goal.returns-clause-tells
returns-clause-tells g c = all_asked c.args.texts.now c.args.columns.now _ _ _ _ _ _ _ _ _ _ _ _ c.loop-at.invariant c.requires.askable c.loop-at-test.false c.loop-at.auto.at-end

-- memory ran out before the first text, and after an answer
pub returns-in_err-answers-clause-tells : goal.returns-in_err-answers-clause-tells
returns-in_err-answers-clause-tells g c =
    let is : c.from_residual.result ≡ Err refusal.Memory = search rules in
    let none = asking_none c.args.texts.now c.args.columns.now _ _ _ 0 0 [] refl in
    some_asked c.args.texts.now c.args.columns.now _ _ _ _ _ _ _ _ _ _ 0 [] none c.requires.askable c.from_residual.result is (omega arith)

pub returns-in_err-push-clause-tells : goal.returns-in_err-push-clause-tells
returns-in_err-push-clause-tells g c =
    let is : c.from_residual-in_err-push.result ≡ Err refusal.Memory = search rules in
    let more =
    asked_more c.args.texts.now c.args.columns.now _ _ _ _ _ _ _ _ _ _ _ _ c.loop-at.invariant c.requires.askable c.as_slice.result.now c.as_slice-in-loop-at.result.now c.loop-at-test.true
    (c.as_slice-in-loop-at.ensures ∙ cc) (c.as_slice.ensures ∙ cc) _ _ _ _ _ c.in_ok-answer.answer (c.loop-at.answers ++ c.in_ok-answer.answer ∷ [])
    c.in_ok-answer.ensures.tables_stay c.in_ok-answer.ensures.honesty_stays c.in_ok-answer.ensures.bound_stays c.in_ok-answer.ensures.counts c.in_ok-answer.ensures.telling c.in_ok-answer.ensures.tells refl in
    some_asked c.args.texts.now c.args.columns.now _ _ _ _ _ _ _ _ _ _ _ _ more c.requires.askable c.from_residual-in_err-push.result is (omega (arith, c.loop-at-test.true))
