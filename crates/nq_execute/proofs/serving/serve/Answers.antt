use Rattle.std.proofs.Common.{◌≡◌, Err, [], rules}
use Rattle.nq_execute.specs.Plans.{finish_view, plan_view}
use Rattle.nq_execute.proofs.Serves.{all_loaded, plan_refused, all_fit, finishable, text_serves, text_unwritten}
use Rattle.nq_execute.specs.declared.refusal.ServerRefusal.TheVariants as refusal
use Rattle.nq_execute.proofs.serving.serve.Goals as goal

pub returns-in_err-answers-clause-tells : goal.returns-in_err-answers-clause-tells
returns-in_err-answers-clause-tells g c =
    let is : c.from_residual-in_err-answers.result ≡ Err c.in_err-answers.field-0.0 = search rules in
    plan_refused (plan_view c.args.plan) _ _ _ _ _ _ _ _ c.as_slice.result.now c.as_slice-2.result.now
    (all_loaded _ _ _ c.requires.empty c.in_ok-load_tables.ensures.tells) c.in_ok-load_tables.ensures.asks_stay c.in_ok-load_tables.ensures.honesty_stays c.as_slice.ensures c.as_slice-2.ensures
    c.in_err-answers.field-0.0 c.from_residual-in_err-answers.result is (c.in_err-answers.ensures.tells (finish_view c.args.plan.finish))

pub write_answers-requires-clause-finishable : goal.write_answers-requires-clause-finishable
write_answers-requires-clause-finishable g c = finishable (plan_view c.args.plan) c.as_slice-columns.result.now c.requires.servable c.as_slice-columns.ensures

pub write_answers-requires-clause-fit : goal.write_answers-requires-clause-fit
write_answers-requires-clause-fit g c =
    all_fit (plan_view c.args.plan) [] _ [] _ _ _ _ _ c.as_slice.result.now c.as_slice-2.result.now
    (all_loaded _ _ _ c.requires.empty c.in_ok-load_tables.ensures.tells) c.in_ok-load_tables.ensures.asks_stay c.in_ok-load_tables.ensures.honesty_stays c.as_slice.ensures c.as_slice-2.ensures
    c.in_ok-answers.answers c.as_slice-columns.result.now c.requires.servable (c.in_ok-answers.ensures.tells (finish_view c.args.plan.finish)) c.as_slice-columns.ensures

-- memory ran out when all texts were answered
pub returns-in_err-write_answers-clause-tells : goal.returns-in_err-write_answers-clause-tells
returns-in_err-write_answers-clause-tells g c =
    let is : c.from_residual-in_err-write_answers.result ≡ Err refusal.Memory = search rules in
    text_unwritten (plan_view c.args.plan) _ _ _ _ _ _ _ _ c.as_slice.result.now c.as_slice-2.result.now
    (all_loaded _ _ _ c.requires.empty c.in_ok-load_tables.ensures.tells) c.in_ok-load_tables.ensures.asks_stay c.in_ok-load_tables.ensures.honesty_stays c.as_slice.ensures c.as_slice-2.ensures
    c.in_ok-answers.answers c.from_residual-in_err-write_answers.result is c.in_ok-answers.ensures.tables_stay (c.in_ok-answers.ensures.tells (finish_view c.args.plan.finish))

pub returns-clause-tells : goal.returns-clause-tells
returns-clause-tells g c =
    text_serves (plan_view c.args.plan) _ _ _ _ _ _ _ _ c.as_slice.result.now c.as_slice-2.result.now
    (all_loaded _ _ _ c.requires.empty c.in_ok-load_tables.ensures.tells) c.in_ok-load_tables.ensures.asks_stay c.in_ok-load_tables.ensures.honesty_stays c.as_slice.ensures c.as_slice-2.ensures
    c.in_ok-answers.answers c.in_ok-write_answers.field-0 c.in_ok-answers.ensures.tables_stay (c.in_ok-answers.ensures.tells (finish_view c.args.plan.finish)) c.in_ok-write_answers.ensures
