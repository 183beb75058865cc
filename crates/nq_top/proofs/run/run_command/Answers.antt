use Rattle.std.proofs.Common.{rules}
use Rattle.command_line.specs.Words.{command_view}
use Rattle.nq_top.proofs.Runs.{runs_refused, runs_unserved, runs_put, runs_failed}
use Rattle.nq_top.proofs.run.run_command.Goals as goal

pub returns-in_err-gathered : goal.returns-in_err-gathered
returns-in_err-gathered g c =
    runs_refused (command_view c.args.command) _ _ c.in_err-gathered.field-0.0 _ (search rules) c.in_err-gathered.ensures.counts c.in_err-gathered.ensures.tells

pub returns-in_err-text : goal.returns-in_err-text
returns-in_err-text g c =
    runs_unserved (command_view c.args.command) _ _ _ c.in_ok-gathered.gathered c.in_err-text.field-0.0 _ (search rules)
    c.in_ok-gathered.ensures.counts c.in_ok-gathered.ensures.tells c.in_ok-gathered.ensures.servable c.in_ok-gathered.ensures.asks
    c.in_err-text.ensures.honesty_stays c.in_err-text.ensures.bound_stays c.in_err-text.ensures.telling c.in_err-text.ensures.leaves
    c.in_err-text.ensures.counts c.in_err-text.ensures.tells

pub returns-in_err-put : goal.returns-in_err-put
returns-in_err-put g c =
    runs_failed (command_view c.args.command) _ _ _ _ c.in_ok-gathered.gathered
    c.in_ok-gathered.ensures.counts c.in_ok-gathered.ensures.tells c.in_ok-gathered.ensures.servable c.in_ok-gathered.ensures.asks
    c.in_ok-text.ensures.honesty_stays c.in_ok-text.ensures.bound_stays c.in_ok-text.ensures.telling c.in_ok-text.ensures.leaves
    c.in_ok-text.text c.in_ok-text.ensures.tells c.in_ok-text.ensures.counts
    c.in_err-put.field-0.0 c.as_slice.result.now _ (search rules) c.as_slice.ensures c.in_err-put.ensures.counts c.in_err-put.ensures.appends

pub returns : goal.returns
returns g c =
    runs_put (command_view c.args.command) _ _ _ _ c.in_ok-gathered.gathered
    c.in_ok-gathered.ensures.counts c.in_ok-gathered.ensures.tells c.in_ok-gathered.ensures.servable c.in_ok-gathered.ensures.asks
    c.in_ok-text.ensures.honesty_stays c.in_ok-text.ensures.bound_stays c.in_ok-text.ensures.telling c.in_ok-text.ensures.leaves
    c.in_ok-text.text c.in_ok-text.ensures.tells c.in_ok-text.ensures.counts
    _ c.as_slice.result.now c.as_slice.ensures c.in_ok-put.ensures.counts c.in_ok-put.ensures.appends
