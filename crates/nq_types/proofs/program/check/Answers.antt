use Rattle.nq_model.specs.Terms.{placed}
use Rattle.nq_types.proofs.Outcomes.{answers_ok, answers_only, answers_err, answers_accepted, answers_refused}
use Rattle.nq_types.proofs.program.check.Goals as goal

pub returns : goal.returns
returns c =
    let s = c.args.schema.now in
    let p = placed c.args.term.now in
    record {
      ok = answers_ok s p _ c.judge.ensures;
      only = answers_only s p _ c.judge.ensures;
      err = answers_err s p _ c.judge.ensures;
      accepted = answers_accepted s p _ c.judge.ensures;
      refused = answers_refused s p _ c.judge.ensures;
    }
