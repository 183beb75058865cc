use Rattle.nq_top.proofs.Explainings.{fault_if_ok, spelled_if_ok}
use Rattle.nq_top.proofs.explain.explain_text.Goals as goal

pub returns-in-Ok : goal.returns-in-Ok
returns-in-Ok c =
    spelled_if_ok c.args.schema.now c.args.file.now c.args.text.now c.in-Ok.term
    c.explain_term.result c.in-Ok.ensures.parsed c.explain_term.ensures

pub returns-in-Err : goal.returns-in-Err
returns-in-Err c =
    fault_if_ok c.args.schema.now c.args.file.now c.args.text.now c.in-Err.fault
    c.explain_syntax.result c.in-Err.ensures.parsed c.explain_syntax.ensures
