use Rattle.std.proofs.Common.{rules}
use Rattle.nq_types.specs.Found.{types_found}
use Rattle.nq_top.proofs.Explainings.{type_explained, type_written}
use Rattle.nq_top.proofs.explain.explain_term.Goals as goal

pub returns-in-Ok : goal.returns-in-Ok
returns-in-Ok c =
    type_written c.args.schema.now c.args.file.now c.args.text.now c.args.term.now c.in-Ok.ty
    c.type_line.result c.in-Ok.ensures.ok c.type_line.ensures

pub returns-in_ok-found-in-Err-Ill : goal.returns-in_ok-found-in-Err-Ill
returns-in_ok-found-in-Err-Ill c =
    type_explained c.args.schema.now c.args.file.now c.args.text.now c.args.term.now
    c.in-Err-Ill.rule c.from.result c.in-Err-Ill.place (types_found c.as_slice-types.result.now)
    c.explain_type.result (search rules) c.from.ensures (search rules) c.explain_type.ensures
