use Rattle.nq_model.specs.Terms.{placed}
use Rattle.nq_model.specs.Types.{type_tree}
use Rattle.nq_ir.specs.Trees.{form_tree}
use Rattle.nq_top.proofs.Showings.{line_shown, typed_accepted}
use Rattle.nq_top.proofs.show.normal_text.Goals as goal

pub normal_of-requires-clause-schema : goal.normal_of-requires-clause-schema
normal_of-requires-clause-schema c = c.requires.proper_schema

pub normal_of-requires-clause-proper : goal.normal_of-requires-clause-proper
normal_of-requires-clause-proper c = c.requires.proper

pub normal_of-requires-clause-accepted : goal.normal_of-requires-clause-accepted
normal_of-requires-clause-accepted c =
    typed_accepted c.args.schema.now (placed c.args.query.term) (type_tree c.args.query.ty) c.requires.typed

pub returns : goal.returns
returns c = λ plain.
    line_shown c.args.schema.now (placed c.args.query.term) (form_tree c.in_ok-normal.normal) c.in_ok-text.text c.push.new.self
    c.in_ok-text.ensures.is c.in_ok-push.ensures.ok plain (type_tree c.args.query.ty)
    (c.in_ok-normal.ensures plain (type_tree c.args.query.ty) c.requires.typed)
