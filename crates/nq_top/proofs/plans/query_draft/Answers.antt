use Rattle.nq_model.specs.Terms.{placed}
use Rattle.nq_model.specs.Types.{type_tree}
use Rattle.nq_execute.specs.Plans.{writing_view}
use Rattle.nq_top.proofs.Soundness.{servable, sound, draft_is}
use Rattle.nq_top.proofs.Showings.{typed_accepted, links_at}
use Rattle.nq_top.proofs.plans.query_draft.Goals as goal

pub compile-requires-clause-schema : goal.compile-requires-clause-schema
compile-requires-clause-schema c = c.requires.proper_schema

pub compile-requires-clause-proper : goal.compile-requires-clause-proper
compile-requires-clause-proper c = c.requires.proper

pub compile-requires-clause-accepted : goal.compile-requires-clause-accepted
compile-requires-clause-accepted c =
    typed_accepted c.args.schema.now (placed c.args.query.term) (type_tree c.args.query.ty) c.requires.typed

pub returns-clause-servable : goal.returns-clause-servable
returns-clause-servable c =
    servable c.args.schema.now (placed c.args.query.term) (type_tree c.in_ok-compiled.compiled.result) c.in_ok-compiled.compiled.texts c.in_ok-compiled.compiled.columns
    c.requires.proper_schema c.requires.proper c.in_ok-compiled.ensures.shreds c.in_ok-compiled.ensures.result c.in_ok-compiled.ensures.columns (type_tree c.args.query.ty) c.requires.typed (writing_view c.args.writing)

pub returns-clause-sound : goal.returns-clause-sound
returns-clause-sound c =
    sound c.args.schema.now (placed c.args.query.term) (type_tree c.in_ok-compiled.compiled.result) c.in_ok-compiled.compiled.texts c.in_ok-compiled.compiled.columns
    c.requires.proper_schema c.requires.proper c.in_ok-compiled.ensures.shreds c.in_ok-compiled.ensures.result c.in_ok-compiled.ensures.columns (type_tree c.args.query.ty) c.requires.typed (writing_view c.args.writing)

pub returns-clause-linked : goal.returns-clause-linked
returns-clause-linked c =
    links_at c.args.schema.now (placed c.args.query.term) (type_tree c.in_ok-compiled.compiled.result) c.in_ok-compiled.compiled.texts
    (type_tree c.args.query.ty) c.requires.typed c.in_ok-compiled.ensures.result c.in_ok-compiled.ensures.linked

pub returns-clause-is : goal.returns-clause-is
returns-clause-is c = λ plain.
    draft_is c.args.schema.now (placed c.args.query.term) (type_tree c.in_ok-compiled.compiled.result) c.in_ok-compiled.compiled.texts c.in_ok-compiled.compiled.columns
    c.requires.proper_schema c.requires.proper c.in_ok-compiled.ensures.shreds c.in_ok-compiled.ensures.result c.in_ok-compiled.ensures.columns
    (type_tree c.args.query.ty) c.requires.typed (writing_view c.args.writing) c.in_ok-compiled.ensures.texts plain
