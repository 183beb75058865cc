use Rattle.nq_model.specs.Terms.{placed}
use Rattle.nq_model.specs.Types.{type_tree}
use Rattle.nq_top.proofs.Showings.{typed_accepted}
use Rattle.nq_top.proofs.TracedDrafts.{traced_is, traced_servable, traced_sound}
use Rattle.nq_top.specs.Steps.{typed_view}
use Rattle.nq_top.proofs.traced.lineage_draft.Goals as goal

pub compile_lineage-requires-clause-schema : goal.compile_lineage-requires-clause-schema
compile_lineage-requires-clause-schema c = c.requires.query.proper_schema

pub compile_lineage-requires-clause-proper : goal.compile_lineage-requires-clause-proper
compile_lineage-requires-clause-proper c = c.requires.query.proper

pub compile_lineage-requires-clause-accepted : goal.compile_lineage-requires-clause-accepted
compile_lineage-requires-clause-accepted c =
    typed_accepted c.args.schema.now (placed c.args.query.term) (type_tree c.args.query.ty)
    c.requires.query.typed

pub returns-clause-servable : goal.returns-clause-servable
returns-clause-servable c =
    traced_servable c.trace_laws.ensures.fit c.args.schema.now (typed_view c.args.query)
    c.requires.query c.in_ok-made.made c.in_ok-made.ensures c.args.writing

pub returns-clause-sound : goal.returns-clause-sound
returns-clause-sound c =
    traced_sound c.trace_laws.ensures.fit c.args.schema.now (typed_view c.args.query)
    c.requires.query c.in_ok-made.made c.in_ok-made.ensures c.args.writing
    (c.writing_laws.ensures.traces c.args.writing)

pub returns-clause-is : goal.returns-clause-is
returns-clause-is c =
    traced_is c.trace_laws.ensures.fit c.args.schema.now (typed_view c.args.query)
    c.requires.query c.in_ok-made.made c.in_ok-made.ensures c.args.writing
