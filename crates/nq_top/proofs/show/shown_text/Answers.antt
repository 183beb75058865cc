use Rattle.nq_model.specs.Terms.{placed}
use Rattle.nq_model.specs.Types.{type_tree}
use Rattle.command_line.specs.Words.{showing_view}
use Rattle.nq_top.proofs.Readings.{one_reading}
use Rattle.nq_top.proofs.Showings.{result_bag, shows_if_ok, texts_long, texts_utf8, typed_accepted}
use Rattle.nq_top.proofs.show.shown_text.Goals as goal

pub compile-requires-clause-schema : goal.compile-requires-clause-schema
compile-requires-clause-schema c = c.requires.proper_schema

pub compile-requires-clause-proper : goal.compile-requires-clause-proper
compile-requires-clause-proper c = c.requires.proper

pub compile-requires-clause-accepted : goal.compile-requires-clause-accepted
compile-requires-clause-accepted c =
    typed_accepted c.args.schema.now (placed c.args.query.term) (type_tree c.args.query.ty) c.requires.typed

pub texts_by-requires-clause-bag : goal.texts_by-requires-clause-bag
texts_by-requires-clause-bag c =
    result_bag c.args.schema.now (placed c.args.query.term) (type_tree c.in_ok-compiled.compiled.result) c.in_ok-compiled.compiled.texts
    (type_tree c.args.query.ty) c.requires.typed c.in_ok-compiled.ensures.result

pub texts_by-requires-clause-counted : goal.texts_by-requires-clause-counted
texts_by-requires-clause-counted c =
    texts_long c.args.schema.now (placed c.args.query.term) (type_tree c.in_ok-compiled.compiled.result) c.in_ok-compiled.compiled.texts
    (type_tree c.args.query.ty) c.requires.typed one_reading.plain c.in_ok-compiled.ensures.result c.in_ok-compiled.ensures.texts

pub texts_by-requires-clause-utf8 : goal.texts_by-requires-clause-utf8
texts_by-requires-clause-utf8 c =
    texts_utf8 c.args.schema.now (placed c.args.query.term) (type_tree c.in_ok-compiled.compiled.result) c.in_ok-compiled.compiled.texts
    (type_tree c.args.query.ty) c.requires.typed c.in_ok-compiled.ensures.shreds

pub returns : goal.returns
returns c =
    shows_if_ok c.args.schema.now (placed c.args.query.term) (type_tree c.in_ok-compiled.compiled.result) c.in_ok-compiled.compiled.texts
    (type_tree c.args.query.ty) c.requires.typed c.in_ok-compiled.ensures.result c.in_ok-compiled.ensures.texts c.in_ok-compiled.ensures.shreds c.in_ok-compiled.ensures.linked
    (showing_view c.args.showing) c.texts_by.result c.texts_by.ensures
