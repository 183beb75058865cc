use Rattle.std.proofs.Common.{map}
use Rattle.nq_parser.specs.Editions.{edition_view}
use Rattle.query_syntax.specs.Symbols.{token_view}
use Rattle.nq_parser.proofs.OpenTexts.{tells_zero}
use Rattle.nq_parser.proofs.FrontSteps.{open_first, open_front, open_second}
use Rattle.nq_parser.proofs.openness.is_open.Goals as goal

pub returns-then-depth-eq0 : goal.returns-then-depth-eq0
returns-then-depth-eq0 c = tells_zero (edition_view c.args.edition) c.args.depth (map token_view
    c.args.tokens.now) c.if-depth-eq0.true

pub returns-in-First : goal.returns-in-First
returns-in-First c = open_first c.args.edition c.reads_all.result c.args.depth (map token_view
    c.args.tokens.now) c.in-First.is c.if-depth-eq0.false c.reads_all.ensures

pub returns-in-None : goal.returns-in-None
returns-in-None c = open_front c.args.edition c.begins_header.result c.args.depth (map token_view
    c.args.tokens.now) c.in-Second.is c.if-depth-eq0.false c.in-None.ensures c.begins_header.ensures

pub returns-in-Some : goal.returns-in-Some
returns-in-Some c =
    let e = c.in-Some.ensures in
    open_second c.args.edition c.reads_all-in-Some.result c.args.depth c.in-Some.field-0-0 e.0 e.1
    (map token_view c.in-Some.body.now) (map token_view c.args.tokens.now) c.in-Second.is
    c.if-depth-eq0.false e.2
    c.reads_all-in-Some.ensures
