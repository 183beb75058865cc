use Rattle.std.proofs.Common.{map}
use Rattle.query_syntax.specs.Symbols.{token_view}
use Rattle.nq_parser.proofs.OpenTexts.{finds_first}
use Rattle.nq_parser.proofs.FrontSteps.{deep_front, second_front, second_none}
use Rattle.nq_parser.proofs.openness.open_front.Goals as goal

pub returns-then-depth-eq0 : goal.returns-then-depth-eq0
returns-then-depth-eq0 c =
    let e = c.in-Some.ensures in
    deep_front c.args.depth c.in-Some.field-0-0 e.0 e.1 (map token_view c.in-Some.body.now) (map
    token_view c.args.tokens.now) e.2 c.if-depth-eq0.true

pub returns-in-None : goal.returns-in-None
returns-in-None c = finds_first c.find_stop.result c.args.depth (map token_view c.args.tokens.now)
    c.in-None.ensures c.find_stop.ensures

pub returns-in-Some-2 : goal.returns-in-Some-2
returns-in-Some-2 c =
    let e = c.in-Some.ensures in
    let stop = rw c.in-Some-2.is at c.in_ok-count-in-Some.ensures in
    second_front c.args.depth c.in-Some.field-0-0 e.0 e.1 c.in-Some.body.now c.args.tokens.now
    c.in-Some-2.count e.2 c.if-depth-eq0.false stop.0 stop.1

pub returns-in-None-2 : goal.returns-in-None-2
returns-in-None-2 c =
    let e = c.in-Some.ensures in
    let all = rw c.in-None-2.is at c.in_ok-count-in-Some.ensures in
    second_none c.args.depth c.in-Some.field-0-0 e.0 e.1 (map token_view c.in-Some.body.now) (map
    token_view c.args.tokens.now) e.2 c.if-depth-eq0.false all
