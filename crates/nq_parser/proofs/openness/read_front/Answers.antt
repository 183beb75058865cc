use Rattle.nq_parser.specs.Editions.{edition_view}
use Rattle.nq_parser.specs.States.{state_view}
use Rattle.nq_parser.proofs.FrontSteps.{front_more, front_stops, front_all}
use Rattle.nq_parser.proofs.openness.read_front.Goals as goal

pub returns-in-None : goal.returns-in-None
returns-in-None c =
    let stops = rw c.in-None.is at c.in_ok-next.ensures in
    front_stops (edition_view c.args.edition) c.args.depth c.args.tokens.now c.loop-count.count
    c.index-tokens-count.result (state_view c.loop-count.state) c.loop-count-test.true
    c.index-tokens-count.is
    c.loop-count.invariant stops

pub loop-count-preserved : goal.loop-count-preserved
loop-count-preserved c =
    let goes = rw c.in-Some.is at c.in_ok-next.ensures in
    front_more (edition_view c.args.edition) c.args.depth c.args.tokens.now c.loop-count.count
    c.index-tokens-count.result (state_view c.loop-count.state) (state_view c.in-Some.next)
    c.loop-count-test.true
    c.index-tokens-count.is c.loop-count.invariant goes.0 goes.1

pub returns : goal.returns
returns c =
    front_all (edition_view c.args.edition) c.args.depth c.args.tokens.now c.loop-count.count
    (state_view c.loop-count.state) c.loop-count-test.false c.loop-count.invariant
