use Rattle.sql_reader.specs.Stacks.{forms}
use Rattle.sql_reader.specs.States.{position_view}
use Rattle.sql_reader.specs.Steps.{On}
use Rattle.sql_reader.specs.Views.{base_view}
use Rattle.sql_reader.proofs.FrontSteps.{front_more, front_fault, front_all}
use Rattle.sql_reader.proofs.openness.read_front.Goals as goal

pub returns-in-Err : goal.returns-in-Err
returns-in-Err c =
    front_fault c.stop.result c.in-Err.fault c.args.depth c.args.tokens.now
    c.loop-count.count c.index-tokens-count.result
    (On (base_view c.loop-count.base) (forms c.loop-count.stack.levels) (position_view
    c.loop-count.at)) c.loop-count-test.true c.index-tokens-count.is c.loop-count.invariant
    c.in-Err.ensures c.stop.ensures

pub loop-count-preserved : goal.loop-count-preserved
loop-count-preserved c =
    let goes = rw c.in-Ok.is at c.advance.ensures in
    front_more c.args.depth c.args.tokens.now c.loop-count.count c.index-tokens-count.result
    (On (base_view c.loop-count.base) (forms c.loop-count.stack.levels) (position_view
    c.loop-count.at))
    (On (base_view c.advance.new.base) (forms c.advance.new.stack.levels) (position_view
    c.in-Ok.next)) c.loop-count-test.true c.index-tokens-count.is c.loop-count.invariant goes.0
    goes.1

pub returns : goal.returns
returns c =
    front_all c.args.depth c.args.tokens.now c.loop-count.count
    (On (base_view c.loop-count.base) (forms c.loop-count.stack.levels) (position_view
    c.loop-count.at)) c.loop-count-test.false c.loop-count.invariant
