use Rattle.std.proofs.Common.{arith}
use Rattle.sql_scope.proofs.Turns.{types_end}
use Rattle.sql_scope.proofs.names.same_types.Goals as goal

pub returns : goal.returns
returns c =
    let m = c.min-place-end.ensures in
    let low = c.loop-place.auto.place-end in
    let high = c.loop-place-test.false in
    types_end c.args.some.now c.args.others.now c.loop-place.place (omega (arith, m, low)) (omega (arith, m, high)) c.loop-place.invariant
