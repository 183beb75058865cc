use Rattle.std.proofs.Common.{◌+◌, ◌-◌, ◌*◌, get_or, drop, suc, arith}
use Rattle.lexical.proofs.Fronts.{value_grows, value_step}
use Rattle.lexical.proofs.digits.value_of.Goals as goal

pub returns-then-more-from : goal.returns-then-more-from
returns-then-more-from c =
    let ds = c.args.digits.now in
    let i = c.loop-digit.digit-index in
    let v = c.loop-digit.value in
    let next = 10 * v + (get_or ds i 0 - 48) in
    let step = value_step v ds i (omega arith) in
    let grows = value_grows next (drop (suc i) ds) in
    let known = c.loop-digit.invariant.1 in
    omega (arith, step, grows, known, c.if-more-from.true, c.from.ensures, c.from-in-loop-digit.ensures, c.from-in-loop-digit-2.ensures)
