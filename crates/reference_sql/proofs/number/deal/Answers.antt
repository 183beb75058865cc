use Rattle.std.proofs.Common.{rules}
use Rattle.reference_sql.proofs.Dealing.{numbered_more}
use Rattle.reference_sql.proofs.number.deal.Goals as goal

pub loop-i-preserved : goal.loop-i-preserved
loop-i-preserved c =
    numbered_more c.args.keys.now c.loop-i.numbers c.in_ok-numbers.numbers c.loop-i.i c.in_ok-number.number c.index-keys-i.result (search rules) c.index-keys-i.is c.loop-i.invariant (search rules) (search rules)
