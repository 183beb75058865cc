use Rattle.std.proofs.Common.{rules}
use Rattle.reference_terms.proofs.Adding.{one_counted}
use Rattle.reference_terms.proofs.totals.count.Goals as goal

pub loop-value-preserved : goal.loop-value-preserved
loop-value-preserved c =
    one_counted c.loop-value.yielded _ _ _ _ c.loop-value.invariant c.plus-count.ensures (search rules)
