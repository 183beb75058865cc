use Rattle.std.proofs.Common.{rules}
use Rattle.reference_terms.proofs.Adding.{one_summed}
use Rattle.reference_terms.proofs.totals.sum.Goals as goal

pub loop-value-preserved : goal.loop-value-preserved
loop-value-preserved c =
    one_summed c.loop-value.yielded c.in-Some.value _ _ _ c.loop-value.invariant c.sum_with-sum.ensures (search rules)
