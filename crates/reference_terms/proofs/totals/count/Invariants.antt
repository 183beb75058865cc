use Rattle.std.proofs.Common.{◌≡◌, map}
use Rattle.nq_model.specs.Totals.{count_of}
use Rattle.nq_model.specs.Values.{nested}
use Rattle.reference_terms.proofs.totals.count.Given as goal

abbrev pub invariant-loop-value : goal.invariant-loop-value
invariant-loop-value l = l.count ≡ count_of (map nested l.yielded)
