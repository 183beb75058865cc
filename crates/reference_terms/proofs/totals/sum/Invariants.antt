use Rattle.std.proofs.Common.{◌≡◌, map}
use Rattle.nq_model.specs.Meaning.{cell_of}
use Rattle.nq_model.specs.Totals.{sum_of}
use Rattle.nq_model.specs.Values.{nested}
use Rattle.reference_terms.proofs.totals.sum.Given as goal

abbrev pub invariant-loop-value : goal.invariant-loop-value
invariant-loop-value l = l.sum ≡ sum_of (map cell_of (map nested l.yielded))
