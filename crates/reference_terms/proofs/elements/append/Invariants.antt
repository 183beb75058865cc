use Rattle.std.proofs.Common.{◌≡◌, ◌++◌}
use Rattle.reference_terms.proofs.elements.append.Given as goal

abbrev pub invariant-loop-value : goal.invariant-loop-value
invariant-loop-value l = l.all ≡ l.initial.all ++ l.yielded
