use Rattle.std.proofs.Common.{◌-◌, length}
use Rattle.answer_text.proofs.Running.{AreSortedTo}
use Rattle.answer_text.proofs.order.sort_runs.Given as goal

abbrev pub invariant-loop-start : goal.invariant-loop-start
invariant-loop-start l = AreSortedTo l.element l.rows l.initial.places l.places l.spans l.start

abbrev pub decreases-loop-start : goal.decreases-loop-start
decreases-loop-start l = length l.initial.places - l.start
