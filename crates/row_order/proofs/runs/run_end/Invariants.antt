use Rattle.row_order.specs.Runs.{HaveOneRank}
use Rattle.row_order.proofs.runs.run_end.Given as goal

abbrev pub invariant-loop-end : goal.invariant-loop-end
invariant-loop-end l = HaveOneRank l.ranks l.start l.end
