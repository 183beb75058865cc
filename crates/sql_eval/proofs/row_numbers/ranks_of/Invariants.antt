use Rattle.sql_eval.proofs.Ranking.{RankedTo}
use Rattle.sql_eval.proofs.row_numbers.ranks_of.Given as goal

abbrev pub invariant-loop-at : goal.invariant-loop-at
invariant-loop-at l = RankedTo l.places l.at l.ranks.items
