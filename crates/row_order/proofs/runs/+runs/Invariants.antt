use Rattle.std.proofs.Common.{length, ◌-◌, ◌+◌, ◌*◌}
use Rattle.row_order.proofs.Refining.{Refined}
use Rattle.row_order.proofs.runs.+runs.Given as goal

abbrev pub decreases-sort_run : goal.decreases-sort_run
decreases-sort_run l = 4 * (9 * length l.columns.now + 8) + 3

abbrev pub decreases-sort_column : goal.decreases-sort_column
decreases-sort_column l = 4 * (9 * (length l.later.now + 1) + l.more) + 2

abbrev pub decreases-sort_ties : goal.decreases-sort_ties
decreases-sort_ties l = 4 * (9 * (length l.later.now + 1) + l.more) + 1

abbrev pub decreases-sort_tied : goal.decreases-sort_tied
decreases-sort_tied l = 4 * (9 * (length l.later.now + 1) + l.more)

abbrev pub invariant-sort_ties-loop-start : goal.invariant-sort_ties-loop-start
invariant-sort_ties-loop-start l = Refined l.rows l.column l.later l.initial.ranks l.ranks l.start

abbrev pub decreases-sort_ties-loop-start : goal.decreases-sort_ties-loop-start
decreases-sort_ties-loop-start l = length l.initial.ranks - l.start
