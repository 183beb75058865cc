-- The last rows are in groups, as many as were put in.
use Rattle.stitcher.proofs.Grouping.{Going}
use Rattle.stitcher.proofs.groups.group.Given as goal

abbrev pub invariant-loop-done : goal.invariant-loop-done
invariant-loop-done g l = Going g.S.Index.PartialEq.eq ((g.S.IndexScheme.scheme l.scheme).outer l.path) l.rows l.done l.groups.firsts l.groups.nexts
