use Rattle.std.proofs.Common.{◌≡◌, length}
use Rattle.stitcher.specs.Stitching.{rows_of, EachInGroups}
use Rattle.stitcher.proofs.source.groups_of.Given as goal

abbrev pub invariant-loop-path : goal.invariant-loop-path
invariant-loop-path g l = record {
  counted : length l.groups ≡ l.path;
  each : EachInGroups g.S.Index.PartialEq.eq (g.S.IndexScheme.scheme l.scheme) (rows_of l.answers) l.groups;
}
