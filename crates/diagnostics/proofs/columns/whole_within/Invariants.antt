use Rattle.std.proofs.Common.{◌≡◌, ◌+◌, ◌≤◌, length}
use Rattle.diagnostics.specs.Columns.{columns, whole_within}
use Rattle.diagnostics.proofs.columns.whole_within.Given as goal

abbrev pub invariant-loop-rest : goal.invariant-loop-rest
invariant-loop-rest l =
    (l.whole + whole_within l.left (columns l.rest) ≡ whole_within l.count (columns l.line))
    × (l.whole + length l.rest ≤ length l.line)

abbrev pub decreases-loop-rest : goal.decreases-loop-rest
decreases-loop-rest l = length l.rest
