use Rattle.std.proofs.Common.{◌≡◌, ◌++◌, drop}
use Rattle.table_explanations.specs.Lines.{joined, joined_behind}
use Rattle.table_explanations.proofs.lines.joined_labels.Given as goal

abbrev pub invariant-loop-at : goal.invariant-loop-at
invariant-loop-at l = l.made ++ joined_behind l.at (drop l.at l.labels) ≡ joined l.labels
