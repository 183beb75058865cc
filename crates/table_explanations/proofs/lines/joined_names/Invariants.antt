use Rattle.std.proofs.Common.{◌≡◌, ◌++◌, drop}
use Rattle.nq_model.specs.Tables.{names_of}
use Rattle.table_explanations.specs.Lines.{joined, joined_behind}
use Rattle.table_explanations.proofs.lines.joined_names.Given as goal

abbrev pub invariant-loop-at : goal.invariant-loop-at
invariant-loop-at l =
    l.made ++ joined_behind l.at (names_of (drop l.at l.columns)) ≡ joined (names_of l.columns)
