use Rattle.std.proofs.Common.{◌≡◌, ◌+◌, drop}
use Rattle.csv.specs.Records.{fields_of}
use Rattle.nq_model.specs.Tables.{names_of}
use Rattle.table_explanations.specs.Explanations.{first_other}
use Rattle.table_explanations.proofs.cells.first_other.Given as goal

abbrev pub invariant-loop-at : goal.invariant-loop-at
invariant-loop-at l =
    l.at + first_other (names_of (drop l.at l.columns)) (drop l.at (fields_of l.cells))
    ≡ first_other (names_of l.columns) (fields_of l.cells)
