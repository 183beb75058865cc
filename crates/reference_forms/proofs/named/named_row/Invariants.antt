use Rattle.std.proofs.Common.{◌≡◌, ◌++◌, drop, zip}
use Rattle.nq_model.specs.Tables.{names_of}
use Rattle.reference_forms.proofs.named.named_row.Given as goal

abbrev pub invariant-loop-at : goal.invariant-loop-at
invariant-loop-at l = l.row ++ zip (names_of (drop l.at l.columns)) (drop l.at l.cells) ≡ zip (names_of l.columns) l.cells
