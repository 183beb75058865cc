use Rattle.std.proofs.Common.{◌≡◌, take}
use Rattle.std.specs.List.{All}
use Rattle.nq_model.specs.CellRefs.{cell_seen}
use Rattle.rows.specs.Places.{row_at}
use Rattle.row_order.specs.Keys.{cell_at}
use Rattle.row_order.proofs.runs.have_one_cell.Given as goal

abbrev pub invariant-loop-ranked : goal.invariant-loop-ranked
invariant-loop-ranked l = All (λ ranked. cell_at l.column (row_at l.rows ranked.place) ≡ cell_seen l.cell) (take l.ranked-index l.ranks)
