-- Rows ranked by what their cells in a column begin with.
use Rattle.std.specs.Prelude.{◌≡◌, ℕ, List}
use Rattle.std.specs.List.{All}
use Rattle.std.specs.declared.cmp.Ordering.{Ordering}
use Rattle.std.specs.Ordering.{nat_cmp}
use Rattle.nq_model.specs.declared.table.Cell.{Cell}
use Rattle.rows.specs.Places.{row_at}
use Rattle.row_order.specs.declared.heads.Frame.{Frame}
use Rattle.row_order.specs.declared.ranks.Ranked.{Ranked}
use Rattle.row_order.specs.Heads.{head_of}
use Rattle.row_order.specs.Keys.{cell_at}

-- the row at a place, ranked by its cell in a column
abbrev pub ranked_at : List (List Cell) → ℕ → Frame → ℕ → Ranked
ranked_at rows column frame place = record { head = head_of frame (cell_at column (row_at rows place)); place = place }

-- rows ranked by their cells in a column, in some frame
abbrev pub AreRanked : List (List Cell) → ℕ → List Ranked → Type 0
AreRanked rows column ranks = (frame : Frame) × All (λ ranked. ranked ≡ ranked_at rows column frame ranked.place) ranks

abbrev pub rank_cmp : Ranked → Ranked → Ordering
rank_cmp left right = nat_cmp left.head right.head
