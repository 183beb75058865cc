-- Runs of ranked rows.
use Rattle.std.specs.Prelude.{◌≡◌, ℕ, ◌<◌, ◌≤◌, List, map, slice_index_or}
use Rattle.std.specs.List.{All}
use Rattle.std.specs.List.Sorted.{IsSortedByKey}
use Rattle.std.specs.Cmp.Lexicographic.{slice_cmp}
use Rattle.std.specs.declared.cmp.Ordering.TheVariants.{Equal}
use Rattle.nq_model.specs.Cells.{cell_cmp}
use Rattle.nq_model.specs.declared.table.Cell.{Cell}
use Rattle.rows.specs.Places.{row_at}
use Rattle.row_order.specs.declared.ranks.Ranked.{Ranked}
use Rattle.row_order.specs.Keys.{cell_at, key_of}
use Rattle.row_order.specs.Ranks.{rank_cmp}

abbrev pub places_of : List Ranked → List ℕ
places_of ranks = map (λ ranked. ranked.place) ranks

-- the rows are in the order of their keys
abbrev pub AreInOrder : List (List Cell) → List ℕ → List Ranked → Type 0
AreInOrder rows columns ranks = IsSortedByKey (λ ranked. key_of columns (row_at rows ranked.place)) (slice_cmp cell_cmp) ranks

-- one cell stands in a column of each row
abbrev pub HaveOneCell : List (List Cell) → ℕ → List Ranked → Type 0
HaveOneCell rows column ranks = (c : Cell) × All (λ ranked. cell_at column (row_at rows ranked.place) ≡ c) ranks

-- the rows from one place to another tie in rank
abbrev pub HaveOneRank : List Ranked → ℕ → ℕ → Type 0
HaveOneRank ranks start end = (k : ℕ) (d : Ranked) → start ≤ k → k < end → rank_cmp (slice_index_or ranks start d) (slice_index_or ranks k d) ≡ Equal
