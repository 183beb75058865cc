-- Keys of one width, with their places behind, and ranks of sorted places.
use Rattle.std.specs.Prelude.{◌≡◌, ℕ, suc, ◌+◌, ◌<◌, pos, List, [], ◌∷◌, ◌++◌, All, length}
use Rattle.std.specs.Prelude.{slice_index_or}
use Rattle.nq_model.specs.declared.table.Cell.{Cell}
use Rattle.nq_model.specs.declared.table.Cell.TheVariants as cell
use Rattle.rows.specs.Places.{row_at}

-- the rows are as wide as the first
abbrev pub HaveOneWidth : List (List Cell) → Type 0
HaveOneWidth rows = All (λ row. length row ≡ length (row_at rows 0)) rows

-- each place's rank says where it stands in the list, counted from 1
pub record AreRanks (places ranks : List ℕ) : Type 0 where
  pub as_many : length ranks ≡ length places
  pub ranked : (k : ℕ) → k < length places → slice_index_or ranks (slice_index_or places k 0) 0
      ≡ k + 1

-- a key with its place as one more cell
abbrev pub with_place : List Cell → ℕ → List Cell
with_place key place = key ++ cell.Int (pos place) ∷ []

-- each key with its place, where the places are counted from one on
abbrev pub with_places : ℕ → List (List Cell) → List (List Cell)
with_places place [] = []
with_places place (key ∷ keys) = with_place key place ∷ with_places (suc place) keys
