-- Cells at places, and places at places.
use Rattle.std.proofs.Common.{◌≡◌, ◌∙◌, ℕ, pos, ◌<◌, ◌≤◌, false, All, List}
use Rattle.std.proofs.Common.{[], ◌∷◌, ◌++◌, map, length, get_or, replicate, refl, sym}
use Rattle.std.proofs.Common.{ap, ap₂, arith}
use Rattle.std.proofs.lemmas.List.{get_or-map, get_or-replicate, get_or_default, length-map}
use Rattle.std.proofs.lemmas.List.{length-replicate}
use Rattle.std.proofs.lemmas.List.Elements.{All-nil, All-cons, All-head, All-tail}
use Rattle.nq_model.specs.declared.table.Cell.{Cell}
use Rattle.nq_model.specs.declared.table.Cell.TheVariants as cell
use Rattle.rows.specs.Columns.{rows_over}
use Rattle.rows.specs.Held.{ArePlacesIn, cells_at, number_cells}
use Rattle.rows.specs.Places.{row_at}
use Rattle.rows.proofs.ColumnRows.{row_in_columns}

abbrev Within : ℕ → List ℕ → Type 0
Within end places = All (λ (place : ℕ). place < end) places

pub as_many : (cells : List Cell) (places : List ℕ)
    → length (cells_at cells places) ≡ length places
as_many cells places = length-map places (λ place. get_or cells place (cell.Bool false))

-- places at places are places of the cells
pub composed_within : (cells : List Cell) (own places : List ℕ) → ArePlacesIn cells own
    → Within (length own) places
    → ArePlacesIn cells (map (λ (place : ℕ). get_or own place 0) places)
composed_within cells own [] h k = All-nil (λ (place : ℕ). place < length cells)
composed_within cells own (p ∷ ps) h k =
    let Below : ℕ → Type 0 = λ place. place < length cells in
    let Inside : ℕ → Type 0 = λ place. place < length own in
    All-cons Below (get_or own p 0) (map (λ (place : ℕ). get_or own place 0) ps)
    (h p 0 (All-head Inside p ps k))
    (composed_within cells own ps h (All-tail Inside p ps k))

-- they have the cells at places of the cells there
pub composed_cells : (cells : List Cell) (own places : List ℕ) → Within (length own) places
    → cells_at cells (map (λ (place : ℕ). get_or own place 0) places)
    ≡ cells_at (cells_at cells own) places
composed_cells cells own [] h = refl
composed_cells cells own (p ∷ ps) h =
    let Inside : ℕ → Type 0 = λ place. place < length own in
    let no_cell : Cell = cell.Bool false in
    ap₂ (λ (x : Cell) (xs : List Cell). x ∷ xs)
    (sym (get_or-map (λ (place : ℕ). get_or cells place no_cell) own p 0 no_cell
    (All-head Inside p ps h)))
    (composed_cells cells own ps (All-tail Inside p ps h))

-- a repeated cell at places is repeated as often
pub repeated_cells : (c : Cell) (count : ℕ) (places : List ℕ)
    → ArePlacesIn (replicate count c) places
    → cells_at (replicate count c) places ≡ replicate (length places) c
repeated_cells c count [] h = refl
repeated_cells c count (p ∷ ps) h =
    let Below : ℕ → Type 0 = λ place. place < length (replicate count c) in
    let here = All-head Below p ps h in
    ap₂ (λ (x : Cell) (xs : List Cell). x ∷ xs)
    (get_or-replicate count p c (cell.Bool false) (omega (arith, here, length-replicate count c)))
    (repeated_cells c count ps (All-tail Below p ps h))

pub numbers_many : (own : List ℕ) → length (number_cells own) ≡ length own
numbers_many own = length-map own (λ (n : ℕ). cell.Int (pos n))

-- numbers at places are cells at these places
pub number_cells_at : (own places : List ℕ) → Within (length own) places
    → cells_at (number_cells own) places
    ≡ number_cells (map (λ (place : ℕ). get_or own place 0) places)
number_cells_at own [] h = refl
number_cells_at own (p ∷ ps) h =
    let Inside : ℕ → Type 0 = λ place. place < length own in
    ap₂ (λ (x : Cell) (xs : List Cell). x ∷ xs)
    (get_or-map (λ (n : ℕ). cell.Int (pos n)) own p 0 (cell.Bool false)
    (All-head Inside p ps h))
    (number_cells_at own ps (All-tail Inside p ps h))

-- the cells of a column at rows
module _ (columns : List (List Cell)) (count : ℕ) (behind seen : List (List Cell))
    (view : rows_over columns count ++ behind ≡ seen)
    (at : ℕ) (short : at < length columns) (long : count ≤ length (get_or columns at [])) where
  cell_here : (row : ℕ) → row < count → get_or (get_or columns at []) row (cell.Bool false)
      ≡ get_or (row_at seen row) at (cell.Bool false)
  cell_here row h =
      get_or_default (get_or columns at []) row (cell.Bool false) (cell.Int (pos 0))
      (omega (arith, h, long))
      ∙ sym (get_or-map (λ (cells : List Cell). get_or cells row (cell.Int (pos 0)))
      columns at [] (cell.Bool false) short)
      ∙ sym (ap (λ (cells : List Cell). get_or cells at (cell.Bool false))
      (row_in_columns columns count behind seen view row h))

  pub cells_of_rows : (rows : List ℕ) → Within count rows
      → cells_at (get_or columns at []) rows
      ≡ map (λ (row : ℕ). get_or (row_at seen row) at (cell.Bool false)) rows
  cells_of_rows [] h = refl
  cells_of_rows (r ∷ rs) h =
      let Below : ℕ → Type 0 = λ row. row < count in
      ap₂ (λ (x : Cell) (xs : List Cell). x ∷ xs) (cell_here r (All-head Below r rs h))
      (cells_of_rows rs (All-tail Below r rs h))
