-- The cells that a column holds, by itself or with others.
use Rattle.std.specs.Prelude.{◌<◌, ⊤, ℕ, List, All, length, map, pos, replicate}
use Rattle.std.specs.Prelude.{slice_index_or, false}
use Rattle.nq_model.specs.declared.table.Cell.{Cell}
use Rattle.nq_model.specs.declared.table.Cell.TheVariants as cell
use Rattle.rows.specs.declared.column.Held.{Held}
use Rattle.rows.specs.declared.column.Held.TheVariants.{Own, Shared, Placed, Repeated, Numbers}

-- the cells at these places, in their order
abbrev pub cells_at : List Cell → List ℕ → List Cell
cells_at cells places = map (λ place. slice_index_or cells place (cell.Bool false)) places

-- each place is that of a cell
abbrev pub ArePlacesIn : List Cell → List ℕ → Type 0
ArePlacesIn cells places = All (λ place. place < length cells) places

-- a cell for each number
abbrev pub number_cells : List ℕ → List Cell
number_cells numbers = map (λ number. cell.Int (pos number)) numbers

abbrev pub held_cells : Held → List Cell
held_cells (Own cells) = cells
held_cells (Shared cells) = cells.value
held_cells (Placed cells places) = cells_at cells.value places.items
held_cells (Repeated cell count) = replicate count cell
held_cells (Numbers numbers) = number_cells numbers.items

-- places are those of cells
abbrev pub IsHeld : Held → Type 0
IsHeld (Own cells) = ⊤
IsHeld (Shared cells) = ⊤
IsHeld (Placed cells places) = ArePlacesIn cells.value places.items
IsHeld (Repeated cell count) = ⊤
IsHeld (Numbers numbers) = ⊤
