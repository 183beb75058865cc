-- The JSON form of rows has no float, and nests two deep.
use Rattle.std.proofs.Common.{◌≡◌, ◌≤◌, max, pos, negsuc, false, List, [], ◌∷◌, map, refl, ap₂, arith}
use Rattle.nq_model.specs.declared.table.Cell.{Cell}
use Rattle.nq_model.specs.declared.table.Cell.TheVariants as cell
use Rattle.serde_json.specs.Data.{depth, items_depth}
use Rattle.serde_json.specs.Read.{max_depth}
use Rattle.serde_json.specs.View.{items_of}
use Rattle.serde_json.specs.Written.{has_float}
use Rattle.nq_json.specs.Json.{cell_json}
use Rattle.nq_json.specs.Rows.{row_json, rows_json}
use Rattle.nq_json.proofs.Floats.{either}

no_float_cell : (c : Cell) → has_float (cell_json c) ≡ false
no_float_cell (cell.Int (pos n)) = refl
no_float_cell (cell.Int (negsuc n)) = refl
no_float_cell (cell.Bool b) = refl
no_float_cell (cell.Text t) = refl

no_float_row : (row : List Cell) → has_float (row_json row) ≡ false
no_float_row [] = refl
no_float_row (c ∷ row) = either (has_float (cell_json c)) (has_float (row_json row)) (no_float_cell c) (no_float_row row)

pub no_float_rows : (rows : List (List Cell)) → has_float (rows_json rows) ≡ false
no_float_rows [] = refl
no_float_rows (row ∷ rows) = either (has_float (row_json row)) (has_float (rows_json rows)) (no_float_row row) (no_float_rows rows)

cell_flat : (c : Cell) → depth (cell_json c) ≡ 0
cell_flat (cell.Int n) = refl
cell_flat (cell.Bool b) = refl
cell_flat (cell.Text t) = refl

row_flat : (row : List Cell) → items_depth (items_of (map cell_json row)) ≡ 0
row_flat [] = refl
row_flat (c ∷ row) = ap₂ max (cell_flat c) (row_flat row)

rows_shallow : (rows : List (List Cell)) → items_depth (items_of (map row_json rows)) ≤ 1
rows_shallow [] = omega arith
rows_shallow (row ∷ rows) = omega (arith, row_flat row, rows_shallow rows)

pub shallow : (rows : List (List Cell)) → depth (rows_json rows) ≤ max_depth
shallow rows = omega (arith, rows_shallow rows)
