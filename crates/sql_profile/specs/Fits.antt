-- Where an answer does not fit the types of its columns.
use Rattle.std.specs.Prelude.{◌≡◌, ◌≢◌, ◌≤◌, ◌-◌, ℕ, List, Some, map, take, slice_get, All}
use Rattle.nq_model.specs.Cells.{column_type_of, RowFits}
use Rattle.nq_model.specs.declared.table.Cell.{Cell}
use Rattle.nq_model.specs.declared.table.ColumnType.{ColumnType}
use Rattle.sql_profile.specs.declared.answer.Misfit.{Misfit}

-- the first place of a row, counted from 0, where a cell is missing, of another type than its column,
-- or beyond the last column
pub record DiffersFirstAt (types : List ColumnType) (row : List Cell) (place : ℕ) : Type 0 where
  pub same_before : take place (map column_type_of row) ≡ take place types
  pub other_here : slice_get (map column_type_of row) place ≢ slice_get types place

-- the first row that does not fit, and the first place where it does not; both are counted from 1
pub record IsFirstMisfit (rows : List (List Cell)) (types : List ColumnType) (misfit : Misfit) : Type 0 where
  pub row_counted : 1 ≤ misfit.row
  pub column_counted : 1 ≤ misfit.column
  pub fit_before : All (RowFits types) (take (misfit.row - 1) rows)
  pub cells : List Cell
  pub is_row : slice_get rows (misfit.row - 1) ≡ Some cells
  pub differs : DiffersFirstAt types cells (misfit.column - 1)
