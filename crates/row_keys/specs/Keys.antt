-- Rows with the key cells of another.
use Rattle.std.specs.Prelude.{◌≡◌, ◌≢◌, ◌≤◌, ◌-◌, ℕ, List, [], ◌∷◌, Option, Some, None, take, slice_get}
use Rattle.std.specs.List.{position_from, AllByRecursion as Each}
use Rattle.std.specs.Cmp.Lexicographic.{pointwise}
use Rattle.nq_model.specs.Cells.{cell_eq}
use Rattle.nq_model.specs.SchemaTables.{key_of}
use Rattle.nq_model.specs.declared.table.Cell.{Cell}
use Rattle.nq_model.specs.declared.table.TableShape.{TableShape}

-- the number of the first of these rows that has these key cells
abbrev pub first_with : TableShape → List Cell → List (List Cell) → Option ℕ
first_with shape key rows = position_from (λ row. pointwise cell_eq key (key_of shape row)) 1 rows

-- what a key of these columns tells: without columns there is no key, and it tells nothing
abbrev pub if_keyed : List (List ℕ) → Option ℕ → Option ℕ
if_keyed [] first = None
if_keyed (name ∷ names) first = first

-- the number of the first of these rows that has the key cells of a row, where the table has a key
unfoldable pub twin_of : TableShape → List Cell → List (List Cell) → Option ℕ
twin_of shape row rows = if_keyed shape.key (first_with shape (key_of shape row) rows)

-- of these rows, that of a number is the first that has the key cells of a row
pub record IsFirstTwin (shape : TableShape) (rows : List (List Cell)) (row : List Cell) (number : ℕ) : Type 0 where
  pub keyed : shape.key ≢ []
  pub counted : 1 ≤ number
  pub twin : List Cell
  pub here : slice_get rows (number - 1) ≡ Some twin
  pub same : key_of shape twin ≡ key_of shape row
  pub first : Each (λ other. key_of shape other ≢ key_of shape row) (take (number - 1) rows)
