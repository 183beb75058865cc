-- Tables of a schema: the rows that a table of a shape may hold.
use Rattle.std.specs.Prelude.{◌≢◌, ⊤, List, [], map, zip, All, FitsSigned}
use Rattle.std.specs.Int.{w64}
use Rattle.std.specs.List.{AllZip}
use Rattle.std.specs.Str.{IsUtf8}
use Rattle.nq_model.specs.Cells.{RowFits}
use Rattle.nq_model.specs.NamedRows.{cell_under}
use Rattle.nq_model.specs.Orders.{AreDistinct}
use Rattle.nq_model.specs.Tables.{names_of, types_of}
use Rattle.nq_model.specs.declared.table.Cell.{Cell}
use Rattle.nq_model.specs.declared.table.Cell.TheVariants as cell
use Rattle.nq_model.specs.declared.table.TableShape.{TableShape}

-- an int cell is within 64 bits, and a text cell is UTF-8
abbrev pub IsSound : Cell → Type 0
IsSound (cell.Int n) = FitsSigned w64 n
IsSound (cell.Bool b) = ⊤
IsSound (cell.Text t) = IsUtf8 t

-- the cells of a row under the columns of the key
abbrev pub key_of : TableShape → List Cell → List Cell
key_of shape row = map (λ name. cell_under name (zip (names_of shape.columns) row)) shape.key

-- where the table has a key, no two rows have equal key cells
abbrev pub KeysDiffer : TableShape → List (List Cell) → Type 0
KeysDiffer shape rows = shape.key ≢ [] → AreDistinct (map (key_of shape) rows)

-- rows that fit the columns of a table, with sound cells, no two with equal key cells where it has a key
pub record IsTableOf (shape : TableShape) (rows : List (List Cell)) : Type 0 where
  pub fit : All (RowFits (types_of shape.columns)) rows
  pub sound : All (All IsSound) rows
  pub keys_differ : KeysDiffer shape rows

-- the tables of a schema, the rows of one to each shape
abbrev pub AreTablesOf : List TableShape → List (List (List Cell)) → Type 0
AreTablesOf shapes tables = AllZip IsTableOf shapes tables
