-- What an index of first rows by their keys holds.
use Rattle.std.specs.Prelude.{◌≡◌, ◌≢◌, ◌==◌, ℕ, ◌∷◌, ◌++◌, [], List, map, Option, Some, None, slice_get, string_bytes, if◌then◌else◌}
use Rattle.std.specs.List.{position, position_from}
use Rattle.std.specs.Option.{option_and_then, unwrap_or}
use Rattle.std.specs.Map.{lookup}
use Rattle.std.specs.Cmp.Lexicographic.{pointwise}
use Rattle.std.specs.Str.{bytes_eq}
use Rattle.nq_model.specs.Cells.{cell_eq}
use Rattle.std.specs.declared.alloc.Global.{Global}
use Rattle.std.specs.declared.vec.Vec.{Vec}
use Rattle.nq_model.specs.NamedRows.{no_cell}
use Rattle.nq_model.specs.SchemaTables.{key_of}
use Rattle.nq_model.specs.Tables.{Columns}
use Rattle.nq_model.specs.declared.table.Cell.{Cell}
use Rattle.nq_model.specs.declared.table.Cell.TheVariants as cell
use Rattle.nq_model.specs.declared.table.TableShape.{TableShape}
use Rattle.row_keys.specs.declared.keys.KeyIndex.{KeyIndex}
use Rattle.row_keys.specs.declared.keys.KeyCell.{KeyCell}
use Rattle.row_keys.specs.declared.keys.KeyCell.TheVariants as key_cell
use Rattle.row_keys.specs.Codes.{key_code}
use Rattle.row_keys.specs.CodeMaps.{place_under}
use Rattle.row_keys.specs.Keys.{first_with}

-- the cell that a cell of a key is a copy of
abbrev pub cell_of_key : KeyCell → Cell
cell_of_key (key_cell.Int n) = cell.Int n
cell_of_key (key_cell.Bool b) = cell.Bool b
cell_of_key (key_cell.Text t) = cell.Text (string_bytes t)

-- the cells that a key is a copy of
abbrev pub cells_of_key : Vec KeyCell Global → List Cell
cells_of_key key = map cell_of_key key.items

-- the place of a column by its name
abbrev pub place_of : Columns → List ℕ → Option ℕ
place_of columns name = position (λ column. bytes_eq name column.0) columns

-- the places of the columns of the key
abbrev pub key_places : TableShape → List (Option ℕ)
key_places shape = map (place_of shape.columns) shape.key

-- the cell of a row at the place of a column, if there is one
abbrev pub cell_at : List Cell → Option ℕ → Option Cell
cell_at row place = option_and_then (slice_get row) place

-- the cells of a row at places
abbrev pub cells_at : List Cell → List (Option ℕ) → List Cell
cells_at row places = map (λ place. unwrap_or (cell_at row place) no_cell) places

-- the place, counted from 0, of the first of these rows that has these key cells
abbrev pub place_with : TableShape → List Cell → List (List Cell) → Option ℕ
place_with shape key rows = position_from (λ row. pointwise cell_eq key (key_of shape row)) 0 rows

-- the place of the first of these rows whose key has this code
abbrev pub place_coded : TableShape → ℕ → List (List Cell) → Option ℕ
place_coded shape code rows = position_from (λ row. key_code (key_of shape row) == code) 0 rows

-- the place of the first row with a key, unless it is also the first with the key's code
abbrev pub other_than : Option ℕ → Option ℕ → Option ℕ
other_than coded None = None
other_than None (Some place) = Some place
other_than (Some first) (Some place) = if first == place then None else Some place

-- an index of these rows: where the columns of the key are, for each code the first row whose key has it,
-- and for all key cells the first row that has them, where that is not the first with their code
pub record Indexes (shape : TableShape) (rows : List (List Cell)) (index : KeyIndex) : Type 0 where
  pub columns : index.columns.items ≡ key_places shape
  pub finds : (code : ℕ) → place_under index.first_rows code ≡ place_coded shape code rows
  pub others : (key : List Cell) → lookup (λ k. pointwise cell_eq key (cells_of_key k)) index.others.entries
      ≡ other_than (place_coded shape (key_code key) rows) (place_with shape key rows)

-- a row was entered: either no row before it has its key cells, and it is now among them, or the first that has them is told
abbrev pub Enters : TableShape → List (List Cell) → List Cell → KeyIndex → Option ℕ → Type 0
Enters shape rows row index None = (first_with shape (key_of shape row) rows ≡ None) × Indexes shape (rows ++ row ∷ []) index
Enters shape rows row index (Some earlier) = first_with shape (key_of shape row) rows ≡ Some earlier

-- where the table has a key, the index is of these rows
abbrev pub KeepsIndex : TableShape → List (List Cell) → KeyIndex → Type 0
KeepsIndex shape rows index = shape.key ≢ [] → Indexes shape rows index
