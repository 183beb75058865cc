-- The columns of the flat answer at a path, and how a row of a let form is laid out in them.
--
-- The first two columns are the tag and the number of the spot around; then come those of the element: one for
-- a base type, those of its fields for a record, in label order, and tag and number for a bag.
use Rattle.std.specs.Prelude.{ℕ, ◌+◌, pos, List, [], ◌∷◌, ◌++◌, get_or}
use Rattle.nq_model.specs.Types.{TypeTree, int, bool, text, rec, bag, fun, FieldTypes, none, field}
use Rattle.nq_model.specs.declared.table.Cell.{Cell}
use Rattle.nq_model.specs.declared.table.Cell.TheVariants as cell
use Rattle.nq_model.specs.declared.table.ColumnType.{ColumnType}
use Rattle.nq_model.specs.declared.table.ColumnType.TheVariants as column
use Rattle.nq_ir.specs.declared.path.Step.{Step}
use Rattle.nq_model.specs.NamedRows.{no_cell}
use Rattle.nq_ir.specs.Parts.{leaves, slots}
use Rattle.nq_ir.specs.Paths.{element_at}
use Rattle.nq_ir.specs.Lets.{FlatRow}

abbrev mutual
  pub element_columns : TypeTree → List ColumnType
  element_columns int = column.Int ∷ []
  element_columns bool = column.Bool ∷ []
  element_columns text = column.Text ∷ []
  element_columns (rec fs) = fields_columns fs
  element_columns (bag a) = column.Int ∷ column.Int ∷ []
  element_columns (fun a b) = []

  pub fields_columns : FieldTypes → List ColumnType
  fields_columns none = []
  fields_columns (field l a fs) = element_columns a ++ fields_columns fs

-- the columns at a path with elements of this type
abbrev pub answer_columns : TypeTree → List ColumnType
answer_columns a = column.Int ∷ column.Int ∷ element_columns a

-- the columns at a path of a type
abbrev pub columns_at : TypeTree → List Step → List ColumnType
columns_at a p = answer_columns (element_at a p)

abbrev pub number_cell : ℕ → Cell
number_cell n = cell.Int (pos n)

-- the element cells of a row, from the base part l and the inner bag s on
abbrev mutual
  pub laid : TypeTree → (l s : ℕ) → FlatRow → List Cell
  laid int l s r = get_or r.leaf_cells l no_cell ∷ []
  laid bool l s r = get_or r.leaf_cells l no_cell ∷ []
  laid text l s r = get_or r.leaf_cells l no_cell ∷ []
  laid (rec fs) l s r = laid_fields fs l s r
  laid (bag a) l s r = number_cell (get_or r.inners s (0, 0)).0 ∷ number_cell (get_or r.inners s (0, 0)).1 ∷ []
  laid (fun a b) l s r = []

  pub laid_fields : FieldTypes → (l s : ℕ) → FlatRow → List Cell
  laid_fields none l s r = []
  laid_fields (field k a fs) l s r = laid a l s r ++ laid_fields fs (l + leaves a) (s + slots a) r

-- the cells of a row with elements of this type
abbrev pub row_cells : TypeTree → FlatRow → List Cell
row_cells a r = number_cell r.outer.0 ∷ number_cell r.outer.1 ∷ laid a 0 0 r
