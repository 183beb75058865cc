-- The index scheme by keys.
--
-- The columns at a path are the tag of the enclosing comprehension, its key cells, and those of the
-- element: one for a base type, those of its fields for a record, in label order, and for a bag a
-- tag and key cells.
use Rattle.std.specs.Prelude.{ℕ, pos, ◌+◌, List, [], ◌∷◌, ◌++◌, get_or, length, take, drop}
use Rattle.nq_model.specs.Types.{TypeTree, int, bool, text, rec, bag, fun, FieldTypes, none, field}
use Rattle.nq_model.specs.declared.table.Cell.{Cell}
use Rattle.nq_model.specs.declared.table.ColumnType.{ColumnType}
use Rattle.nq_model.specs.declared.table.ColumnType.TheVariants as column
use Rattle.nq_model.specs.declared.table.TableShape.{TableShape}
use Rattle.nq_ir.specs.Parts.{element_types}
use Rattle.nq_ir.specs.Trees.{FormTree}
use Rattle.stitcher.specs.FlatNumbers.{int_at}
use Rattle.stitcher.specs.Schemes.{Scheme, element_of}
use Rattle.natural_keys.specs.declared.index.KeyIndex.{KeyIndex}
use Rattle.natural_keys.specs.declared.layout.Layout.{Layout}
use Rattle.natural_keys.specs.Layouts.{layout_at, layout_types, width, inner_layouts, outer_layouts}
use Rattle.natural_keys.specs.Indexes.{index_eq}

-- the columns of an index
abbrev pub index_columns : Layout → List ColumnType
index_columns l = column.Int ∷ layout_types l

-- the columns of an element, whose inner bags have these for an index
abbrev mutual
  pub element_columns : List ColumnType → TypeTree → List ColumnType
  element_columns index int = column.Int ∷ []
  element_columns index bool = column.Bool ∷ []
  element_columns index text = column.Text ∷ []
  element_columns index (rec fs) = fields_columns index fs
  element_columns index (bag a) = index
  element_columns index (fun a b) = []

  pub fields_columns : List ColumnType → FieldTypes → List ColumnType
  fields_columns index none = []
  fields_columns index (field l a fs) = element_columns index a ++ fields_columns index fs

-- how many these are
abbrev pub element_width : List ColumnType → TypeTree → ℕ
element_width index a = length (element_columns index a)

-- where the base parts of an element stand, if its first column is n
abbrev mutual
  pub leaf_places : List ColumnType → TypeTree → ℕ → List ℕ
  leaf_places index int n = n ∷ []
  leaf_places index bool n = n ∷ []
  leaf_places index text n = n ∷ []
  leaf_places index (rec fs) n = leaf_places_in index fs n
  leaf_places index (bag a) n = []
  leaf_places index (fun a b) n = []

  pub leaf_places_in : List ColumnType → FieldTypes → ℕ → List ℕ
  leaf_places_in index none n = []
  leaf_places_in index (field l a fs) n = leaf_places index a n
      ++ leaf_places_in index fs (n + element_width index a)

-- where its inner bags stand, each by its first column
abbrev mutual
  pub slot_places : List ColumnType → TypeTree → ℕ → List ℕ
  slot_places index int n = []
  slot_places index bool n = []
  slot_places index text n = []
  slot_places index (rec fs) n = slot_places_in index fs n
  slot_places index (bag a) n = n ∷ []
  slot_places index (fun a b) n = []

  pub slot_places_in : List ColumnType → FieldTypes → ℕ → List ℕ
  slot_places_in index none n = []
  slot_places_in index (field l a fs) n = slot_places index a n
      ++ slot_places_in index fs (n + element_width index a)

-- the columns of the answer at a path with elements of this type: the outer index, and the element
-- with its inner indexes
abbrev pub answer_columns : Layout → Layout → TypeTree → List ColumnType
answer_columns outer inner a = index_columns outer ++ element_columns (index_columns inner) a

-- the index of so many cells that stands in a row from this place on: its tag, and behind it the
-- cells
abbrev pub key_at : ℕ → List Cell → ℕ → KeyIndex
key_at n row place = record { tag = int_at row place; cells = take n (drop (place + 1) row) }

-- the scheme for a type whose bags have these element types, and whose paths have these layouts;
-- the top has the tag 0 and no cell
abbrev pub natural_scheme : List TypeTree → List Layout → List Layout → Scheme KeyIndex
natural_scheme elements outers inners = record {
  elements = elements;
  columns = λ q. answer_columns (layout_at outers q) (layout_at inners q) (element_of elements q);
  base = λ q l. get_or (leaf_places (index_columns (layout_at inners q)) (element_of elements q)
      (length (index_columns (layout_at outers q)) + 1)) l 0;
  top = record { tag = pos 0; cells = [] };
  outer = λ q row. key_at (width (layout_at outers q)) row 0;
  inner = λ q s row. key_at (width (layout_at inners q)) row
      (get_or (slot_places (index_columns (layout_at inners q)) (element_of elements q)
      (length (index_columns (layout_at outers q)))) s 0);
  is = index_eq;
}

-- the scheme of a form over the tables of a schema
abbrev pub natural_keys : List TableShape → FormTree → Scheme KeyIndex
natural_keys S form = natural_scheme (element_types (bag form.element)) (outer_layouts S form)
    (inner_layouts S form)
