-- The flat index scheme: an index is a tag and a number.
--
-- After the flat indexes of Cheney, Lindley and Wadler, "Query Shredding", SIGMOD 2014.
use Rattle.std.specs.Prelude.{◌≡◌, map, ℕ, ℤ, pos, ◌+◌, List, [], ◌∷◌, ◌++◌, get_or, length, ◌&&◌}
use Rattle.std.specs.Ordering.{int_eq}
use Rattle.nq_model.specs.Operators.{int_of}
use Rattle.nq_model.specs.Types.{TypeTree, FieldTypes}
use Rattle.nq_model.specs.declared.table.Cell.{Cell}
use Rattle.nq_model.specs.declared.table.ColumnType.{ColumnType}
use Rattle.nq_model.specs.declared.table.ColumnType.TheVariants as column
use Rattle.nq_ir.specs.Lets.{FlatRow}
use Rattle.nq_model.specs.NamedRows.{no_cell}
use Rattle.shred_types.specs.Columns.{element_columns, fields_columns, answer_columns, row_cells}
use Rattle.shred_types.specs.Places.{leaf_places, leaf_places_in, slot_places, slot_places_in}
use Rattle.stitcher.specs.declared.flat.Level.{Level}
use Rattle.stitcher.specs.Schemes.{Scheme, AnswerRows, element_of}

-- the columns at a path, and where the parts of its element stand: base parts by columns counted from 1, inner bags by places counted from 0
abbrev pub level_of : TypeTree → Level
level_of a = record { columns = answer_columns a; leaves = leaf_places a 3; slots = slot_places a 2 }

-- a level with one more base part, and with one more inner bag
abbrev pub with_leaf : Level → ColumnType → Level
with_leaf v type = record { columns = v.columns ++ type ∷ []; leaves = v.leaves ++ (length v.columns + 1) ∷ []; slots = v.slots }

abbrev pub with_slot : Level → Level
with_slot v = record { columns = v.columns ++ column.Int ∷ column.Int ∷ []; leaves = v.leaves; slots = v.slots ++ length v.columns ∷ [] }

-- a level with the columns of one more part of its element, and of more fields
abbrev pub with_part : Level → TypeTree → Level
with_part v a = record {
  columns = v.columns ++ element_columns a;
  leaves = v.leaves ++ leaf_places a (length v.columns + 1);
  slots = v.slots ++ slot_places a (length v.columns);
}

abbrev pub with_parts : Level → FieldTypes → Level
with_parts v fs = record {
  columns = v.columns ++ fields_columns fs;
  leaves = v.leaves ++ leaf_places_in fs (length v.columns + 1);
  slots = v.slots ++ slot_places_in fs (length v.columns);
}

-- the integer at a place of a row, counted from 0
abbrev pub int_at : List Cell → ℕ → ℤ
int_at row k = int_of (get_or row k no_cell)

-- tag and number, which stand side by side
abbrev pub index_at : List Cell → ℕ → ℤ × ℤ
index_at row k = (int_at row k, int_at row (k + 1))

-- the scheme for a type whose bags have these element types; the top has the tag 0 and the number 1
abbrev pub flat_numbers : List TypeTree → Scheme (ℤ × ℤ)
flat_numbers elements = record {
  elements = elements;
  columns = λ q. answer_columns (element_of elements q);
  base = λ q l. get_or (leaf_places (element_of elements q) 3) l 0;
  top = (pos 0, pos 1);
  outer = λ q row. index_at row 0;
  inner = λ q s row. index_at row (get_or (slot_places (element_of elements q) 2) s 0);
  is = λ i j. int_eq i.0 j.0 && int_eq i.1 j.1;
}

-- the answer at each path is the rows there, laid out in cells
abbrev pub AreLaidOut : List TypeTree → List (List FlatRow) → List AnswerRows → Type 0
AreLaidOut elements rows ans = (q : ℕ) → get_or ans q [] ≡ map (row_cells (element_of elements q)) (get_or rows q [])
