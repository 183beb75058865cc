-- The columns at a path, and where the parts of its element stand, part by part.
use Rattle.std.specs.Prelude.{◌+◌, List, [], ◌∷◌, ◌++◌, length}
use Rattle.nq_model.specs.Types.{TypeTree, FieldTypes}
use Rattle.nq_model.specs.declared.table.ColumnType.{ColumnType}
use Rattle.natural_keys.specs.declared.layout.Layout.{Layout}
use Rattle.natural_keys.specs.declared.places.Places.{Places}
use Rattle.natural_keys.specs.Layouts.{width}
use Rattle.natural_keys.specs.NaturalKeys.{answer_columns, element_columns, fields_columns, index_columns, leaf_places, leaf_places_in, slot_places, slot_places_in}

-- base parts stand by columns counted from 1, inner bags by places counted from 0
abbrev pub places_of : Layout → Layout → TypeTree → Places
places_of outer inner a = record {
  columns = answer_columns outer inner a;
  leaves = leaf_places (index_columns inner) a (length (index_columns outer) + 1);
  slots = slot_places (index_columns inner) a (length (index_columns outer));
  outer = width outer;
  inner = width inner;
}

-- with one more base part, and with one more inner bag
abbrev pub with_leaf : Places → ColumnType → Places
with_leaf v of = record {
  columns = v.columns ++ of ∷ [];
  leaves = v.leaves ++ (length v.columns + 1) ∷ [];
  slots = v.slots;
  outer = v.outer;
  inner = v.inner;
}

abbrev pub with_slot : List ColumnType → Places → Places
with_slot index v = record {
  columns = v.columns ++ index;
  leaves = v.leaves;
  slots = v.slots ++ length v.columns ∷ [];
  outer = v.outer;
  inner = v.inner;
}

-- with the columns of one more part of the element, and of more fields
abbrev pub with_part : List ColumnType → Places → TypeTree → Places
with_part index v a = record {
  columns = v.columns ++ element_columns index a;
  leaves = v.leaves ++ leaf_places index a (length v.columns + 1);
  slots = v.slots ++ slot_places index a (length v.columns);
  outer = v.outer;
  inner = v.inner;
}

abbrev pub with_parts : List ColumnType → Places → FieldTypes → Places
with_parts index v fs = record {
  columns = v.columns ++ fields_columns index fs;
  leaves = v.leaves ++ leaf_places_in index fs (length v.columns + 1);
  slots = v.slots ++ slot_places_in index fs (length v.columns);
  outer = v.outer;
  inner = v.inner;
}
