-- The columns of the tags of inner bags in an element, part by part.
use Rattle.std.specs.Prelude.{ℕ, ◌+◌, List, ◌++◌, length}
use Rattle.nq_model.specs.Types.{TypeTree, FieldTypes}
use Rattle.shred_types.specs.Columns.{fields_columns}
use Rattle.shred_types.specs.Places.{width, slot_places, slot_places_in}
use Rattle.foreign_answers.specs.declared.columns.Tags.{Tags}

-- the columns of the tags in an element, which begins with the third
abbrev pub tags_of : TypeTree → List ℕ
tags_of a = slot_places a 3

-- with one more part, and with more fields
abbrev pub with_part : Tags → TypeTree → Tags
with_part v a = record { next = v.next + width a; columns = v.columns ++ slot_places a v.next }

abbrev pub with_parts : Tags → FieldTypes → Tags
with_parts v fs = record { next = v.next + length (fields_columns fs); columns = v.columns ++ slot_places_in fs v.next }
