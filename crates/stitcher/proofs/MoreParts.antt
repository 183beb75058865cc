-- Levels with more parts.
use Rattle.std.proofs.Common.{◌≡◌, ℕ, ◌+◌, List, [], ◌++◌, ap, ap₂, ◌∙◌, length, arith, length-append, append_assoc, append-nil}
use Rattle.nq_model.specs.Types.{TypeTree, FieldTypes, none, field}
use Rattle.nq_model.specs.declared.table.ColumnType.{ColumnType}
use Rattle.shred_types.specs.Columns.{element_columns, fields_columns}
use Rattle.stitcher.specs.declared.flat.Level.{Level}
use Rattle.shred_types.specs.Places.{width, leaf_places, leaf_places_in, slot_places, slot_places_in}
use Rattle.stitcher.specs.FlatNumbers.{with_part, with_parts}

-- a level with more fields, field by field
pub no_parts : (v : Level) → with_parts v none ≡ v
no_parts v =
    ap₂ (λ (x : List ColumnType) (y : List ℕ). record { columns = x; leaves = y; slots = v.slots ++ [] }) (append-nil v.columns) (append-nil v.leaves)
    ∙ ap (λ (z : List ℕ). record { columns = v.columns; leaves = v.leaves; slots = z }) (append-nil v.slots)

pub more_parts : (v : Level) (l : List ℕ) (a : TypeTree) (fs : FieldTypes) → with_parts (with_part v a) fs ≡ with_parts v (field l a fs)
more_parts v l a fs =
    let n = length v.columns in
    let long : length (v.columns ++ element_columns a) ≡ n + width a = length-append v.columns (element_columns a) in
    let next : length (v.columns ++ element_columns a) + 1 ≡ n + 1 + width a = omega (arith, long) in
    ap₂ (λ (x : List ColumnType) (y : List ℕ). record { columns = x; leaves = y; slots = (v.slots ++ slot_places a n) ++ slot_places_in fs (length (v.columns ++ element_columns a)) }) (append_assoc v.columns (element_columns a) (fields_columns fs)) (ap (λ k. (v.leaves ++ leaf_places a (n + 1)) ++ leaf_places_in fs k) next ∙ append_assoc v.leaves (leaf_places a (n + 1)) (leaf_places_in fs (n + 1 + width a)))
    ∙ ap (λ (z : List ℕ). record { columns = v.columns ++ (element_columns a ++ fields_columns fs); leaves = v.leaves ++ (leaf_places a (n + 1) ++ leaf_places_in fs (n + 1 + width a)); slots = z }) (ap (λ k. (v.slots ++ slot_places a n) ++ slot_places_in fs k) long ∙ append_assoc v.slots (slot_places a n) (slot_places_in fs (n + width a)))
