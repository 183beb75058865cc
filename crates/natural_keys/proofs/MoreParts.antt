-- Places with more parts.
use Rattle.std.proofs.Common.{◌≡◌, ℕ, ◌+◌, List, ◌++◌, ap, ◌∙◌, length, arith, length-append, append_assoc, append-nil}
use Rattle.nq_model.specs.Types.{TypeTree, FieldTypes, none, field}
use Rattle.nq_model.specs.declared.table.ColumnType.{ColumnType}
use Rattle.natural_keys.specs.declared.places.Places.{Places}
use Rattle.natural_keys.specs.NaturalKeys.{element_columns, fields_columns, element_width, leaf_places, leaf_places_in, slot_places, slot_places_in}
use Rattle.natural_keys.specs.Levels.{with_part, with_parts}

-- places with more fields, field by field
pub no_parts : (index : List ColumnType) (v : Places) → with_parts index v none ≡ v
no_parts index v = λ t. record {
  columns = append-nil v.columns t;
  leaves = append-nil v.leaves t;
  slots = append-nil v.slots t;
  outer = v.outer;
  inner = v.inner;
}

pub more_parts : (index : List ColumnType) (v : Places) (l : List ℕ) (a : TypeTree)
    (fs : FieldTypes) → with_parts index (with_part index v a) fs
    ≡ with_parts index v (field l a fs)
more_parts index v l a fs =
    let n = length v.columns in
    let w = element_width index a in
    let long : length (v.columns ++ element_columns index a) ≡ n + w
    = length-append v.columns (element_columns index a) in
    let next : length (v.columns ++ element_columns index a) + 1 ≡ n + 1 + w
    = omega (arith, long) in
    let cs : (v.columns ++ element_columns index a) ++ fields_columns index fs ≡ v.columns
    ++ fields_columns index (field l a fs) = append_assoc v.columns (element_columns index a)
    (fields_columns index fs) in
    let ls : (v.leaves ++ leaf_places index a (n + 1)) ++ leaf_places_in index fs
    (length (v.columns ++ element_columns index a) + 1) ≡ v.leaves
    ++ leaf_places_in index (field l a fs) (n + 1) =
    ap (λ k. (v.leaves ++ leaf_places index a (n + 1)) ++ leaf_places_in index fs k) next
    ∙ append_assoc v.leaves (leaf_places index a (n + 1))
    (leaf_places_in index fs (n + 1 + w)) in
    let ss : (v.slots ++ slot_places index a n) ++ slot_places_in index fs
    (length (v.columns ++ element_columns index a)) ≡ v.slots
    ++ slot_places_in index (field l a fs) n =
    ap (λ k. (v.slots ++ slot_places index a n) ++ slot_places_in index fs k) long
    ∙ append_assoc v.slots (slot_places index a n) (slot_places_in index fs (n + w)) in
    λ t. record { columns = cs t; leaves = ls t; slots = ss t; outer = v.outer; inner = v.inner }
