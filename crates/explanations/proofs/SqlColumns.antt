-- The names of items, and the end of the items that have types.
use Rattle.std.proofs.Common.{◌≡◌, ℕ, ◌≤◌, min, List, [], ◌∷◌, ◌++◌, length}
use Rattle.std.proofs.Common.{drop, map, refl, ap, sym, ◌∙◌, arith}
use Rattle.std.specs.Prelude.{zip}
use Rattle.std.proofs.lemmas.List.{append-nil, length-drop, length-map, nil_from_length}
use Rattle.std.proofs.lemmas.Slice.Zip.{length-zip}
use Rattle.nq_model.specs.declared.table.ColumnType.{ColumnType}
use Rattle.sql_profile.specs.AllowedAnswers.{item_names}
use Rattle.sql_profile.specs.Parts.{items_tree}
use Rattle.sql_profile.specs.Trees.{bare_items, items_of, placed_item}
use Rattle.sql_profile.specs.declared.tree.Item.{Item}
use Rattle.sql_profile.proofs.Trees.{item_placed}

pub items_named : (items : List Item)
    → map (λ item. item.name) items ≡ item_names (items_tree items)
items_named [] = refl
items_named (item ∷ items) =
    ap (λ (names : List (List ℕ)). item.name ∷ names) (items_named items)
    ∙ sym (ap (λ p. item_names (bare_items (items_of (p ∷ map placed_item items))))
    (item_placed item))

-- no item that has a type is left
pub at_end : (columns : List (List ℕ × ColumnType)) (items : List Item)
    (types : List ColumnType) (n : ℕ) → min (length items) (length types) ≤ n
    → columns ++ zip (map (λ item. item.name) (drop n items)) (drop n types) ≡ columns
at_end columns items types n h =
    let left : List (List ℕ) = map (λ item. item.name) (drop n items) in
    let none : length (zip left (drop n types)) ≡ 0 = omega (
      arith,
      h,
      length-zip left (drop n types),
      length-map (drop n items) (λ (item : Item). item.name),
      length-drop n items,
      length-drop n types,
    ) in
    ap (λ behind. columns ++ behind) (nil_from_length _ none) ∙ append-nil columns
