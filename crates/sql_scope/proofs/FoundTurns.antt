-- The turns of the search's loops: what is found among those that are left is what is found among
-- all.
use Rattle.std.proofs.Common.{◌≡◌, ℕ, ◌+◌, ◌<◌, ◌≤◌, Bool, true, false, cond}
use Rattle.std.proofs.Common.{List, [], ◌∷◌, ◌++◌, map, length, drop, get_or}
use Rattle.std.proofs.Common.{refl, sym, ap, ◌∙◌}
use Rattle.std.proofs.lemmas.List.{drop_all, map-append}
use Rattle.nq_model.specs.Tables.{Columns, names_of}
use Rattle.nq_model.specs.declared.table.ColumnType.{ColumnType}
use Rattle.sql_profile.specs.declared.tree.Item.{Item}
use Rattle.sql_profile.specs.declared.tree.With.{With}
use Rattle.sql_profile.specs.Scope.{Aliases, Broken, Fine, Shapes, Verdict, among, judge_query}
use Rattle.sql_profile.specs.Scope.{judge_value, names_in}
use Rattle.sql_profile.specs.Trees.{PlacedItem, PlacedQuery, items_of, placed_item, placed_query}
use Rattle.sql_profile.specs.Trees.{placed_value, placed_with}
use Rattle.sql_profile.proofs.Trees.{item_placed}
use Rattle.sql_scope.specs.Found.{behind, items_found, nothing, query_found, value_found}
use Rattle.sql_scope.specs.Found.{withs_found}
use Rattle.sql_scope.specs.Names.{before}
use Rattle.sql_scope.specs.Steps.{placed_items}
use Rattle.sql_scope.specs.declared.found.Found.{Found}
use Rattle.sql_scope.proofs.Lookups.{among_reversed, before_more}
use Rattle.sql_scope.proofs.Turns.{drop_step}

module _ (ts : Shapes) (env : Aliases) where
  -- among the items that are left, behind those of these columns
  abbrev pub items_left : Columns → List Item → Found
  items_left columns is = items_found ts env (before (names_of columns) []) (placed_items is)

  abbrev item_step : Item → Verdict ColumnType → Bool → Found → Found
  item_step i v b more =
      behind v (value_found ts env (placed_value i.value)) (λ k. cond b nothing more)

  abbrev items_behind : Columns → Item → List Item → Found
  items_behind columns i is =
      items_found ts env (i.name ∷ before (names_of columns) []) (placed_items is)

  items_next : (columns : Columns) (i : Item) (is : List Item)
      → items_left columns (i ∷ is)
      ≡ item_step i (judge_value ts env (placed_value i.value))
      (among i.name (names_of columns)) (items_behind columns i is)
  items_next columns i is =
      ap (λ (j : PlacedItem). items_found ts env (before (names_of columns) [])
      (items_of (j ∷ map placed_item is))) (item_placed i)
      ∙ ap (λ b. item_step i (judge_value ts env (placed_value i.value)) b
      (items_behind columns i is)) (among_reversed i.name (names_of columns))

  module _ (columns : Columns) (is : List Item) (n : ℕ) (i : Item) (all : Found)
      (h : n < length is) (at : i ≡ get_or is n i)
      (same : all ≡ items_left columns (drop n is)) where
    item_turn : (v : Verdict ColumnType) (b : Bool)
        → judge_value ts env (placed_value i.value) ≡ v
        → among i.name (names_of columns) ≡ b
        → all ≡ item_step i v b (items_behind columns i (drop (n + 1) is))
    item_turn v b judged looked =
        same ∙ ap (items_left columns) (drop_step is n i h at)
        ∙ items_next columns i (drop (n + 1) is)
        ∙ ap (λ w. item_step i w (among i.name (names_of columns))
        (items_behind columns i (drop (n + 1) is))) judged
        ∙ ap (λ t. item_step i v t (items_behind columns i (drop (n + 1) is))) looked

    pub item_stops : (rule place : ℕ)
        → judge_value ts env (placed_value i.value) ≡ Broken rule place
        → value_found ts env (placed_value i.value) ≡ all
    item_stops rule place broken =
        sym (item_turn (Broken rule place) (among i.name (names_of columns)) broken refl)

    pub item_again : (k : ColumnType) → judge_value ts env (placed_value i.value) ≡ Fine k
        → among i.name (names_of columns) ≡ true → nothing ≡ all
    item_again k fine twice = sym (item_turn (Fine k) true fine twice)

    pub items_go_on : (k : ColumnType) (new : Columns)
        → judge_value ts env (placed_value i.value) ≡ Fine k
        → among i.name (names_of columns) ≡ false → new ≡ columns ++ (i.name, k) ∷ []
        → all ≡ items_left new (drop (n + 1) is)
    items_go_on k new fine other longer =
        item_turn (Fine k) false fine other
        ∙ ap (λ (l : List (List ℕ)). items_found ts env l (placed_items (drop (n + 1) is)))
        (sym (ap (λ (c : Columns). before (names_of c) []) longer
        ∙ ap (λ (l : List (List ℕ)). before l [])
        (map-append (λ (c : List ℕ × ColumnType). c.0) columns ((i.name, k) ∷ []))
        ∙ before_more (names_of columns) i.name []))

  pub items_done : (columns : Columns) (is : List Item) (n : ℕ) (all : Found) → length is ≤ n
      → all ≡ items_left columns (drop n is) → nothing ≡ all
  items_done columns is n all h same =
      sym (same ∙ ap (items_left columns) (drop_all n is h))

-- among the WITH queries that are left, and then in the main query
abbrev pub withs_left : Shapes → PlacedQuery → List With → Found
withs_left ts main ws = withs_found ts (map placed_with ws) main

abbrev with_step : Shapes → PlacedQuery → With → List With → Bool → Verdict Columns
    → Found
with_step ts main w ws b v =
    cond b nothing (behind v (query_found ts [] (placed_query w.query))
    (λ columns. withs_left ((w.name, columns) ∷ ts) main ws))

module _ (ts : Shapes) (main : PlacedQuery) (ws : List With) (n : ℕ) (w : With) (all : Found)
    (h : n < length ws) (at : w ≡ get_or ws n w)
    (same : all ≡ withs_left ts main (drop n ws)) where
  with_turn : (b : Bool) (v : Verdict Columns) → among w.name (names_in ts) ≡ b
      → judge_query ts [] (placed_query w.query) ≡ v
      → all ≡ with_step ts main w (drop (n + 1) ws) b v
  with_turn b v looked judged =
      same ∙ ap (withs_left ts main) (drop_step ws n w h at)
      ∙ ap (λ t. with_step ts main w (drop (n + 1) ws) t
      (judge_query ts [] (placed_query w.query))) looked
      ∙ ap (with_step ts main w (drop (n + 1) ws) b) judged

  pub with_again : among w.name (names_in ts) ≡ true → nothing ≡ all
  with_again twice =
      sym (with_turn true (judge_query ts [] (placed_query w.query)) twice refl)

  pub with_stops : (rule place : ℕ) → among w.name (names_in ts) ≡ false
      → judge_query ts [] (placed_query w.query) ≡ Broken rule place
      → query_found ts [] (placed_query w.query) ≡ all
  with_stops rule place other broken = sym (with_turn false (Broken rule place) other broken)

  pub withs_go_on : (columns : Columns) (new : Shapes) → among w.name (names_in ts) ≡ false
      → judge_query ts [] (placed_query w.query) ≡ Fine columns
      → new ≡ (w.name, columns) ∷ ts → all ≡ withs_left new main (drop (n + 1) ws)
  withs_go_on columns new other fine more =
      with_turn false (Fine columns) other fine
      ∙ ap (λ (l : Shapes). withs_left l main (drop (n + 1) ws)) (sym more)
