-- SELECTs that are made of items, sources and a condition.
use Rattle.std.proofs.Common.{◌≡◌, ℕ, List, [], ap, ◌∙◌, map, option_map, pos, false, Option, None, Some}
use Rattle.nq_model.specs.Types.{TypeTree}
use Rattle.nq_model.specs.declared.table.ColumnType.{ColumnType}
use Rattle.nq_model.specs.declared.table.ColumnType.TheVariants as column_type
use Rattle.sql_profile.specs.declared.tree.Expr.{Expr}
use Rattle.sql_profile.specs.declared.tree.Item.{Item}
use Rattle.sql_profile.specs.declared.tree.Select.{fold-roll-Select, roll-Select}
use Rattle.sql_profile.specs.declared.tree.Source.{Source}
use Rattle.sql_profile.specs.Trees.{ExprTree, int, bool, KeepTree, keep_if, SourceTree, bare_source, select, select_tree, bare_select, items_of, keep_of, placed_expr, placed_item, placed_select, select_at, PlacedExpr, PlacedItem, PlacedLink, PlacedPicked, PlacedQuery, PlacedSelect, PlacedValue, node_layer, value_layer, expr_layer, item_layer, link_layer, picked_layer, query_layer, select_layer}
use Rattle.flatten.specs.Views.{NamedValue, item_view, items_from, keep_tree}
use Rattle.flatten.proofs.Lists.{items_listed}
use Rattle.natural_keys.specs.declared.layout.Layout.{Layout}
use Rattle.natural_keys.specs.Layouts.{group}
use Rattle.natural_keys.specs.NaturalKeys.{element_columns, index_columns}
use Rattle.natural_index.specs.Trees.{as_items, empty_select, in_columns, key_expr, zero_expr}

select_rolled : (is : List Item) (ss : List Source) (w : Option Expr)
    → placed_select (roll-Select (record { place = 0; items = is; from = ss; keep = w }))
    ≡ select_at 0 (items_of (map placed_item is)) ss (keep_of (option_map placed_expr w))
select_rolled is ss None = fold-roll-Select (ℕ → PlacedExpr) PlacedValue PlacedExpr PlacedItem
    PlacedLink PlacedPicked PlacedQuery PlacedSelect node_layer value_layer expr_layer item_layer
    link_layer picked_layer query_layer select_layer (record {
      place = 0;
      items = is;
      from = ss;
      keep = None;
    })
select_rolled is ss (Some e)
    = fold-roll-Select (ℕ → PlacedExpr) PlacedValue PlacedExpr PlacedItem PlacedLink PlacedPicked
    PlacedQuery PlacedSelect node_layer value_layer expr_layer item_layer link_layer picked_layer
    query_layer select_layer (record { place = 0; items = is; from = ss; keep = Some e })

pub select_made : (is : List Item) (ss : List Source) (w : Option Expr) (items : List NamedValue)
    (from : List SourceTree) (keep : KeepTree) → map item_view is ≡ items → map bare_source ss
    ≡ from → keep_tree w ≡ keep → select_tree (roll-Select (record {
      place = 0;
      items = is;
      from = ss;
      keep = w;
    })) ≡ select (items_from items) from keep
select_made is ss w items from keep i f k =
    ap bare_select (select_rolled is ss w)
    ∙ ap (λ t. select t (map bare_source ss) (keep_tree w)) (items_listed is)
    ∙ (λ t. select (items_from (i t)) (f t) (k t))

-- the SELECT without a row
pub empty_made : (is : List Item) (ss : List Source) (w : Option Expr) (outer inner : Layout)
    (a : TypeTree) (tag : ExprTree) (ints bools texts parts : List ExprTree)
    (columns : List ColumnType) → map item_view is ≡ as_items
    (in_columns tag ints bools texts parts) → map bare_source ss ≡ [] → keep_tree w
    ≡ keep_if (bool false) → tag ≡ int (pos 0) → ints
    ≡ group key_expr zero_expr outer [] column_type.Int → bools
    ≡ group key_expr zero_expr outer [] column_type.Bool → texts
    ≡ group key_expr zero_expr outer [] column_type.Text → parts ≡ map zero_expr columns → columns
    ≡ element_columns (index_columns inner) a → select_tree
    (roll-Select (record { place = 0; items = is; from = ss; keep = w }))
    ≡ empty_select outer inner a
empty_made is ss w outer inner a tag ints bools texts parts columns items from keep t i b x p c =
    select_made is ss w (as_items (in_columns tag ints bools texts parts)) []
    (keep_if (bool false)) items from keep
    ∙ (λ z. select (items_from
    (as_items (in_columns (t z) (i z) (b z) (x z) ((p ∙ ap (map zero_expr) c) z)))) []
    (keep_if (bool false)))
