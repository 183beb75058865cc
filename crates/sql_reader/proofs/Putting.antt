-- Lists of parts with one more, as what the reader keeps.
use Rattle.std.proofs.Common.{◌≡◌, ℕ, Bool, true, false, List, [], ◌∷◌, ◌++◌, map, Option, Some, None, refl, ap, ◌∙◌, Box, Global}
use Rattle.std.specs.Option.{option_map}
use Rattle.std.proofs.lemmas.List.{map-append}
use Rattle.nq_model.specs.declared.term.Binary.{Binary}
use Rattle.nq_model.specs.QueryScope.{undoubled}
use Rattle.sql_profile.specs.Tokens.{is_quote, place_of, unquoted_from}
use Rattle.sql_profile.specs.declared.tree.Expr.{Expr}
use Rattle.sql_profile.specs.declared.tree.ExprNode.TheVariants as node
use Rattle.sql_profile.specs.declared.tree.Item.{Item}
use Rattle.sql_profile.specs.declared.tree.Link.{Link}
use Rattle.sql_profile.specs.declared.tree.Select.{Select, out-Select}
use Rattle.sql_profile.specs.declared.tree.Picked.{roll-Picked, fold-roll-Picked}
use Rattle.sql_profile.specs.declared.tree.Source.{Source}
use Rattle.sql_profile.specs.declared.tree.With.{With}
use Rattle.sql_profile.specs.Trees.{PlacedExpr, PlacedValue, PlacedItem, PlacedLink, PlacedPicked, PlacedQuery, PlacedSelect, binary_at, chain_at, node_layer, value_layer, expr_layer, item_layer, link_layer, picked_layer, query_layer, select_layer, placed_expr, placed_link, placed_node, placed_picked, placed_item, placed_query, placed_select, placed_with, placed_value, items_of, keep_of, query_of, select_at, item_at}
use Rattle.sql_profile.specs.declared.tree.Query.{roll-Query, fold-roll-Query}
use Rattle.sql_profile.proofs.Trees.{chain_more, expr_placed, item_placed, link_placed, node_chain, select_placed}
use Rattle.sql_reader.specs.Symbols.{symbol_view}
use Rattle.sql_reader.specs.declared.token.Mark.TheVariants as marks
use Rattle.sql_reader.specs.declared.token.Symbol.{Symbol}
use Rattle.sql_reader.specs.declared.token.Symbol.TheVariants as symbols

pub keys_put : (old new : List Expr) (e : Expr) → new ≡ old ++ e ∷ [] → map placed_expr new ≡ map placed_expr old ++ placed_expr e ∷ []
keys_put old new e is = ap (map placed_expr) is ∙ map-append placed_expr old (e ∷ [])

-- an expression that is a chain
pub chain_kept : (own : Binary) (first : Box Expr Global) (more : List Link) (e : Expr) → e.node ≡ node.Chain own first more → placed_expr e ≡ chain_at own (placed_expr first.value) (map placed_link more)
chain_kept own first more e is = expr_placed e ∙ ap (λ n. placed_node n e.place) is ∙ node_chain own first more e.place

-- a chain with one more link
pub link_put : (op : Binary) (first : Box Expr Global) (old new : List Link) (place : ℕ) (right : Expr) (p : ℕ) → new ≡ old ++ record { place = place; right = right } ∷ []
    → placed_node (node.Chain op first new) p ≡ binary_at place op (chain_at op (placed_expr first.value) (map placed_link old)) (placed_expr right)
link_put op first old new place right p is =
    let link : Link = record { place = place; right = right } in
    node_chain op first new p ∙ ap (λ (l : List Link). chain_at op (placed_expr first.value) (map placed_link l)) is
    ∙ ap (chain_at op (placed_expr first.value)) (map-append placed_link old (link ∷ []))
    ∙ chain_more op (placed_expr first.value) (map placed_link old) (placed_link link)
    ∙ ap (λ (l : PlacedLink). binary_at l.place op (chain_at op (placed_expr first.value) (map placed_link old)) l.right) (link_placed link)

pub items_put : (old new : List Item) (i : Item) → new ≡ old ++ i ∷ [] → map placed_item new ≡ map placed_item old ++ item_at i.place i.name (placed_value i.value) ∷ []
items_put old new i is = ap (map placed_item) is ∙ map-append placed_item old (i ∷ []) ∙ ap (λ t. map placed_item old ++ t ∷ []) (item_placed i)

pub selects_put : (old new : List Select) (s : Select) → new ≡ old ++ s ∷ [] → map placed_select new
    ≡ map placed_select old ++ select_at (out-Select s).place (items_of (map placed_item (out-Select s).items)) (out-Select s).from (keep_of (option_map placed_expr (out-Select s).keep)) ∷ []
selects_put old new s is = ap (map placed_select) is ∙ map-append placed_select old (s ∷ []) ∙ ap (λ t. map placed_select old ++ t ∷ []) (select_placed s)

pub withs_put : (old new : List With) (w : With) → new ≡ old ++ w ∷ [] → map placed_with new ≡ map placed_with old ++ placed_with w ∷ []
withs_put old new w is = ap (map placed_with) is ∙ map-append placed_with old (w ∷ [])

-- the text of a literal
pub same_text : (kept : Bool) (bs : List ℕ) → undoubled kept bs ≡ unquoted_from kept bs
same_text true [] = refl
same_text false [] = refl
same_text false (b ∷ bs) = ap (λ (l : List ℕ). b ∷ l) (same_text (is_quote b) bs)
same_text true (b ∷ bs) = same_text false bs

-- the place of a token
pub place_there : (p : ℕ) (s : Symbol) → place_of (symbol_view p s) ≡ p
place_there p (symbols.Mark (marks.Operator op)) = refl
place_there p (symbols.Mark m) = refl
place_there p s = refl

-- the tree of a query
pub query_tree : (ss : List Select) → placed_query (roll-Query (record { selects = ss })) ≡ query_of (map placed_select ss)
query_tree ss = fold-roll-Query (ℕ → PlacedExpr) PlacedValue PlacedExpr PlacedItem PlacedLink PlacedPicked PlacedQuery PlacedSelect node_layer value_layer expr_layer item_layer link_layer picked_layer query_layer select_layer (record { selects = ss })

-- the sources and the condition of a scalar query
pub picked_kept : (from : List Source) (keep : Option Expr) → placed_picked (roll-Picked (record { from = from; keep = keep })) ≡ record { from = from; keep = keep_of (option_map placed_expr keep) }
picked_kept from None = fold-roll-Picked (ℕ → PlacedExpr) PlacedValue PlacedExpr PlacedItem PlacedLink PlacedPicked PlacedQuery PlacedSelect node_layer value_layer expr_layer item_layer link_layer picked_layer query_layer select_layer (record { from = from; keep = None })
picked_kept from (Some e) = fold-roll-Picked (ℕ → PlacedExpr) PlacedValue PlacedExpr PlacedItem PlacedLink PlacedPicked PlacedQuery PlacedSelect node_layer value_layer expr_layer item_layer link_layer picked_layer query_layer select_layer (record { from = from; keep = Some e })
