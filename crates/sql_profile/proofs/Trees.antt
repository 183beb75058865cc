-- The trees of SQL expressions, items and queries, form by form.
use Rattle.std.proofs.Common.{◌≡◌, ℕ, ℤ, pos, Bool, List, [], ◌∷◌, ◌++◌, map, refl, sym, ap, ◌∙◌, Box, Global, Option, Some, None}
use Rattle.std.specs.Option.{option_map}
use Rattle.nq_model.specs.declared.term.Unary.{Unary}
use Rattle.nq_model.specs.declared.term.Binary.{Binary}
use Rattle.sql_profile.specs.declared.tree.Expr.{Expr, fold-roll-Expr}
use Rattle.sql_profile.specs.declared.tree.Picked.{Picked, out-Picked, fold_out-Picked, map-Picked}
use Rattle.nq_model.specs.Totals.{HowMany, SumOf}
use Rattle.sql_profile.specs.declared.tree.Query.{Query, out-Query, fold_out-Query}
use Rattle.sql_profile.specs.declared.tree.Select.{Select, out-Select, fold_out-Select, map-Select}
use Rattle.sql_profile.specs.declared.tree.Item.{Item, fold-roll-Item}
use Rattle.sql_profile.specs.declared.tree.Link.{Link, fold-roll-Link}
use Rattle.sql_profile.specs.declared.tree.Source.{Source}
use Rattle.sql_profile.specs.declared.tree.ItemValue.{ItemValue, ItemValue-F, fold-roll-ItemValue}
use Rattle.sql_profile.specs.declared.tree.ItemValue.TheVariants as value
use Rattle.sql_profile.specs.declared.tree.ExprNode.{ExprNode, ExprNode-F, fold-roll-ExprNode}
use Rattle.sql_profile.specs.declared.tree.ExprNode.TheVariants as node
use Rattle.sql_profile.specs.Trees.{ExprTree, binary, bare_expr, bare_link, chain, PlacedExpr, int_at, bool_at, text_at, column_at, unary_at, binary_at, choose_at, not_exists_at, total_at, PlacedPicked, placed_picked, picked_layer, PlacedItem, item_at, PlacedQuery, PlacedSelect, select_at, PlacedValue, plain_at, number_at, exprs_of, items_of, query_of, keep_of, PlacedLink, chain_at, node_layer, value_layer, expr_layer, item_layer, link_layer, query_layer, select_layer, placed_node, placed_value, placed_expr, placed_item, placed_link, placed_query, placed_select}

pub node_int : (n : ℤ) (p : ℕ) → placed_node (node.Int n) p ≡ int_at p n
node_int n p = ap (λ n. placed_node n p) (sym (node.rolls-Int n)) ∙ ap (λ f. f p) (fold-roll-ExprNode (ℕ → PlacedExpr) PlacedValue PlacedExpr PlacedItem PlacedLink PlacedPicked PlacedQuery PlacedSelect node_layer value_layer expr_layer item_layer link_layer picked_layer query_layer select_layer (ExprNode-F.Int n))

pub node_bool : (b : Bool) (p : ℕ) → placed_node (node.Bool b) p ≡ bool_at p b
node_bool b p = ap (λ n. placed_node n p) (sym (node.rolls-Bool b)) ∙ ap (λ f. f p) (fold-roll-ExprNode (ℕ → PlacedExpr) PlacedValue PlacedExpr PlacedItem PlacedLink PlacedPicked PlacedQuery PlacedSelect node_layer value_layer expr_layer item_layer link_layer picked_layer query_layer select_layer (ExprNode-F.Bool b))

pub node_text : (t : List ℕ) (p : ℕ) → placed_node (node.Text t) p ≡ text_at p t
node_text t p = ap (λ n. placed_node n p) (sym (node.rolls-Text t)) ∙ ap (λ f. f p) (fold-roll-ExprNode (ℕ → PlacedExpr) PlacedValue PlacedExpr PlacedItem PlacedLink PlacedPicked PlacedQuery PlacedSelect node_layer value_layer expr_layer item_layer link_layer picked_layer query_layer select_layer (ExprNode-F.Text t))

pub node_column : (a c : List ℕ) (p : ℕ) → placed_node (node.Column a c) p ≡ column_at p a c
node_column a c p = ap (λ n. placed_node n p) (sym (node.rolls-Column a c)) ∙ ap (λ f. f p) (fold-roll-ExprNode (ℕ → PlacedExpr) PlacedValue PlacedExpr PlacedItem PlacedLink PlacedPicked PlacedQuery PlacedSelect node_layer value_layer expr_layer item_layer link_layer picked_layer query_layer select_layer (ExprNode-F.Column a c))

pub node_unary : (op : Unary) (e : Box Expr Global) (p : ℕ) → placed_node (node.Unary op e) p ≡ unary_at p op (placed_expr e.value)
node_unary op e p = ap (λ n. placed_node n p) (sym (node.rolls-Unary op e)) ∙ ap (λ f. f p) (fold-roll-ExprNode (ℕ → PlacedExpr) PlacedValue PlacedExpr PlacedItem PlacedLink PlacedPicked PlacedQuery PlacedSelect node_layer value_layer expr_layer item_layer link_layer picked_layer query_layer select_layer (ExprNode-F.Unary op e))

pub node_binary : (op : Binary) (l r : Box Expr Global) (p : ℕ) → placed_node (node.Binary op l r) p ≡ binary_at p op (placed_expr l.value) (placed_expr r.value)
node_binary op l r p = ap (λ n. placed_node n p) (sym (node.rolls-Binary op l r)) ∙ ap (λ f. f p) (fold-roll-ExprNode (ℕ → PlacedExpr) PlacedValue PlacedExpr PlacedItem PlacedLink PlacedPicked PlacedQuery PlacedSelect node_layer value_layer expr_layer item_layer link_layer picked_layer query_layer select_layer (ExprNode-F.Binary op l r))

pub node_chain : (op : Binary) (first : Box Expr Global) (more : List Link) (p : ℕ) → placed_node (node.Chain op first more) p ≡ chain_at op (placed_expr first.value) (map placed_link more)
node_chain op first more p = ap (λ n. placed_node n p) (sym (node.rolls-Chain op first more)) ∙ ap (λ f. f p) (fold-roll-ExprNode (ℕ → PlacedExpr) PlacedValue PlacedExpr PlacedItem PlacedLink PlacedPicked PlacedQuery PlacedSelect node_layer value_layer expr_layer item_layer link_layer picked_layer query_layer select_layer (ExprNode-F.Chain op first more))

pub node_choose : (t y n : Box Expr Global) (p : ℕ) → placed_node (node.Choose t y n) p ≡ choose_at p (placed_expr t.value) (placed_expr y.value) (placed_expr n.value)
node_choose t y n p = ap (λ n. placed_node n p) (sym (node.rolls-Choose t y n)) ∙ ap (λ f. f p) (fold-roll-ExprNode (ℕ → PlacedExpr) PlacedValue PlacedExpr PlacedItem PlacedLink PlacedPicked PlacedQuery PlacedSelect node_layer value_layer expr_layer item_layer link_layer picked_layer query_layer select_layer (ExprNode-F.Choose t y n))

pub node_not_exists : (q : Box Query Global) (p : ℕ) → placed_node (node.NotExists q) p ≡ not_exists_at p (placed_query q.value)
node_not_exists q p = ap (λ n. placed_node n p) (sym (node.rolls-NotExists q)) ∙ ap (λ f. f p) (fold-roll-ExprNode (ℕ → PlacedExpr) PlacedValue PlacedExpr PlacedItem PlacedLink PlacedPicked PlacedQuery PlacedSelect node_layer value_layer expr_layer item_layer link_layer picked_layer query_layer select_layer (ExprNode-F.NotExists q))

pub node_count : (k : Box Picked Global) (p : ℕ) → placed_node (node.Count k) p ≡ total_at p HowMany (placed_picked k.value).from (placed_picked k.value).keep (int_at p (pos 1))
node_count k p = ap (λ n. placed_node n p) (sym (node.rolls-Count k)) ∙ ap (λ f. f p) (fold-roll-ExprNode (ℕ → PlacedExpr) PlacedValue PlacedExpr PlacedItem PlacedLink PlacedPicked PlacedQuery PlacedSelect node_layer value_layer expr_layer item_layer link_layer picked_layer query_layer select_layer (ExprNode-F.Count k))

pub node_sum : (k : Box Picked Global) (e : Box Expr Global) (p : ℕ) → placed_node (node.Sum k e) p ≡ total_at p SumOf (placed_picked k.value).from (placed_picked k.value).keep (placed_expr e.value)
node_sum k e p = ap (λ n. placed_node n p) (sym (node.rolls-Sum k e)) ∙ ap (λ f. f p) (fold-roll-ExprNode (ℕ → PlacedExpr) PlacedValue PlacedExpr PlacedItem PlacedLink PlacedPicked PlacedQuery PlacedSelect node_layer value_layer expr_layer item_layer link_layer picked_layer query_layer select_layer (ExprNode-F.Sum k e))

-- an expression is its node at its place
pub expr_placed : (e : Expr) → placed_expr e ≡ placed_node e.node e.place
expr_placed e = fold-roll-Expr (ℕ → PlacedExpr) PlacedValue PlacedExpr PlacedItem PlacedLink PlacedPicked PlacedQuery PlacedSelect node_layer value_layer expr_layer item_layer link_layer picked_layer query_layer select_layer (record { place = e.place; node = e.node })

pub link_placed : (l : Link) → placed_link l ≡ record { place = l.place; right = placed_expr l.right }
link_placed l = fold-roll-Link (ℕ → PlacedExpr) PlacedValue PlacedExpr PlacedItem PlacedLink PlacedPicked PlacedQuery PlacedSelect node_layer value_layer expr_layer item_layer link_layer picked_layer query_layer select_layer (record { place = l.place; right = l.right })

-- the last link of a chain is its outermost operation
pub chain_more : (op : Binary) (first : PlacedExpr) (more : List PlacedLink) (link : PlacedLink) → chain_at op first (more ++ link ∷ []) ≡ binary_at link.place op (chain_at op first more) link.right
chain_more op first [] link = refl
chain_more op first (l ∷ more) link = chain_more op (binary_at l.place op first l.right) more link

pub bare_chain_more : (op : Binary) (first : ExprTree) (more : List ExprTree) (right : ExprTree) → chain op first (more ++ right ∷ []) ≡ binary op (chain op first more) right
bare_chain_more op first [] right = refl
bare_chain_more op first (e ∷ more) right = bare_chain_more op (binary op first e) more right

-- a chain without its places
pub bare_chain : (op : Binary) (first : PlacedExpr) (more : List PlacedLink) → bare_expr (chain_at op first more) ≡ chain op (bare_expr first) (map bare_link more)
bare_chain op first [] = refl
bare_chain op first (link ∷ more) = bare_chain op (binary_at link.place op first link.right) more

pub item_placed : (i : Item) → placed_item i ≡ item_at i.place i.name (placed_value i.value)
item_placed i = fold-roll-Item (ℕ → PlacedExpr) PlacedValue PlacedExpr PlacedItem PlacedLink PlacedPicked PlacedQuery PlacedSelect node_layer value_layer expr_layer item_layer link_layer picked_layer query_layer select_layer (record { name = i.name; place = i.place; value = i.value })

pub value_plain : (e : Expr) → placed_value (value.Plain e) ≡ plain_at (placed_expr e)
value_plain e = ap placed_value (sym (value.rolls-Plain e)) ∙ fold-roll-ItemValue (ℕ → PlacedExpr) PlacedValue PlacedExpr PlacedItem PlacedLink PlacedPicked PlacedQuery PlacedSelect node_layer value_layer expr_layer item_layer link_layer picked_layer query_layer select_layer (ItemValue-F.Plain e)

pub value_number : (es : List Expr) → placed_value (value.Number es) ≡ number_at (exprs_of (map placed_expr es))
value_number es = ap placed_value (sym (value.rolls-Number es)) ∙ fold-roll-ItemValue (ℕ → PlacedExpr) PlacedValue PlacedExpr PlacedItem PlacedLink PlacedPicked PlacedQuery PlacedSelect node_layer value_layer expr_layer item_layer link_layer picked_layer query_layer select_layer (ItemValue-F.Number es)

pub query_placed : (q : Query) → placed_query q ≡ query_of (map placed_select (out-Query q).selects)
query_placed q = fold_out-Query (ℕ → PlacedExpr) PlacedValue PlacedExpr PlacedItem PlacedLink PlacedPicked PlacedQuery PlacedSelect node_layer value_layer expr_layer item_layer link_layer picked_layer query_layer select_layer q

select_laid : (p : ℕ) (is : List Item) (from : List Source) (k : Option Expr) → select_layer (map-Select ExprNode ItemValue Expr Item Link Picked Query Select (ℕ → PlacedExpr) PlacedValue PlacedExpr PlacedItem PlacedLink PlacedPicked PlacedQuery PlacedSelect placed_node placed_value placed_expr placed_item placed_link placed_picked placed_query placed_select (record { place = p; items = is; from = from; keep = k })) ≡ select_at p (items_of (map placed_item is)) from (keep_of (option_map placed_expr k))
select_laid p is from None = refl
select_laid p is from (Some e) = refl

pub select_placed : (s : Select) → placed_select s ≡ select_at (out-Select s).place (items_of (map placed_item (out-Select s).items)) (out-Select s).from (keep_of (option_map placed_expr (out-Select s).keep))
select_placed s = fold_out-Select (ℕ → PlacedExpr) PlacedValue PlacedExpr PlacedItem PlacedLink PlacedPicked PlacedQuery PlacedSelect node_layer value_layer expr_layer item_layer link_layer picked_layer query_layer select_layer s ∙ select_laid (out-Select s).place (out-Select s).items (out-Select s).from (out-Select s).keep

picked_laid : (from : List Source) (k : Option Expr) → picked_layer (map-Picked ExprNode ItemValue Expr Item Link Picked Query Select (ℕ → PlacedExpr) PlacedValue PlacedExpr PlacedItem PlacedLink PlacedPicked PlacedQuery PlacedSelect placed_node placed_value placed_expr placed_item placed_link placed_picked placed_query placed_select (record { from = from; keep = k })) ≡ record { from = from; keep = keep_of (option_map placed_expr k) }
picked_laid from None = refl
picked_laid from (Some e) = refl

pub picked_placed : (k : Picked) → placed_picked k ≡ record { from = (out-Picked k).from; keep = keep_of (option_map placed_expr (out-Picked k).keep) }
picked_placed k = fold_out-Picked (ℕ → PlacedExpr) PlacedValue PlacedExpr PlacedItem PlacedLink PlacedPicked PlacedQuery PlacedSelect node_layer value_layer expr_layer item_layer link_layer picked_layer query_layer select_layer k ∙ picked_laid (out-Picked k).from (out-Picked k).keep
