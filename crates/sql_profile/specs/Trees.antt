-- Trees of SQL texts, with their places and without. Places tell faults and mean nothing else.
use Rattle.std.specs.Prelude.{ℕ, ℤ, pos, Bool, List, [], ◌∷◌, map, Option, Some, None}
use Rattle.nq_model.specs.Totals.{Total, HowMany, SumOf}
use Rattle.nq_model.specs.declared.term.Unary.{Unary}
use Rattle.nq_model.specs.declared.term.Binary.{Binary}
use Rattle.sql_profile.specs.declared.tree.SqlText.{SqlText}
use Rattle.sql_profile.specs.declared.tree.With.{With}
use Rattle.sql_profile.specs.declared.tree.Picked.{Picked}
use Rattle.sql_profile.specs.declared.tree.Query.{Query}
use Rattle.sql_profile.specs.declared.tree.Select.{Select}
use Rattle.sql_profile.specs.declared.tree.Item.{Item}
use Rattle.sql_profile.specs.declared.tree.ItemValue.{ItemValue}
use Rattle.sql_profile.specs.declared.tree.Link.{Link}
use Rattle.sql_profile.specs.declared.tree.Source.{Source}
use Rattle.sql_profile.specs.declared.tree.Expr.{Expr}
use Rattle.sql_profile.specs.declared.tree.ExprNode.{ExprNode}
use Rattle.sql_profile.specs.declared.tree.ExprNode.TheFolds.{fold-ExprNode, fold-Expr, fold-Picked, fold-Query, fold-Select, fold-Item, fold-ItemValue, fold-Link}
use Rattle.sql_profile.specs.declared.tree.ExprNode.TheOpen.{ExprNode-F, Expr-F, Picked-F, Query-F, Select-F, Item-F, ItemValue-F, Link-F}

-- a source: its table or WITH query, and its alias
pub record SourceTree : Type 0 where
  pub table : List ℕ
  pub alias : List ℕ

mutual
  pub data ExprTree : Type 0 where
    int : ℤ → ExprTree
    bool : Bool → ExprTree
    text : List ℕ → ExprTree
    column : List ℕ → List ℕ → ExprTree
    unary : Unary → ExprTree → ExprTree
    binary : Binary → ExprTree → ExprTree → ExprTree
    choose : ExprTree → ExprTree → ExprTree → ExprTree
    not_exists : QueryTree → ExprTree
    -- over the combinations that a scalar query keeps: how many there are, where the expression is 1, or the sum of the expression
    total : Total → List SourceTree → KeepTree → ExprTree → ExprTree

  pub data ExprTrees : Type 0 where
    no_expr : ExprTrees
    then_expr : ExprTree → ExprTrees → ExprTrees

  -- a query is the list of its SELECTs
  pub data QueryTree : Type 0 where
    no_select : QueryTree
    then_select : SelectTree → QueryTree → QueryTree

  pub data SelectTree : Type 0 where
    select : ItemTrees → List SourceTree → KeepTree → SelectTree

  -- what stands behind WHERE, if it is there
  pub data KeepTree : Type 0 where
    keep_all : KeepTree
    keep_if : ExprTree → KeepTree

  -- items with their names
  pub data ItemTrees : Type 0 where
    no_item : ItemTrees
    then_item : List ℕ → ValueTree → ItemTrees → ItemTrees

  pub data ValueTree : Type 0 where
    plain : ExprTree → ValueTree
    number : ExprTrees → ValueTree

pub record WithTree : Type 0 where
  pub name : List ℕ
  pub query : QueryTree

pub record SqlTree : Type 0 where
  pub withs : List WithTree
  pub main : QueryTree

-- the same with the place of each part first
mutual
  pub data PlacedExpr : Type 0 where
    int_at : ℕ → ℤ → PlacedExpr
    bool_at : ℕ → Bool → PlacedExpr
    text_at : ℕ → List ℕ → PlacedExpr
    column_at : ℕ → List ℕ → List ℕ → PlacedExpr
    unary_at : ℕ → Unary → PlacedExpr → PlacedExpr
    binary_at : ℕ → Binary → PlacedExpr → PlacedExpr → PlacedExpr
    choose_at : ℕ → PlacedExpr → PlacedExpr → PlacedExpr → PlacedExpr
    not_exists_at : ℕ → PlacedQuery → PlacedExpr
    total_at : ℕ → Total → List Source → PlacedKeep → PlacedExpr → PlacedExpr

  pub data PlacedExprs : Type 0 where
    none_at : PlacedExprs
    then_at : PlacedExpr → PlacedExprs → PlacedExprs

  pub data PlacedQuery : Type 0 where
    no_select_at : PlacedQuery
    then_select_at : PlacedSelect → PlacedQuery → PlacedQuery

  pub data PlacedSelect : Type 0 where
    select_at : ℕ → PlacedItems → List Source → PlacedKeep → PlacedSelect

  pub data PlacedKeep : Type 0 where
    keep_all_at : PlacedKeep
    keep_if_at : PlacedExpr → PlacedKeep

  pub data PlacedItems : Type 0 where
    no_item_at : PlacedItems
    then_item_at : PlacedItem → PlacedItems → PlacedItems

  pub data PlacedItem : Type 0 where
    item_at : ℕ → List ℕ → PlacedValue → PlacedItem

  pub data PlacedValue : Type 0 where
    plain_at : PlacedExpr → PlacedValue
    number_at : PlacedExprs → PlacedValue

-- one more part of a chain, on the right of the operator at a place
pub record PlacedLink : Type 0 where
  pub place : ℕ
  pub right : PlacedExpr

-- the sources of a scalar query, and what it keeps
pub record PlacedPicked : Type 0 where
  pub from : List Source
  pub keep : PlacedKeep

pub record PlacedWith : Type 0 where
  pub name : List ℕ
  pub place : ℕ
  pub query : PlacedQuery

pub record PlacedSql : Type 0 where
  pub withs : List PlacedWith
  pub main : PlacedQuery

abbrev pub bare_source : Source → SourceTree
bare_source s = record { table = s.table; alias = s.alias }

-- the tree without its places
abbrev mutual
  pub bare_expr : PlacedExpr → ExprTree
  bare_expr (int_at p n) = int n
  bare_expr (bool_at p b) = bool b
  bare_expr (text_at p t) = text t
  bare_expr (column_at p a c) = column a c
  bare_expr (unary_at p op e) = unary op (bare_expr e)
  bare_expr (binary_at p op l r) = binary op (bare_expr l) (bare_expr r)
  bare_expr (choose_at p t y n) = choose (bare_expr t) (bare_expr y) (bare_expr n)
  bare_expr (not_exists_at p q) = not_exists (bare_query q)
  bare_expr (total_at p g from keep e) = total g (map bare_source from) (bare_keep keep) (bare_expr e)

  pub bare_exprs : PlacedExprs → ExprTrees
  bare_exprs none_at = no_expr
  bare_exprs (then_at e es) = then_expr (bare_expr e) (bare_exprs es)

  pub bare_query : PlacedQuery → QueryTree
  bare_query no_select_at = no_select
  bare_query (then_select_at s q) = then_select (bare_select s) (bare_query q)

  pub bare_select : PlacedSelect → SelectTree
  bare_select (select_at p is from keep) = select (bare_items is) (map bare_source from) (bare_keep keep)

  pub bare_keep : PlacedKeep → KeepTree
  bare_keep keep_all_at = keep_all
  bare_keep (keep_if_at e) = keep_if (bare_expr e)

  pub bare_items : PlacedItems → ItemTrees
  bare_items no_item_at = no_item
  bare_items (then_item_at (item_at p n v) is) = then_item n (bare_value v) (bare_items is)

  pub bare_value : PlacedValue → ValueTree
  bare_value (plain_at e) = plain (bare_expr e)
  bare_value (number_at es) = number (bare_exprs es)

abbrev pub bare_link : PlacedLink → ExprTree
bare_link link = bare_expr link.right

abbrev pub bare_with : PlacedWith → WithTree
bare_with w = record { name = w.name; query = bare_query w.query }

abbrev pub bare : PlacedSql → SqlTree
bare t = record { withs = map bare_with t.withs; main = bare_query t.main }

-- lists of parts
abbrev pub exprs_of : List PlacedExpr → PlacedExprs
exprs_of [] = none_at
exprs_of (e ∷ es) = then_at e (exprs_of es)

abbrev pub query_of : List PlacedSelect → PlacedQuery
query_of [] = no_select_at
query_of (s ∷ ss) = then_select_at s (query_of ss)

abbrev pub items_of : List PlacedItem → PlacedItems
items_of [] = no_item_at
items_of (i ∷ is) = then_item_at i (items_of is)

abbrev pub keep_of : Option PlacedExpr → PlacedKeep
keep_of None = keep_all_at
keep_of (Some e) = keep_if_at e

-- an expression and further ones behind it, each pair joined by the same operation, from the left
abbrev pub chain : Binary → ExprTree → List ExprTree → ExprTree
chain op first [] = first
chain op first (right ∷ more) = chain op (binary op first right) more

abbrev pub chain_at : Binary → PlacedExpr → List PlacedLink → PlacedExpr
chain_at op first [] = first
chain_at op first (link ∷ more) = chain_at op (binary_at link.place op first link.right) more

-- the trees of the program's values: an expression's node is told its place
abbrev pub node_layer : ExprNode-F (ℕ → PlacedExpr) PlacedValue PlacedExpr PlacedItem PlacedLink PlacedPicked PlacedQuery PlacedSelect → ℕ → PlacedExpr
node_layer (ExprNode-F.Int n) = λ p. int_at p n
node_layer (ExprNode-F.Bool b) = λ p. bool_at p b
node_layer (ExprNode-F.Text t) = λ p. text_at p t
node_layer (ExprNode-F.Column a c) = λ p. column_at p a c
node_layer (ExprNode-F.Unary op e) = λ p. unary_at p op e.value
node_layer (ExprNode-F.Binary op l r) = λ p. binary_at p op l.value r.value
node_layer (ExprNode-F.Chain op first more) = λ p. chain_at op first.value more
node_layer (ExprNode-F.Choose t y n) = λ p. choose_at p t.value y.value n.value
node_layer (ExprNode-F.NotExists q) = λ p. not_exists_at p q.value
node_layer (ExprNode-F.Count k) = λ p. total_at p HowMany k.value.from k.value.keep (int_at p (pos 1))
node_layer (ExprNode-F.Sum k e) = λ p. total_at p SumOf k.value.from k.value.keep e.value

abbrev pub value_layer : ItemValue-F (ℕ → PlacedExpr) PlacedValue PlacedExpr PlacedItem PlacedLink PlacedPicked PlacedQuery PlacedSelect → PlacedValue
value_layer (ItemValue-F.Plain e) = plain_at e
value_layer (ItemValue-F.Number es) = number_at (exprs_of es)

abbrev pub expr_layer : Expr-F (ℕ → PlacedExpr) PlacedValue PlacedExpr PlacedItem PlacedLink PlacedPicked PlacedQuery PlacedSelect → PlacedExpr
expr_layer e = e.node e.place

abbrev pub item_layer : Item-F (ℕ → PlacedExpr) PlacedValue PlacedExpr PlacedItem PlacedLink PlacedPicked PlacedQuery PlacedSelect → PlacedItem
item_layer i = item_at i.place i.name i.value

abbrev pub link_layer : Link-F (ℕ → PlacedExpr) PlacedValue PlacedExpr PlacedItem PlacedLink PlacedPicked PlacedQuery PlacedSelect → PlacedLink
link_layer l = record { place = l.place; right = l.right }

abbrev pub picked_layer : Picked-F (ℕ → PlacedExpr) PlacedValue PlacedExpr PlacedItem PlacedLink PlacedPicked PlacedQuery PlacedSelect → PlacedPicked
picked_layer k = record { from = k.from; keep = keep_of k.keep }

abbrev pub query_layer : Query-F (ℕ → PlacedExpr) PlacedValue PlacedExpr PlacedItem PlacedLink PlacedPicked PlacedQuery PlacedSelect → PlacedQuery
query_layer q = query_of q.selects

abbrev pub select_layer : Select-F (ℕ → PlacedExpr) PlacedValue PlacedExpr PlacedItem PlacedLink PlacedPicked PlacedQuery PlacedSelect → PlacedSelect
select_layer s = select_at s.place (items_of s.items) s.from (keep_of s.keep)

abbrev pub placed_node : ExprNode → ℕ → PlacedExpr
placed_node = fold-ExprNode (ℕ → PlacedExpr) PlacedValue PlacedExpr PlacedItem PlacedLink PlacedPicked PlacedQuery PlacedSelect node_layer value_layer expr_layer item_layer link_layer picked_layer query_layer select_layer

abbrev pub placed_value : ItemValue → PlacedValue
placed_value = fold-ItemValue (ℕ → PlacedExpr) PlacedValue PlacedExpr PlacedItem PlacedLink PlacedPicked PlacedQuery PlacedSelect node_layer value_layer expr_layer item_layer link_layer picked_layer query_layer select_layer

abbrev pub placed_expr : Expr → PlacedExpr
placed_expr = fold-Expr (ℕ → PlacedExpr) PlacedValue PlacedExpr PlacedItem PlacedLink PlacedPicked PlacedQuery PlacedSelect node_layer value_layer expr_layer item_layer link_layer picked_layer query_layer select_layer

abbrev pub placed_item : Item → PlacedItem
placed_item = fold-Item (ℕ → PlacedExpr) PlacedValue PlacedExpr PlacedItem PlacedLink PlacedPicked PlacedQuery PlacedSelect node_layer value_layer expr_layer item_layer link_layer picked_layer query_layer select_layer

abbrev pub placed_link : Link → PlacedLink
placed_link = fold-Link (ℕ → PlacedExpr) PlacedValue PlacedExpr PlacedItem PlacedLink PlacedPicked PlacedQuery PlacedSelect node_layer value_layer expr_layer item_layer link_layer picked_layer query_layer select_layer

abbrev pub placed_picked : Picked → PlacedPicked
placed_picked = fold-Picked (ℕ → PlacedExpr) PlacedValue PlacedExpr PlacedItem PlacedLink PlacedPicked PlacedQuery PlacedSelect node_layer value_layer expr_layer item_layer link_layer picked_layer query_layer select_layer

abbrev pub placed_query : Query → PlacedQuery
placed_query = fold-Query (ℕ → PlacedExpr) PlacedValue PlacedExpr PlacedItem PlacedLink PlacedPicked PlacedQuery PlacedSelect node_layer value_layer expr_layer item_layer link_layer picked_layer query_layer select_layer

abbrev pub placed_select : Select → PlacedSelect
placed_select = fold-Select (ℕ → PlacedExpr) PlacedValue PlacedExpr PlacedItem PlacedLink PlacedPicked PlacedQuery PlacedSelect node_layer value_layer expr_layer item_layer link_layer picked_layer query_layer select_layer

abbrev pub placed_with : With → PlacedWith
placed_with w = record { name = w.name; place = w.place; query = placed_query w.query }

abbrev pub placed : SqlText → PlacedSql
placed t = record { withs = map placed_with t.withs; main = placed_query t.main }

-- the trees without places
abbrev pub expr_tree : Expr → ExprTree
expr_tree e = bare_expr (placed_expr e)

abbrev pub link_tree : Link → ExprTree
link_tree l = bare_link (placed_link l)

abbrev pub query_tree : Query → QueryTree
query_tree q = bare_query (placed_query q)

abbrev pub select_tree : Select → SelectTree
select_tree s = bare_select (placed_select s)

abbrev pub with_tree : With → WithTree
with_tree w = bare_with (placed_with w)

abbrev pub sql_tree : SqlText → SqlTree
sql_tree t = bare (placed t)
