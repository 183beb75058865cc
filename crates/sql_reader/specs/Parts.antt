-- What the reader keeps of what it read: trees, with how strongly they bind and how deep they are.
--
-- It is less than a syntax tree, which keeps every token.
use Rattle.std.specs.Prelude.{ℕ, suc, pos, max, List, [], ◌∷◌, ◌++◌, Option, Some, None}
use Rattle.nq_model.specs.Totals.{HowMany, SumOf}
use Rattle.nq_model.specs.declared.term.Binary.{Binary}
use Rattle.nq_model.specs.declared.term.Unary.TheVariants as unary
use Rattle.sql_profile.specs.declared.tree.Source.{Source}
use Rattle.sql_profile.specs.Grammar.{constant_at, level}
use Rattle.sql_profile.specs.Tokens.{Constant}
use Rattle.sql_profile.specs.Trees.{PlacedExpr, int_at, column_at, unary_at, binary_at, choose_at, not_exists_at, total_at, PlacedSelect, select_at, PlacedKeep, PlacedItem, item_at, PlacedValue, plain_at, number_at, PlacedWith, exprs_of, items_of, query_of}

-- a name and its place
pub record Named : Type 0 where
  pub place : ℕ
  pub name : List ℕ

-- a whole expression: its tree, the level at which it may stand, its depth
pub record Part : Type 0 where
  pub tree : PlacedExpr
  pub level : ℕ
  pub depth : ℕ

-- the SELECTs of a query so far, and how deep the deepest is, 0 where there is none
pub record Selects : Type 0 where
  pub selects : List PlacedSelect
  pub depth : ℕ

-- the order keys of a numbering so far, and how deep the deepest is
pub record Keys : Type 0 where
  pub keys : List PlacedExpr
  pub depth : ℕ

-- a SELECT that was begun: those before it in its query, its place, its items so far and how deep they are
pub record Begun : Type 0 where
  pub before : Selects
  pub place : ℕ
  pub items : List PlacedItem
  pub depth : ℕ

-- a scalar query that was begun: its place, the expression that it sums, if it counts nothing, and how deep that is
pub record Scalar : Type 0 where
  pub place : ℕ
  pub summed : Option PlacedExpr
  pub depth : ℕ

-- what sources and a condition belong to
pub data Ranged : Type 0 where
  OfSelect : Begun → Ranged
  OfScalar : Scalar → Ranged

-- what stands before AS in an item, and how deep it is
pub record Value : Type 0 where
  pub value : PlacedValue
  pub depth : ℕ

-- the WITH queries so far, how deep they are, and the name of the one that is being read, if one is
pub record Base : Type 0 where
  pub withs : List PlacedWith
  pub depth : ℕ
  pub name : Option Named

abbrev pub named : ℕ → List ℕ → Named
named p n = record { place = p; name = n }

-- expressions of their parts
abbrev pub leaf : PlacedExpr → Part
leaf e = record { tree = e; level = 8; depth = 1 }

abbrev pub constant : ℕ → Constant → Part
constant p c = leaf (constant_at p c)

abbrev pub column : Named → List ℕ → Part
column alias name = leaf (column_at alias.place alias.name name)

abbrev pub in_parens : Part → Part
in_parens s = record { tree = s.tree; level = 8; depth = suc s.depth }

abbrev pub minus : ℕ → Part → Part
minus p s = record { tree = unary_at p unary.Minus s.tree; level = 7; depth = suc s.depth }

abbrev pub negation : ℕ → Part → Part
negation p s = record { tree = unary_at p unary.Not s.tree; level = 3; depth = suc s.depth }

abbrev pub not_exists : ℕ → Selects → Part
not_exists p q = record { tree = not_exists_at p (query_of q.selects); level = 3; depth = suc (suc q.depth) }

abbrev pub choice : ℕ → Part → Part → Part → Part
choice p t y n = record { tree = choose_at p t.tree y.tree n.tree; level = 8; depth = suc (max t.depth (max y.depth n.depth)) }

abbrev pub binary : Part → ℕ → Binary → Part → Part
binary l p op r = record { tree = binary_at p op l.tree r.tree; level = level op; depth = suc (max l.depth r.depth) }

-- a scalar query that counts, and one that sums an expression
abbrev pub counting : ℕ → Scalar
counting p = record { place = p; summed = None; depth = 0 }

abbrev pub summing : ℕ → Part → Scalar
summing p s = record { place = p; summed = Some s.tree; depth = s.depth }

abbrev pub scalar_tree : ℕ → Option PlacedExpr → List Source → PlacedKeep → PlacedExpr
scalar_tree p None from keep = total_at p HowMany from keep (int_at p (pos 1))
scalar_tree p (Some e) from keep = total_at p SumOf from keep e

-- the scalar query is whole, with these sources and what it keeps, which is so deep
abbrev pub scalar : Scalar → List Source → PlacedKeep → ℕ → Part
scalar s from keep n = record { tree = scalar_tree s.place s.summed from keep; level = 8; depth = suc (max s.depth n) }

-- lists with one more
abbrev pub no_selects : Selects
no_selects = record { selects = []; depth = 0 }

abbrev pub no_keys : Keys
no_keys = record { keys = []; depth = 0 }

abbrev pub begun : Selects → ℕ → Begun
begun q p = record { before = q; place = p; items = []; depth = 0 }

abbrev pub add_item : Begun → Value → Named → Begun
add_item g v n = record { before = g.before; place = g.place; items = g.items ++ item_at n.place n.name v.value ∷ []; depth = max g.depth v.depth }

abbrev pub add_source : List Source → Named → List ℕ → List Source
add_source from table alias = from ++ record { table = table.name; alias = alias; place = table.place } ∷ []

-- the SELECT is whole, with these sources and what it keeps, which is so deep
abbrev pub add_select : Begun → List Source → PlacedKeep → ℕ → Selects
add_select g from keep n = record {
  selects = g.before.selects ++ select_at g.place (items_of g.items) from keep ∷ [];
  depth = max g.before.depth (suc (max g.depth n));
}

abbrev pub add_key : Keys → Part → Keys
add_key ks s = record { keys = ks.keys ++ s.tree ∷ []; depth = max ks.depth s.depth }

abbrev pub add_with : Base → Named → Selects → Base
add_with b n q = record {
  withs = b.withs ++ record { name = n.name; place = n.place; query = query_of q.selects } ∷ [];
  depth = max b.depth (suc q.depth);
  name = None;
}

abbrev pub plain : Part → Value
plain s = record { value = plain_at s.tree; depth = s.depth }

abbrev pub numbering : Keys → Value
numbering ks = record { value = number_at (exprs_of ks.keys); depth = ks.depth }
