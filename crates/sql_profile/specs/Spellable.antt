-- Trees that texts can spell: no query and no SELECT is empty, names have 1 to 128 bytes without a double quote, and
-- numbers are 0 to 2^63 - 1.
use Rattle.std.specs.Prelude.{◌≡◌, ℕ, ◌<◌, ◌^◌, pos}
use Rattle.std.specs.List.{AllByRecursion as Each}
use Rattle.nq_model.specs.Totals.{HowMany, SumOf}
use Rattle.sql_profile.specs.Trees.{SourceTree, ExprTree, int, bool, text, column, unary, binary, choose, not_exists, total, ExprTrees, no_expr, then_expr, QueryTree, no_select, then_select, SelectTree, select, KeepTree, keep_all, keep_if, ItemTrees, no_item, then_item, ValueTree, plain, number, WithTree, SqlTree}
use Rattle.sql_profile.specs.WritableNames.{IsWritableName}

abbrev pub HasWritableNames : SourceTree → Type 0
HasWritableNames s = IsWritableName s.table × IsWritableName s.alias

abbrev mutual
  pub IsSpellableExpr : ExprTree → Type 0
  IsSpellableExpr (int n) = (k : ℕ) × (n ≡ pos k) × (k < 2 ^ 63)
  IsSpellableExpr (bool b) = Unit {0}
  IsSpellableExpr (text t) = Unit {0}
  IsSpellableExpr (column a c) = IsWritableName a × IsWritableName c
  IsSpellableExpr (unary op e) = IsSpellableExpr e
  IsSpellableExpr (binary op l r) = IsSpellableExpr l × IsSpellableExpr r
  IsSpellableExpr (choose t y n) = IsSpellableExpr t × IsSpellableExpr y × IsSpellableExpr n
  IsSpellableExpr (not_exists q) = IsSpellableQuery q
  IsSpellableExpr (total HowMany from keep e) = Each HasWritableNames from × IsSpellableKeep keep × (e ≡ int (pos 1))
  IsSpellableExpr (total SumOf from keep e) = Each HasWritableNames from × IsSpellableKeep keep × IsSpellableExpr e

  pub IsSpellableQuery : QueryTree → Type 0
  IsSpellableQuery no_select = ⊥
  IsSpellableQuery (then_select s q) = IsSpellableSelect s × AreSpellableSelects q

  pub AreSpellableSelects : QueryTree → Type 0
  AreSpellableSelects no_select = Unit {0}
  AreSpellableSelects (then_select s q) = IsSpellableSelect s × AreSpellableSelects q

  pub IsSpellableSelect : SelectTree → Type 0
  IsSpellableSelect (select is from keep) = HasSpellableItems is × Each HasWritableNames from × IsSpellableKeep keep

  pub IsSpellableKeep : KeepTree → Type 0
  IsSpellableKeep keep_all = Unit {0}
  IsSpellableKeep (keep_if e) = IsSpellableExpr e

  pub HasSpellableItems : ItemTrees → Type 0
  HasSpellableItems no_item = ⊥
  HasSpellableItems (then_item n v is) = IsWritableName n × IsSpellableValue v × AreSpellableItems is

  pub AreSpellableItems : ItemTrees → Type 0
  AreSpellableItems no_item = Unit {0}
  AreSpellableItems (then_item n v is) = IsWritableName n × IsSpellableValue v × AreSpellableItems is

  pub IsSpellableValue : ValueTree → Type 0
  IsSpellableValue (plain e) = IsSpellableExpr e
  IsSpellableValue (number keys) = AreSpellableKeys keys

  pub AreSpellableKeys : ExprTrees → Type 0
  AreSpellableKeys no_expr = Unit {0}
  AreSpellableKeys (then_expr e es) = IsSpellableExpr e × AreSpellableKeys es

abbrev pub IsSpellableWith : WithTree → Type 0
IsSpellableWith w = IsWritableName w.name × IsSpellableQuery w.query

-- a text can spell the tree
abbrev pub IsSpellable : SqlTree → Type 0
IsSpellable t = Each IsSpellableWith t.withs × IsSpellableQuery t.main
