-- Base terms, conditions and generators as parts of SQL trees.
--
-- `outer` tells which generators stand outside: a column of those is one of the WITH query.
use Rattle.nq_model.specs.Totals.{HowMany, SumOf}
use Rattle.std.specs.Prelude.{ℕ, pos, Bool, true, cond, List, [], ◌∷◌, map}
use Rattle.nq_model.specs.NamedRows.{Label}
use Rattle.nq_model.specs.declared.table.Cell.{Cell}
use Rattle.nq_model.specs.declared.table.Cell.TheVariants as cell
use Rattle.nq_model.specs.declared.term.Binary.TheVariants.{And}
use Rattle.nq_ir.specs.declared.base.Gen.{Gen}
use Rattle.nq_ir.specs.Trees.{BaseTree, literal, column, unary, binary, choose, empty, Conds, no_cond, and_cond, Tests, no_test, test, total}
use Rattle.sql_profile.specs.Trees.{SourceTree, ExprTree, ExprTrees, no_expr, then_expr, QueryTree, no_select, then_select, select, KeepTree, keep_all, keep_if, ItemTrees, no_item, then_item, plain}
use Rattle.flatten.specs.Names.{alias, let_alias, outer_column, one_name}

abbrev pub literal_expr : Cell → ExprTree
literal_expr (cell.Int n) = ExprTree.int n
literal_expr (cell.Bool b) = ExprTree.bool b
literal_expr (cell.Text t) = ExprTree.text t

-- a column of a generator
abbrev pub column_expr : (ℕ → Bool) → ℕ → Label → ExprTree
column_expr outer g l = cond (outer g) (ExprTree.column let_alias (outer_column g l)) (ExprTree.column (alias g) l)

abbrev pub source_of : Gen → SourceTree
source_of g = record { table = g.table; alias = alias g.number }

-- 1 AS "one"
abbrev pub one_item : ItemTrees
one_item = then_item one_name (plain (ExprTree.int (pos 1))) no_item

-- an emptiness test is NOT EXISTS over its comprehensions; a test of none is TRUE
abbrev mutual
  pub base_expr : (ℕ → Bool) → BaseTree → ExprTree
  base_expr outer (literal c) = literal_expr c
  base_expr outer (column g l) = column_expr outer g l
  base_expr outer (unary op b) = ExprTree.unary op (base_expr outer b)
  base_expr outer (binary op a b) = ExprTree.binary op (base_expr outer a) (base_expr outer b)
  base_expr outer (choose x a b) = ExprTree.choose (base_expr outer x) (base_expr outer a) (base_expr outer b)
  base_expr outer (empty no_test) = ExprTree.bool true
  base_expr outer (empty (test gens conds xs)) =
      ExprTree.not_exists (then_select (select one_item (map source_of gens) (conds_keep outer conds)) (tests_query outer xs))
  -- a count is COUNT(*), and a sum is of its value, over the sources and conditions of its comprehension
  base_expr outer (total HowMany gens conds b) = ExprTree.total HowMany (map source_of gens) (conds_keep outer conds) (ExprTree.int (pos 1))
  base_expr outer (total SumOf gens conds b) = ExprTree.total SumOf (map source_of gens) (conds_keep outer conds) (base_expr outer b)

  -- WHERE the conditions hold
  pub conds_keep : (ℕ → Bool) → Conds → KeepTree
  conds_keep outer no_cond = keep_all
  conds_keep outer (and_cond b bs) = keep_if (joined outer (base_expr outer b) bs)

  -- conditions joined to an expression, from the left
  pub joined : (ℕ → Bool) → ExprTree → Conds → ExprTree
  joined outer e no_cond = e
  joined outer e (and_cond b bs) = joined outer (ExprTree.binary And e (base_expr outer b)) bs

  pub tests_query : (ℕ → Bool) → Tests → QueryTree
  tests_query outer no_test = no_select
  tests_query outer (test gens conds xs) = then_select (select one_item (map source_of gens) (conds_keep outer conds)) (tests_query outer xs)

-- columns of generators as order keys
abbrev pub order_keys : (ℕ → Bool) → List (ℕ × Label) → ExprTrees
order_keys outer [] = no_expr
order_keys outer (p ∷ ps) = then_expr (column_expr outer p.0 p.1) (order_keys outer ps)
