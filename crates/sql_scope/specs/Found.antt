-- What is found where judging a text stops: the types of the parts of the first expression that
-- breaks a rule, in the order of the text, as far as the rule asks for them; of a column that its
-- source has not, the columns of the source; of a SELECT that differs from the first, the types of
-- both.
use Rattle.std.specs.Prelude.{ℕ, cond, List, [], ◌∷◌, ◌++◌, Option, Some, None}
use Rattle.nq_model.specs.Tables.{Columns, types_of}
use Rattle.nq_model.specs.declared.table.ColumnType.{ColumnType}
use Rattle.sql_profile.specs.Scope.{Aliases, Broken, Fine, Shapes, Verdict, among, found}
use Rattle.sql_profile.specs.Scope.{judge_expr, judge_keep, judge_query, judge_select}
use Rattle.sql_profile.specs.Scope.{judge_sources, judge_value, names_in, same_types}
use Rattle.sql_profile.specs.Trees.{PlacedExpr, int_at, bool_at, text_at, column_at, unary_at}
use Rattle.sql_profile.specs.Trees.{binary_at, choose_at, not_exists_at, total_at}
use Rattle.sql_profile.specs.Trees.{PlacedExprs, none_at, then_at, PlacedQuery, no_select_at}
use Rattle.sql_profile.specs.Trees.{then_select_at, PlacedSelect, select_at, PlacedKeep}
use Rattle.sql_profile.specs.Trees.{keep_all_at, keep_if_at, PlacedItems, no_item_at, then_item_at}
use Rattle.sql_profile.specs.Trees.{item_at, PlacedValue, plain_at, number_at, PlacedWith}
use Rattle.sql_profile.specs.Trees.{PlacedSql}
use Rattle.sql_scope.specs.declared.found.Found.{Found}
use Rattle.sql_scope.specs.declared.found.Found.TheVariants as there

-- nothing that a rule asks for
abbrev pub nothing : Found
nothing = there.Types []

-- what is found behind a part that is fine, or else inside it
abbrev pub behind : {A : Type 0} → Verdict A → Found → (A → Found) → Found
behind (Fine a) inside more = more a
behind (Broken rule place) inside more = inside

-- the type of a part, or else what is found inside it
abbrev pub behind_one : Verdict ColumnType → Found → Found
behind_one v inside = behind v inside (λ i. there.Types (i ∷ []))

-- the columns of a column's source, if there is one
abbrev pub source_found : Option Columns → Found
source_found None = nothing
source_found (Some columns) = there.Columns columns

abbrev mutual
  pub expr_found : Shapes → Aliases → PlacedExpr → Found
  expr_found ts env (int_at p n) = nothing
  expr_found ts env (bool_at p b) = nothing
  expr_found ts env (text_at p t) = nothing
  expr_found ts env (column_at p a c) = source_found (found a env)
  expr_found ts env (unary_at p op e) = behind_one (judge_expr ts env e) (expr_found ts env e)
  expr_found ts env (binary_at p op l r) =
      behind (judge_expr ts env l) (expr_found ts env l)
      (λ i. behind (judge_expr ts env r) (expr_found ts env r)
      (λ j. there.Types (i ∷ j ∷ [])))
  expr_found ts env (choose_at p t y n) =
      behind (judge_expr ts env t) (expr_found ts env t)
      (λ i. behind (judge_expr ts env y) (expr_found ts env y)
      (λ j. behind (judge_expr ts env n) (expr_found ts env n)
      (λ k. there.Types (i ∷ j ∷ k ∷ []))))
  expr_found ts env (not_exists_at p q) = query_found ts env q
  expr_found ts env (total_at p g from keep e) =
      behind (judge_sources ts [] from) nothing
      (λ own. behind (judge_keep ts (own ++ env) keep) (keep_found ts (own ++ env) keep)
      (λ k. behind_one (judge_expr ts (own ++ env) e) (expr_found ts (own ++ env) e)))

  pub query_found : Shapes → Aliases → PlacedQuery → Found
  query_found ts env no_select_at = nothing
  query_found ts env (then_select_at s q) =
      behind (judge_select ts env s) (select_found ts env s)
      (λ columns. others_found ts env columns q)

  -- among the further SELECTs, behind a first one of these columns
  pub others_found : Shapes → Aliases → Columns → PlacedQuery → Found
  others_found ts env first no_select_at = nothing
  others_found ts env first (then_select_at s q) =
      behind (judge_select ts env s) (select_found ts env s)
      (λ columns. cond (same_types (types_of columns) (types_of first))
      (others_found ts env first q) (there.Rows (types_of first) (types_of columns)))

  pub select_found : Shapes → Aliases → PlacedSelect → Found
  select_found ts env (select_at p is from keep) =
      behind (judge_sources ts [] from) nothing
      (λ own. behind (judge_keep ts (own ++ env) keep) (keep_found ts (own ++ env) keep)
      (λ k. items_found ts (own ++ env) [] is))

  pub keep_found : Shapes → Aliases → PlacedKeep → Found
  keep_found ts env keep_all_at = nothing
  keep_found ts env (keep_if_at e) = behind_one (judge_expr ts env e) (expr_found ts env e)

  -- among items, behind those of these names
  pub items_found : Shapes → Aliases → List (List ℕ) → PlacedItems → Found
  items_found ts env seen no_item_at = nothing
  items_found ts env seen (then_item_at (item_at p n v) is) =
      behind (judge_value ts env v) (value_found ts env v)
      (λ k. cond (among n seen) nothing (items_found ts env (n ∷ seen) is))

  pub value_found : Shapes → Aliases → PlacedValue → Found
  value_found ts env (plain_at e) = expr_found ts env e
  value_found ts env (number_at keys) = keys_found ts env keys

  pub keys_found : Shapes → Aliases → PlacedExprs → Found
  keys_found ts env none_at = nothing
  keys_found ts env (then_at e es) =
      behind (judge_expr ts env e) (expr_found ts env e) (λ k. keys_found ts env es)

-- among the WITH queries, and then in the main query
abbrev pub withs_found : Shapes → List PlacedWith → PlacedQuery → Found
withs_found ts [] main = query_found ts [] main
withs_found ts (w ∷ ws) main =
    cond (among w.name (names_in ts)) nothing
    (behind (judge_query ts [] w.query) (query_found ts [] w.query)
    (λ columns. withs_found ((w.name, columns) ∷ ts) ws main))

-- where judging the text stops
abbrev pub text_found : Shapes → PlacedSql → Found
text_found ts tree = withs_found ts tree.withs tree.main
