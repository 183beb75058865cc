-- What a step of the walk answers, beside its verdict; and what the program's values stand for.
use Rattle.std.specs.Prelude.{◌≡◌, ℕ, ⊤, cond, List, [], ◌∷◌, ◌++◌, map, Option, Some, None, is_some, Result, Ok, Err}
use Rattle.std.specs.Borrow.{Bor}
use Rattle.std.specs.Option.{option_map}
use Rattle.nq_model.specs.Tables.{Columns, types_of}
use Rattle.nq_model.specs.Operators.{binary_type}
use Rattle.nq_model.specs.declared.table.ColumnType.{ColumnType}
use Rattle.nq_model.specs.declared.table.ColumnType.TheVariants.{Int}
use Rattle.nq_model.specs.declared.term.Binary.{Binary}
use Rattle.sql_profile.specs.declared.tree.Expr.{Expr}
use Rattle.sql_profile.specs.declared.tree.Item.{Item}
use Rattle.sql_profile.specs.declared.tree.Source.{Source}
use Rattle.sql_profile.specs.Scope.{Aliases, Broken, Fine, Shapes, Verdict, and_then, expr_place, found, judge_expr, judge_items, judge_keep, judge_sources, or_broken, same_types, unless, wants}
use Rattle.sql_profile.specs.Trees.{PlacedExpr, PlacedExprs, PlacedItems, PlacedKeep, PlacedLink, PlacedPicked, PlacedSelect, select_at, exprs_of, items_of, keep_of, placed_expr, placed_item}
use Rattle.sql_scope.specs.declared.fault.ScopeFault.{ScopeFault}
use Rattle.sql_scope.specs.declared.fault.ScopeFault.TheVariants as fault
use Rattle.sql_scope.specs.declared.aliases.Scope.{Scope}
use Rattle.sql_scope.specs.declared.aliases.Scope.TheFolds.{fold-Scope}
use Rattle.sql_scope.specs.declared.aliases.Scope.TheOpen.{Scope-F}

-- the fault of a step, where it is not want of memory, is that of the verdict
abbrev pub Faults : {A : Type 0} → Verdict A → ScopeFault → Type 0
Faults v fault.Memory = ⊤
Faults v (fault.Broken rule place) = v ≡ Broken rule place

-- the step answers the verdict, but for want of memory
abbrev pub Gives : {A : Type 0} → Result A ScopeFault → Verdict A → Type 0
Gives (Ok x) v = v ≡ Fine x
Gives (Err e) v = Faults v e

-- the aliases of a FROM
abbrev pub bounds : List (List ℕ × Bor Columns) → Aliases
bounds own = map (λ x. (x.0, x.1.now)) own

abbrev pub scope_layer : Scope-F Aliases → Aliases
scope_layer Scope-F.Outermost = []
scope_layer (Scope-F.Inner own around) = bounds own.now ++ around.now

-- the aliases that are seen, the innermost first
abbrev pub aliases_in : Scope → Aliases
aliases_in = fold-Scope Aliases scope_layer

abbrev pub placed_keep : Option Expr → PlacedKeep
placed_keep keep = keep_of (option_map placed_expr keep)

abbrev pub placed_items : List Item → PlacedItems
placed_items items = items_of (map placed_item items)

abbrev pub placed_keys : List Expr → PlacedExprs
placed_keys keys = exprs_of (map placed_expr keys)

-- a source by rule 1 and then by rule 2
abbrev pub judge_source : Shapes → Aliases → Source → Verdict (List ℕ × Columns)
judge_source ts earlier s =
    and_then (or_broken 1 s.place (found s.table ts)) (λ columns. unless (is_some (found s.alias earlier)) 2 s.place (Fine (s.alias, columns)))

-- the columns of the first SELECT, as which this one has to be typed
abbrev pub alike : Option Columns → Columns → ℕ → Verdict Columns
alike None columns place = Fine columns
alike (Some first) columns place = cond (same_types (types_of columns) (types_of first)) (Fine first) (Broken 8 place)

-- a SELECT where the aliases of its FROM are seen: WHERE, then the items
abbrev pub judge_parts : Shapes → Aliases → PlacedSelect → Verdict Columns
judge_parts ts env (select_at p is from keep) = and_then (judge_keep ts env keep) (λ k. judge_items ts env [] is)

-- the items of a SELECT where the aliases of its FROM are seen
abbrev pub judge_columns : Shapes → Aliases → PlacedSelect → Verdict Columns
judge_columns ts env (select_at p is from keep) = judge_items ts env [] is

-- the aliases of a scalar query: its sources, then WHERE where these are seen
abbrev pub judge_picked : Shapes → Aliases → PlacedPicked → Verdict Aliases
judge_picked ts env over = and_then (judge_sources ts [] over.from) (λ own. and_then (judge_keep ts (own ++ env) over.keep) (λ k. Fine own))

-- the value of a scalar query where its aliases are seen
abbrev pub judge_summed : Shapes → Aliases → PlacedExpr → Verdict ColumnType
judge_summed ts env e = and_then (judge_expr ts env e) (λ i. wants Int i 10 (expr_place e))

-- the links of a chain, behind parts of this type
abbrev pub judge_links : Shapes → Aliases → Binary → ColumnType → List PlacedLink → Verdict ColumnType
judge_links ts env op k [] = Fine k
judge_links ts env op k (link ∷ more) =
    and_then (judge_expr ts env link.right) (λ j. and_then (or_broken 5 link.place (binary_type op k j)) (λ i. judge_links ts env op i more))
