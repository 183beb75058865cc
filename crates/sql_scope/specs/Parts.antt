-- What a step of the search answers; and what is found in steps for which the definition of what is
-- found has no word.
use Rattle.std.specs.Prelude.{◌≡◌, ℕ, List, [], ◌∷◌, ◌++◌, map}
use Rattle.nq_model.specs.Tables.{Columns}
use Rattle.nq_model.specs.Operators.{binary_type}
use Rattle.nq_model.specs.declared.table.ColumnType.{ColumnType}
use Rattle.nq_model.specs.declared.term.Binary.{Binary}
use Rattle.sql_profile.specs.declared.tree.Select.{Select}
use Rattle.sql_profile.specs.Scope.{Aliases, Broken, Fine, Shapes, Verdict, judge_expr, judge_keep}
use Rattle.sql_profile.specs.Scope.{judge_sources, or_broken}
use Rattle.sql_profile.specs.Trees.{PlacedExpr, PlacedLink, PlacedPicked, PlacedSelect, query_of}
use Rattle.sql_profile.specs.Trees.{placed_select, select_at}
use Rattle.sql_scope.specs.Found.{behind, expr_found, items_found, keep_found, nothing}
use Rattle.sql_scope.specs.Found.{others_found}
use Rattle.sql_scope.specs.declared.found.Found.{Found}
use Rattle.sql_scope.specs.declared.found.Found.TheVariants as there
use Rattle.sql_scope.specs.declared.found.Part.{Part}
use Rattle.sql_scope.specs.declared.found.Part.TheVariants.{Typed, Stopped}

-- the part has the type, or judging it stops and this is found
abbrev pub IsPart : Verdict ColumnType → Found → Part → Type 0
IsPart v inside (Typed ty) = v ≡ Fine ty
IsPart v inside (Stopped f) = (more : ColumnType → Found) → f ≡ behind v inside more

-- this is found where judging stops
abbrev pub IsInside : Verdict ColumnType → Found → Found → Type 0
IsInside v inside f = (rule place : ℕ) → v ≡ Broken rule place → f ≡ inside

-- behind parts of these types, at the last one that a rule asks for
abbrev pub last_found : Shapes → Aliases → List ColumnType → PlacedExpr → Found
last_found ts env types e =
    behind (judge_expr ts env e) (expr_found ts env e) (λ i. there.Types (types ++ i ∷ []))

-- at the links of a chain, behind parts of this type
abbrev pub links_found : Shapes → Aliases → Binary → ColumnType → List PlacedLink → Found
links_found ts env op k [] = nothing
links_found ts env op k (link ∷ more) =
    behind (judge_expr ts env link.right) (expr_found ts env link.right)
    (λ j. behind (or_broken 5 link.place (binary_type op k j)) (there.Types (k ∷ j ∷ []))
    (λ i. links_found ts env op i more))

-- in the sources and the condition of a scalar query
abbrev pub picked_found : Shapes → Aliases → PlacedPicked → Found
picked_found ts env over =
    behind (judge_sources ts [] over.from) nothing (λ own. keep_found ts (own ++ env) over.keep)

-- in a SELECT where the aliases of its FROM are seen
abbrev pub parts_found : Shapes → Aliases → PlacedSelect → Found
parts_found ts env (select_at p is from keep) =
    behind (judge_keep ts env keep) (keep_found ts env keep) (λ k. items_found ts env [] is)

-- in the items of a SELECT where the aliases of its FROM are seen
abbrev pub columns_found : Shapes → Aliases → PlacedSelect → Found
columns_found ts env (select_at p is from keep) = items_found ts env [] is

-- in the further SELECTs of a query, behind a first one of these columns
abbrev pub further_found : Shapes → Aliases → Columns → List Select → Found
further_found ts env first ss = others_found ts env first (query_of (map placed_select ss))
