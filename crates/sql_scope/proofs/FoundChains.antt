-- What is found in a chain is found in its first part or in its links.
use Rattle.std.proofs.Common.{◌≡◌, ℕ, List, [], ◌∷◌, map, refl, sym, ap, ◌∙◌}
use Rattle.std.proofs.Common.{Box, Global}
use Rattle.nq_model.specs.Operators.{binary_type}
use Rattle.nq_model.specs.declared.table.ColumnType.{ColumnType}
use Rattle.nq_model.specs.declared.term.Binary.{Binary}
use Rattle.sql_profile.specs.declared.tree.Expr.{Expr}
use Rattle.sql_profile.specs.declared.tree.ExprNode.TheVariants as node
use Rattle.sql_profile.specs.declared.tree.Link.{Link}
use Rattle.sql_profile.specs.Scope.{Aliases, Broken, Fine, Shapes, Verdict, and_then, judge_expr}
use Rattle.sql_profile.specs.Scope.{or_broken}
use Rattle.sql_profile.specs.Trees.{PlacedExpr, PlacedLink, binary_at, chain_at, placed_expr}
use Rattle.sql_profile.specs.Trees.{placed_link}
use Rattle.sql_scope.specs.Found.{behind, expr_found, nothing}
use Rattle.sql_scope.specs.Parts.{links_found}
use Rattle.sql_scope.specs.declared.found.Found.{Found}
use Rattle.sql_scope.specs.declared.found.Found.TheVariants as there
use Rattle.sql_scope.proofs.Chains.{placed_so}

-- behind an operation stands what is behind both operands and then the operator
behind_operation : (v w : Verdict ColumnType) (f g : Found)
    (r : ColumnType → ColumnType → Verdict ColumnType) (more : ColumnType → Found)
    → behind (and_then v (λ i. and_then w (λ j. r i j)))
    (behind v f (λ i. behind w g (λ j. there.Types (i ∷ j ∷ [])))) more
    ≡ behind v f (λ i. behind w g (λ j. behind (r i j) (there.Types (i ∷ j ∷ [])) more))
behind_operation (Fine i) (Fine j) f g r more = refl
behind_operation (Fine i) (Broken rule place) f g r more = refl
behind_operation (Broken rule place) w f g r more = refl

module _ (ts : Shapes) (env : Aliases) where
  chain_found : (op : Binary) (first : PlacedExpr) (links : List PlacedLink)
      → behind (judge_expr ts env (chain_at op first links))
      (expr_found ts env (chain_at op first links)) (λ k. nothing)
      ≡ behind (judge_expr ts env first) (expr_found ts env first)
      (λ k. links_found ts env op k links)
  chain_found op first [] = refl
  chain_found op first (link ∷ more) =
      chain_found op (binary_at link.place op first link.right) more
      ∙ behind_operation (judge_expr ts env first) (judge_expr ts env link.right)
      (expr_found ts env first) (expr_found ts env link.right)
      (λ i j. or_broken 5 link.place (binary_type op i j)) (λ k. links_found ts env op k more)

  -- where judging a chain stops
  pub chain_inside : (e : Expr) (op : Binary) (first : Box Expr Global) (more : List Link)
      → e.node ≡ node.Chain op first more → (rule place : ℕ)
      → judge_expr ts env (placed_expr e) ≡ Broken rule place
      → expr_found ts env (placed_expr e)
      ≡ behind (judge_expr ts env (placed_expr first.value))
      (expr_found ts env (placed_expr first.value))
      (λ k. links_found ts env op k (map placed_link more))
  chain_inside e op first more is rule place broken =
      sym (ap (λ v. behind v (expr_found ts env (placed_expr e)) (λ k. nothing)) broken)
      ∙ ap (λ p. behind (judge_expr ts env p) (expr_found ts env p) (λ k. nothing))
      (placed_so e op first more is)
      ∙ chain_found op (placed_expr first.value) (map placed_link more)

  -- behind a first part of this type
  pub chain_linked : (e : Expr) (op : Binary) (first : Box Expr Global) (more : List Link)
      → e.node ≡ node.Chain op first more → (rule place : ℕ)
      → judge_expr ts env (placed_expr e) ≡ Broken rule place → (k : ColumnType)
      → judge_expr ts env (placed_expr first.value) ≡ Fine k
      → links_found ts env op k (map placed_link more) ≡ expr_found ts env (placed_expr e)
  chain_linked e op first more is rule place broken k fine =
      sym (chain_inside e op first more is rule place broken
      ∙ ap (λ v. behind v (expr_found ts env (placed_expr first.value))
      (λ k. links_found ts env op k (map placed_link more))) fine)
