-- What is found in a SELECT or a scalar query is found behind its sources.
use Rattle.std.proofs.Common.{◌≡◌, ℕ, [], ◌∷◌, ◌++◌, refl, sym, ap, ◌∙◌}
use Rattle.std.proofs.Common.{Bor, Box, Global}
use Rattle.nq_model.specs.declared.table.ColumnType.TheVariants.{Int}
use Rattle.sql_profile.specs.declared.tree.Expr.{Expr}
use Rattle.sql_profile.specs.declared.tree.ExprNode.TheVariants as node
use Rattle.sql_profile.specs.declared.tree.Picked.{Picked}
use Rattle.sql_profile.specs.declared.tree.Select.{Select, out-Select}
use Rattle.sql_profile.specs.Scope.{Aliases, Broken, Fine, Shapes, Verdict, and_then}
use Rattle.sql_profile.specs.Scope.{judge_expr, judge_keep, judge_sources}
use Rattle.sql_profile.specs.Trees.{placed_expr, placed_node, placed_picked, placed_select}
use Rattle.sql_profile.proofs.Trees.{expr_placed, node_count, node_sum, select_placed}
use Rattle.sql_scope.specs.Found.{behind, expr_found, keep_found, nothing, select_found}
use Rattle.sql_scope.specs.Parts.{last_found, parts_found, picked_found}
use Rattle.sql_scope.specs.Steps.{aliases_in, bounds, judge_picked}
use Rattle.sql_scope.specs.declared.aliases.Scope.{Scope}
use Rattle.sql_scope.specs.declared.aliases.Scope.TheVariants.{Inner}
use Rattle.sql_scope.specs.declared.found.Found.{Found}
use Rattle.sql_scope.specs.declared.found.Found.TheVariants as there
use Rattle.sql_scope.proofs.Scopes.{Sources, aliases_inner}
use Rattle.sql_scope.proofs.Selects.{count_judged}

-- a SELECT, behind sources that are fine
module _ (ts : Shapes) (s : Select) where
  select_behind : (env : Aliases) → select_found ts env (placed_select s)
      ≡ behind (judge_sources ts [] (out-Select s).from) nothing
      (λ own. parts_found ts (own ++ env) (placed_select s))
  select_behind env =
      ap (select_found ts env) (select_placed s)
      ∙ ap (λ p. behind (judge_sources ts [] (out-Select s).from) nothing
      (λ own. parts_found ts (own ++ env) p)) (sym (select_placed s))

  pub select_sourced : (own : Bor Sources) (around : Bor Scope)
      → judge_sources ts [] (out-Select s).from ≡ Fine (bounds own.now)
      → select_found ts (aliases_in around.now) (placed_select s)
      ≡ parts_found ts (aliases_in (Inner own around)) (placed_select s)
  select_sourced own around fine =
      select_behind (aliases_in around.now)
      ∙ ap (λ v. behind v nothing
      (λ sources. parts_found ts (sources ++ aliases_in around.now) (placed_select s))) fine
      ∙ ap (λ env. parts_found ts env (placed_select s)) (sym (aliases_inner own around))

-- what is behind a condition is behind the scalar query whose condition it is
behind_keep : {A B : Type 0} (own : A) (w : Verdict B) (f : Found) (g : A → Found)
    → behind w f (λ k. g own) ≡ behind (and_then w (λ k. Fine own)) f g
behind_keep own (Fine k) f g = refl
behind_keep own (Broken rule place) f g = refl

behind_picked : {A B : Type 0} (v : Verdict A) (w : A → Verdict B) (f g : A → Found)
    → behind v nothing (λ own. behind (w own) (f own) (λ k. g own))
    ≡ behind (and_then v (λ own. and_then (w own) (λ k. Fine own))) (behind v nothing f) g
behind_picked (Fine own) w f g = behind_keep own (w own) (f own) g
behind_picked (Broken rule place) w f g = refl

module _ (ts : Shapes) (env : Aliases) (e : Expr) (over : Box Picked Global) where
  -- the sum of a value
  module _ (value : Box Expr Global) (is : e.node ≡ node.Sum over value) where
    sum_behind : expr_found ts env (placed_expr e)
        ≡ behind (judge_picked ts env (placed_picked over.value))
        (picked_found ts env (placed_picked over.value))
        (λ own. last_found ts (own ++ env) [] (placed_expr value.value))
    sum_behind =
        ap (expr_found ts env)
        (expr_placed e ∙ ap (λ n. placed_node n e.place) is ∙ node_sum over value e.place)
        ∙ behind_picked (judge_sources ts [] (placed_picked over.value).from)
        (λ own. judge_keep ts (own ++ env) (placed_picked over.value).keep)
        (λ own. keep_found ts (own ++ env) (placed_picked over.value).keep)
        (λ own. last_found ts (own ++ env) [] (placed_expr value.value))

    pub sum_unpicked : (rule place : ℕ)
        → judge_picked ts env (placed_picked over.value) ≡ Broken rule place
        → expr_found ts env (placed_expr e) ≡ picked_found ts env (placed_picked over.value)
    sum_unpicked rule place broken =
        sum_behind ∙ ap (λ v. behind v (picked_found ts env (placed_picked over.value))
        (λ own. last_found ts (own ++ env) [] (placed_expr value.value))) broken

  -- a count breaks no rule of its own
  count_broken : (v : Verdict Aliases) (f : Found) (g : Aliases → Found) (rule place : ℕ)
      → and_then v (λ own. Fine Int) ≡ Broken rule place → behind v f g ≡ f
  count_broken (Fine own) f g rule place h = absurd (cc)
  count_broken (Broken r p) f g rule place h = refl

  pub count_inside : e.node ≡ node.Count over → (rule place : ℕ)
      → judge_expr ts env (placed_expr e) ≡ Broken rule place
      → expr_found ts env (placed_expr e) ≡ picked_found ts env (placed_picked over.value)
  count_inside is rule place broken =
      ap (expr_found ts env)
      (expr_placed e ∙ ap (λ n. placed_node n e.place) is ∙ node_count over e.place)
      ∙ behind_picked (judge_sources ts [] (placed_picked over.value).from)
      (λ own. judge_keep ts (own ++ env) (placed_picked over.value).keep)
      (λ own. keep_found ts (own ++ env) (placed_picked over.value).keep)
      (λ own. there.Types (Int ∷ []))
      ∙ count_broken (judge_picked ts env (placed_picked over.value))
      (picked_found ts env (placed_picked over.value)) (λ own. there.Types (Int ∷ []))
      rule place (sym (count_judged ts env e over over.value refl is) ∙ broken)

pub sum_sourced : (ts : Shapes) (e : Expr) (over : Box Picked Global) (value : Box Expr Global)
    (own : Bor Sources) (around : Bor Scope) → e.node ≡ node.Sum over value
    → judge_picked ts (aliases_in around.now) (placed_picked over.value)
    ≡ Fine (bounds own.now)
    → expr_found ts (aliases_in around.now) (placed_expr e)
    ≡ last_found ts (aliases_in (Inner own around)) [] (placed_expr value.value)
sum_sourced ts e over value own around is fine =
    sum_behind ts (aliases_in around.now) e over value is
    ∙ ap (λ v. behind v (picked_found ts (aliases_in around.now) (placed_picked over.value))
    (λ sources. last_found ts (sources ++ aliases_in around.now) []
    (placed_expr value.value))) fine
    ∙ ap (λ env. last_found ts env [] (placed_expr value.value))
    (sym (aliases_inner own around))
