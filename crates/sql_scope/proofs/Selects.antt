-- A SELECT or scalar query is judged by its sources, and then where their aliases are seen.
use Rattle.std.proofs.Common.{◌≡◌, ℕ, pos, [], ◌++◌, map, Result, Bor, Box, Global, refl, sym, ap, ◌∙◌, subst}
use Rattle.std.specs.Option.{option_map}
use Rattle.nq_model.specs.Tables.{Columns}
use Rattle.nq_model.specs.Totals.{Total, HowMany, SumOf}
use Rattle.nq_model.specs.declared.table.ColumnType.{ColumnType}
use Rattle.nq_model.specs.declared.table.ColumnType.TheVariants.{Int}
use Rattle.sql_profile.specs.declared.tree.Expr.{Expr}
use Rattle.sql_profile.specs.declared.tree.ExprNode.TheVariants as node
use Rattle.sql_profile.specs.declared.tree.Picked.{Picked, out-Picked}
use Rattle.sql_profile.specs.declared.tree.Select.{Select, out-Select}
use Rattle.sql_profile.specs.Scope.{Aliases, Broken, Fine, Shapes, Verdict, and_then, judge_expr, judge_keep, judge_select, judge_sources}
use Rattle.sql_profile.specs.Trees.{PlacedExpr, PlacedPicked, int_at, items_of, keep_of, placed_expr, placed_item, placed_node, placed_picked, placed_select, select_at, total_at}
use Rattle.sql_profile.proofs.Trees.{expr_placed, node_count, node_sum, picked_placed, select_placed}
use Rattle.sql_scope.specs.Steps.{Faults, Gives, aliases_in, bounds, judge_parts, judge_picked, judge_summed, placed_keep}
use Rattle.sql_scope.specs.declared.aliases.Scope.{Scope}
use Rattle.sql_scope.specs.declared.aliases.Scope.TheVariants.{Inner}
use Rattle.sql_scope.specs.declared.fault.ScopeFault.{ScopeFault}
use Rattle.sql_scope.proofs.Scopes.{Sources, aliases_inner}
use Rattle.sql_scope.proofs.Turns.{faults_on}

select_judged : (ts : Shapes) (env : Aliases) (s : Select) (own : Aliases) → judge_sources ts [] (out-Select s).from ≡ Fine own → judge_select ts env (placed_select s) ≡ judge_parts ts (own ++ env) (placed_select s)
select_judged ts env s own e =
    let t = select_at (out-Select s).place (items_of (map placed_item (out-Select s).items)) (out-Select s).from (keep_of (option_map placed_expr (out-Select s).keep)) in
    ap (judge_select ts env) (select_placed s) ∙ ap (λ v. and_then v (λ (own : Aliases). judge_parts ts (own ++ env) t)) e ∙ sym (ap (judge_parts ts (own ++ env)) (select_placed s))

pub select_gives : (ts : Shapes) (s : Select) (own : Bor Sources) (around : Bor Scope) (r : Result Columns ScopeFault) → Gives r (judge_parts ts (aliases_in (Inner own around)) (placed_select s))
    → judge_sources ts [] (out-Select s).from ≡ Fine (bounds own.now) → Gives r (judge_select ts (aliases_in around.now) (placed_select s))
select_gives ts s own around r h e =
    let env : aliases_in (Inner own around) ≡ bounds own.now ++ aliases_in around.now = aliases_inner own around in
    subst (λ (v : Verdict Columns). Gives r v) (ap (λ (a : Aliases). judge_parts ts a (placed_select s)) env ∙ sym (select_judged ts (aliases_in around.now) s (bounds own.now) e)) h

-- the aliases of a scalar query are judged first, then its value
parted_behind : {A B C : Type 0} (own : A) (x : Verdict B) (f : A → Verdict C) → and_then x (λ k. f own) ≡ and_then (and_then x (λ k. Fine own)) f
parted_behind own (Fine k) f = refl
parted_behind own (Broken rule place) f = refl

parted : {A B C : Type 0} (v : Verdict A) (w : A → Verdict B) (f : A → Verdict C) → and_then v (λ own. and_then (w own) (λ k. f own)) ≡ and_then (and_then v (λ own. and_then (w own) (λ k. Fine own))) f
parted (Fine own) w f = parted_behind own (w own) f
parted (Broken rule place) w f = refl

total_parted : (ts : Shapes) (env : Aliases) (place : ℕ) (g : Total) (over : PlacedPicked) (value : PlacedExpr)
    → judge_expr ts env (total_at place g over.from over.keep value) ≡ and_then (judge_picked ts env over) (λ own. judge_summed ts (own ++ env) value)
total_parted ts env place g over value =
    parted (judge_sources ts [] over.from) (λ own. judge_keep ts (own ++ env) over.keep) (λ own. judge_summed ts (own ++ env) value)

module _ (ts : Shapes) (env : Aliases) (e : Expr) (over : Box Picked Global) (k : Picked) (same : k ≡ over.value) where
  pub count_judged : e.node ≡ node.Count over → judge_expr ts env (placed_expr e) ≡ and_then (judge_picked ts env (placed_picked k)) (λ own. Fine Int)
  count_judged is =
      ap (judge_expr ts env) (expr_placed e ∙ ap (λ n. placed_node n e.place) is ∙ node_count over e.place)
      ∙ total_parted ts env e.place HowMany (placed_picked over.value) (int_at e.place (pos 1))
      ∙ ap (λ q. and_then (judge_picked ts env (placed_picked q)) (λ own. Fine Int)) (sym same)

  pub count_fine : (own : Aliases) → e.node ≡ node.Count over → judge_picked ts env (placed_picked k) ≡ Fine own → judge_expr ts env (placed_expr e) ≡ Fine Int
  count_fine own is fine = count_judged is ∙ ap (λ v. and_then v (λ (own : Aliases). Fine Int)) fine

  pub count_faulty : (fault : ScopeFault) → e.node ≡ node.Count over → Faults (judge_picked ts env (placed_picked k)) fault → Faults (judge_expr ts env (placed_expr e)) fault
  count_faulty fault is = faults_on (judge_picked ts env (placed_picked k)) (judge_expr ts env (placed_expr e)) fault (λ rule place broken.
      count_judged is ∙ ap (λ v. and_then v (λ (own : Aliases). Fine Int)) broken)

  module _ (value : Box Expr Global) (x : Expr) (alike : x ≡ value.value) where
    pub sum_judged : e.node ≡ node.Sum over value → judge_expr ts env (placed_expr e) ≡ and_then (judge_picked ts env (placed_picked k)) (λ own. judge_summed ts (own ++ env) (placed_expr x))
    sum_judged is =
        ap (judge_expr ts env) (expr_placed e ∙ ap (λ n. placed_node n e.place) is ∙ node_sum over value e.place)
        ∙ total_parted ts env e.place SumOf (placed_picked over.value) (placed_expr value.value)
        ∙ ap (λ q. and_then (judge_picked ts env (placed_picked q)) (λ own. judge_summed ts (own ++ env) (placed_expr value.value))) (sym same)
        ∙ ap (λ y. and_then (judge_picked ts env (placed_picked k)) (λ own. judge_summed ts (own ++ env) (placed_expr y))) (sym alike)

pub sum_faulty : (ts : Shapes) (env : Aliases) (e : Expr) (over : Box Picked Global) (value : Box Expr Global) (k : Picked) (fault : ScopeFault) → k ≡ over.value → e.node ≡ node.Sum over value
    → Faults (judge_picked ts env (placed_picked k)) fault → Faults (judge_expr ts env (placed_expr e)) fault
sum_faulty ts env e over value k fault same is = faults_on (judge_picked ts env (placed_picked k)) (judge_expr ts env (placed_expr e)) fault (λ rule place broken.
    sum_judged ts env e over k same value value.value refl is ∙ ap (λ v. and_then v (λ own. judge_summed ts (own ++ env) (placed_expr value.value))) broken)

pub sum_gives : (ts : Shapes) (e : Expr) (over : Box Picked Global) (value : Box Expr Global) (k : Picked) (x : Expr) (own : Bor Sources) (around : Bor Scope) (r : Result ColumnType ScopeFault) → k ≡ over.value → x ≡ value.value → e.node ≡ node.Sum over value
    → judge_picked ts (aliases_in around.now) (placed_picked k) ≡ Fine (bounds own.now) → Gives r (judge_summed ts (aliases_in (Inner own around)) (placed_expr x)) → Gives r (judge_expr ts (aliases_in around.now) (placed_expr e))
sum_gives ts e over value k x own around r same alike is fine =
    subst (λ (v : Verdict ColumnType). Gives r v)
    (ap (λ (a : Aliases). judge_summed ts a (placed_expr x)) (aliases_inner own around)
    ∙ sym (sum_judged ts (aliases_in around.now) e over k same value x alike is ∙ ap (λ v. and_then v (λ own. judge_summed ts (own ++ aliases_in around.now) (placed_expr x))) fine))

-- the sources of a scalar query, and then its condition
module _ (ts : Shapes) (k : Picked) (own : Bor Sources) (around : Bor Scope) where
  picked_judged : judge_sources ts [] (out-Picked k).from ≡ Fine (bounds own.now)
      → judge_picked ts (aliases_in around.now) (placed_picked k) ≡ and_then (judge_keep ts (aliases_in (Inner own around)) (placed_keep (out-Picked k).keep)) (λ b. Fine (bounds own.now))
  picked_judged sources =
      ap (judge_picked ts (aliases_in around.now)) (picked_placed k)
      ∙ ap (λ v. and_then v (λ (own : Aliases). and_then (judge_keep ts (own ++ aliases_in around.now) (placed_keep (out-Picked k).keep)) (λ b. Fine own))) sources
      ∙ ap (λ (a : Aliases). and_then (judge_keep ts a (placed_keep (out-Picked k).keep)) (λ b. Fine (bounds own.now))) (sym (aliases_inner own around))

  pub picked_fine : (b : ColumnType) → judge_sources ts [] (out-Picked k).from ≡ Fine (bounds own.now) → judge_keep ts (aliases_in (Inner own around)) (placed_keep (out-Picked k).keep) ≡ Fine b
      → judge_picked ts (aliases_in around.now) (placed_picked k) ≡ Fine (bounds own.now)
  picked_fine b sources keep = picked_judged sources ∙ ap (λ v. and_then v (λ (b : ColumnType). Fine (bounds own.now))) keep

  pub picked_faulty : (fault : ScopeFault) → judge_sources ts [] (out-Picked k).from ≡ Fine (bounds own.now) → Faults (judge_keep ts (aliases_in (Inner own around)) (placed_keep (out-Picked k).keep)) fault
      → Faults (judge_picked ts (aliases_in around.now) (placed_picked k)) fault
  picked_faulty fault sources = faults_on (judge_keep ts (aliases_in (Inner own around)) (placed_keep (out-Picked k).keep)) (judge_picked ts (aliases_in around.now) (placed_picked k)) fault (λ rule place broken.
      picked_judged sources ∙ ap (λ v. and_then v (λ (b : ColumnType). Fine (bounds own.now))) broken)
