-- What is found in an operator or a CASE is found in its parts, one behind the other.
use Rattle.std.proofs.Common.{◌≡◌, ℕ, [], ◌∷◌, sym, ap, ◌∙◌, subst}
use Rattle.std.proofs.Common.{Result, Ok, Err, IfOk, Box, Global}
use Rattle.nq_model.specs.declared.memory.Memory.{Memory}
use Rattle.nq_model.specs.declared.table.ColumnType.{ColumnType}
use Rattle.nq_model.specs.declared.term.Binary.{Binary}
use Rattle.nq_model.specs.declared.term.Unary.{Unary}
use Rattle.sql_profile.specs.declared.tree.Expr.{Expr}
use Rattle.sql_profile.specs.declared.tree.ExprNode.TheVariants as node
use Rattle.sql_profile.specs.Scope.{Aliases, Broken, Fine, Shapes, Verdict, judge_expr}
use Rattle.sql_profile.specs.Trees.{placed_expr, placed_node}
use Rattle.sql_profile.proofs.Trees.{expr_placed, node_binary, node_choose, node_unary}
use Rattle.sql_scope.specs.Found.{behind, expr_found}
use Rattle.sql_scope.specs.Parts.{IsInside, IsPart, last_found}
use Rattle.sql_scope.specs.declared.found.Found.{Found}
use Rattle.sql_scope.specs.declared.found.Part.{Part}
use Rattle.sql_scope.specs.declared.found.Part.TheVariants.{Stopped, Typed}

-- what a call found is this
pub told : (r : Result Found Memory) (f g : Found) → IfOk r (λ there. there ≡ f) → f ≡ g
    → IfOk r (λ there. there ≡ g)
told r f g h same = subst (λ x. IfOk r (λ there. there ≡ x)) same h

-- what a call found is what is inside, where judging stops
pub inside_told : (r : Result Found Memory) (v : Verdict ColumnType) (f inside : Found)
    → IfOk r (λ there. there ≡ f)
    → ((rule place : ℕ) → v ≡ Broken rule place → f ≡ inside)
    → IfOk r (IsInside v inside)
inside_told (Ok there) v f inside h same = λ rule place broken. h ∙ same rule place broken
inside_told (Err e) v f inside h same = tt

-- what a call found in a part where judging stops is this
pub stopped_told : (r : Result Found Memory) (v : Verdict ColumnType) (inside g : Found)
    (rule place : ℕ) → v ≡ Broken rule place → IfOk r (IsInside v inside) → inside ≡ g
    → IfOk r (λ there. there ≡ g)
stopped_told (Ok there) v inside g rule place broken h same = h rule place broken ∙ same
stopped_told (Err e) v inside g rule place broken h same = tt

pub part_typed : (v : Verdict ColumnType) (inside : Found) (part : Part) (ty : ColumnType)
    → IsPart v inside part → part ≡ Typed ty → v ≡ Fine ty
part_typed v inside part ty h is = subst (IsPart v inside) is h

pub part_stopped : (v : Verdict ColumnType) (inside : Found) (part : Part) (f : Found)
    → IsPart v inside part → part ≡ Stopped f → (more : ColumnType → Found)
    → f ≡ behind v inside more
part_stopped v inside part f h is = subst (IsPart v inside) is h

module _ (ts : Shapes) (env : Aliases) (e : Expr) where
  pub unary_last : (op : Unary) (of : Box Expr Global) → e.node ≡ node.Unary op of
      → last_found ts env [] (placed_expr of.value) ≡ expr_found ts env (placed_expr e)
  unary_last op of is = sym (ap (expr_found ts env)
      (expr_placed e ∙ ap (λ n. placed_node n e.place) is ∙ node_unary op of e.place))

  pub binary_last : (op : Binary) (l r : Box Expr Global) (i : ColumnType)
      → e.node ≡ node.Binary op l r → judge_expr ts env (placed_expr l.value) ≡ Fine i
      → last_found ts env (i ∷ []) (placed_expr r.value) ≡ expr_found ts env (placed_expr e)
  binary_last op l r i is fine =
      sym (ap (expr_found ts env)
      (expr_placed e ∙ ap (λ n. placed_node n e.place) is ∙ node_binary op l r e.place)
      ∙ ap (λ v. behind v (expr_found ts env (placed_expr l.value))
      (λ i. last_found ts env (i ∷ []) (placed_expr r.value))) fine)

  pub choose_last : (t y n : Box Expr Global) (i j : ColumnType) → e.node ≡ node.Choose t y n
      → judge_expr ts env (placed_expr t.value) ≡ Fine i
      → judge_expr ts env (placed_expr y.value) ≡ Fine j
      → last_found ts env (i ∷ j ∷ []) (placed_expr n.value)
      ≡ expr_found ts env (placed_expr e)
  choose_last t y n i j is tested fine =
      sym (ap (expr_found ts env)
      (expr_placed e ∙ ap (λ n. placed_node n e.place) is ∙ node_choose t y n e.place)
      ∙ ap (λ v. behind v (expr_found ts env (placed_expr t.value))
      (λ i. behind (judge_expr ts env (placed_expr y.value))
      (expr_found ts env (placed_expr y.value))
      (λ j. last_found ts env (i ∷ j ∷ []) (placed_expr n.value)))) tested
      ∙ ap (λ v. behind v (expr_found ts env (placed_expr y.value))
      (λ j. last_found ts env (i ∷ j ∷ []) (placed_expr n.value))) fine)
