-- Scalar queries, written one piece after another.
use Rattle.std.proofs.Common.{◌≡◌, ℕ, pos, List, ◌++◌, codes, Box, Global, Result, Ok, Err, OnOk, sym, ap, ◌∙◌, append_assoc}
use Rattle.nq_model.specs.Totals.{HowMany, SumOf}
use Rattle.sql_profile.specs.declared.tree.Expr.{Expr}
use Rattle.sql_profile.specs.declared.tree.ExprNode.TheVariants as node
use Rattle.sql_profile.specs.declared.tree.Picked.{Picked}
use Rattle.sql_profile.specs.Parts.{picked_from, picked_keep}
use Rattle.sql_profile.specs.Printed.{printed_expr, printed_from, printed_keep}
use Rattle.sql_profile.specs.Trees.{ExprTree, bare_expr, expr_tree, placed_node}
use Rattle.sql_profile.proofs.Trees.{expr_placed, node_count, node_sum}

-- what is said of the text where all was written
pub on_ok : {A E P Q : Type 0} (r : Result A E) → (P → Q) → OnOk r P → OnOk r Q
on_ok (Ok x) f h = f h
on_ok (Err e) f h = tt

-- the sources and the condition, and the end
abbrev pub picked_text : Picked → List ℕ
picked_text k = printed_from (picked_from k) ++ (printed_keep (picked_keep k) ++ codes ")")

pieces : (old head part behind rest : List ℕ) → ((old ++ head) ++ (part ++ behind)) ++ rest ≡ old ++ (head ++ (part ++ (behind ++ rest)))
pieces old head part behind rest = simp append_assoc

module _ (e : Expr) (over : Box Picked Global) (k : Picked) (same : k ≡ over.value) where
  pub count_printed : (old mid new : List ℕ) → e.node ≡ node.Count over → mid ≡ old ++ codes "(SELECT COUNT(*)" → new ≡ mid ++ picked_text k → new ≡ old ++ printed_expr (expr_tree e)
  count_printed old mid new is head rest =
      let tree : expr_tree e ≡ ExprTree.total HowMany (picked_from over.value) (picked_keep over.value) (ExprTree.int (pos 1)) = ap bare_expr (expr_placed e ∙ ap (λ n. placed_node n e.place) is ∙ node_count over e.place) in
      rest ∙ ap (λ (l : List ℕ). l ++ picked_text k) head ∙ append_assoc old (codes "(SELECT COUNT(*)") (picked_text k)
      ∙ ap (λ q. old ++ (codes "(SELECT COUNT(*)" ++ picked_text q)) same ∙ ap (λ t. old ++ printed_expr t) (sym tree)

  pub sum_printed : (value : Box Expr Global) (x : Expr) (old first mid new : List ℕ) → x ≡ value.value → e.node ≡ node.Sum over value
      → first ≡ old ++ codes "(SELECT COALESCE(SUM(" → mid ≡ first ++ (printed_expr (expr_tree x) ++ codes "), 0)") → new ≡ mid ++ picked_text k → new ≡ old ++ printed_expr (expr_tree e)
  sum_printed value x old first mid new alike is head part rest =
      let tree : expr_tree e ≡ ExprTree.total SumOf (picked_from over.value) (picked_keep over.value) (expr_tree value.value) = ap bare_expr (expr_placed e ∙ ap (λ n. placed_node n e.place) is ∙ node_sum over value e.place) in
      rest ∙ ap (λ (l : List ℕ). l ++ picked_text k) (part ∙ ap (λ (l : List ℕ). l ++ (printed_expr (expr_tree x) ++ codes "), 0)")) head)
      ∙ pieces old (codes "(SELECT COALESCE(SUM(") (printed_expr (expr_tree x)) (codes "), 0)") (picked_text k)
      ∙ ap (λ y. old ++ (codes "(SELECT COALESCE(SUM(" ++ (printed_expr (expr_tree y) ++ (codes "), 0)" ++ picked_text k)))) alike
      ∙ ap (λ q. old ++ (codes "(SELECT COALESCE(SUM(" ++ (printed_expr (expr_tree value.value) ++ (codes "), 0)" ++ picked_text q)))) same
      ∙ ap (λ t. old ++ printed_expr t) (sym tree)
