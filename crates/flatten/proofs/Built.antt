-- The trees of expressions and items that are built, form by form.
use Rattle.flatten.specs.Views.{picked_tree, keep_tree}
use Rattle.sql_profile.specs.declared.tree.Picked.{Picked, out-Picked}
use Rattle.nq_model.specs.Totals.{HowMany, SumOf}
use Rattle.std.proofs.Common.{◌≡◌, ℕ, ℤ, Bool, List, map, ap, ◌∙◌, Box, Global, pos}
use Rattle.nq_model.specs.NamedRows.{Label}
use Rattle.nq_model.specs.declared.term.Unary.{Unary}
use Rattle.nq_model.specs.declared.term.Binary.{Binary}
use Rattle.sql_profile.specs.declared.tree.Expr.{Expr}
use Rattle.sql_profile.specs.declared.tree.Link.{Link}
use Rattle.sql_profile.specs.declared.tree.Query.{Query}
use Rattle.sql_profile.specs.declared.tree.ExprNode.TheVariants as node
use Rattle.sql_profile.specs.Trees.{ExprTree, bare_expr, chain, expr_tree, link_tree, query_tree, placed_node, PlacedPicked, bare_source, bare_keep}
use Rattle.sql_profile.proofs.Parts.{chain_is, link_is}
use Rattle.sql_profile.proofs.Trees.{expr_placed, node_int, node_bool, node_text, node_column, node_unary, node_binary, node_choose, node_not_exists, node_count, node_sum, picked_placed}

pub expr_built : (e : Expr) → expr_tree e ≡ bare_expr (placed_node e.node e.place)
expr_built e = ap bare_expr (expr_placed e)

pub column_built : (p : ℕ) (a c : Label) → expr_tree (record { place = p; node = node.Column a c }) ≡ ExprTree.column a c
column_built p a c = expr_built (record { place = p; node = node.Column a c }) ∙ ap bare_expr (node_column a c p)

pub int_built : (p : ℕ) (n : ℤ) → expr_tree (record { place = p; node = node.Int n }) ≡ ExprTree.int n
int_built p n = expr_built (record { place = p; node = node.Int n }) ∙ ap bare_expr (node_int n p)

pub bool_built : (p : ℕ) (b : Bool) → expr_tree (record { place = p; node = node.Bool b }) ≡ ExprTree.bool b
bool_built p b = expr_built (record { place = p; node = node.Bool b }) ∙ ap bare_expr (node_bool b p)

pub text_built : (p : ℕ) (t : List ℕ) → expr_tree (record { place = p; node = node.Text t }) ≡ ExprTree.text t
text_built p t = expr_built (record { place = p; node = node.Text t }) ∙ ap bare_expr (node_text t p)

pub unary_built : (p : ℕ) (op : Unary) (e : Box Expr Global) → expr_tree (record { place = p; node = node.Unary op e }) ≡ ExprTree.unary op (expr_tree e.value)
unary_built p op e = expr_built (record { place = p; node = node.Unary op e }) ∙ ap bare_expr (node_unary op e p)

pub binary_built : (p : ℕ) (op : Binary) (l r : Box Expr Global) → expr_tree (record { place = p; node = node.Binary op l r }) ≡ ExprTree.binary op (expr_tree l.value) (expr_tree r.value)
binary_built p op l r = expr_built (record { place = p; node = node.Binary op l r }) ∙ ap bare_expr (node_binary op l r p)

pub chain_built : (p : ℕ) (op : Binary) (first : Box Expr Global) (more : List Link) → expr_tree (record { place = p; node = node.Chain op first more }) ≡ chain op (expr_tree first.value) (map link_tree more)
chain_built p op first more = expr_built (record { place = p; node = node.Chain op first more }) ∙ chain_is op first more p

pub link_built : (p : ℕ) (e : Expr) → link_tree (record { place = p; right = e }) ≡ expr_tree e
link_built p e = link_is (record { place = p; right = e })

pub choose_built : (p : ℕ) (t y n : Box Expr Global) → expr_tree (record { place = p; node = node.Choose t y n }) ≡ ExprTree.choose (expr_tree t.value) (expr_tree y.value) (expr_tree n.value)
choose_built p t y n = expr_built (record { place = p; node = node.Choose t y n }) ∙ ap bare_expr (node_choose t y n p)

pub not_exists_built : (p : ℕ) (q : Box Query Global) → expr_tree (record { place = p; node = node.NotExists q }) ≡ ExprTree.not_exists (query_tree q.value)
not_exists_built p q = expr_built (record { place = p; node = node.NotExists q }) ∙ ap bare_expr (node_not_exists q p)

pub count_built : (p : ℕ) (k : Box Picked Global) → expr_tree (record { place = p; node = node.Count k }) ≡ ExprTree.total HowMany (picked_tree k.value).0 (picked_tree k.value).1 (ExprTree.int (pos 1))
count_built p k = expr_built (record { place = p; node = node.Count k }) ∙ ap bare_expr (node_count k p)

pub sum_built : (p : ℕ) (k : Box Picked Global) (e : Box Expr Global) → expr_tree (record { place = p; node = node.Sum k e }) ≡ ExprTree.total SumOf (picked_tree k.value).0 (picked_tree k.value).1 (expr_tree e.value)
sum_built p k e = expr_built (record { place = p; node = node.Sum k e }) ∙ ap bare_expr (node_sum k e p)

pub picked_built : (k : Picked) → picked_tree k ≡ (map bare_source (out-Picked k).from, keep_tree (out-Picked k).keep)
picked_built k = ap (λ (z : PlacedPicked). (map bare_source z.from, bare_keep z.keep)) (picked_placed k)
