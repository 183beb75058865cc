-- The raw forms of terms, form by form.
use Rattle.std.proofs.Common.{◌≡◌, ℕ, Bool, List, [], ◌∷◌, map, ap, ◌∙◌, length, Box, Global, get_or}
use Rattle.nq_model.specs.NamedRows.{Label}
use Rattle.nq_model.specs.Terms.{Count, Sum, bare, bare_node, node_tree, term_tree}
use Rattle.nq_model.specs.declared.table.Cell.TheVariants as cell
use Rattle.nq_model.specs.declared.table.TableShape.{TableShape}
use Rattle.nq_model.specs.declared.term.Binary.{Binary}
use Rattle.nq_model.specs.declared.term.Node.{Node}
use Rattle.nq_model.specs.declared.term.Node.TheVariants as node
use Rattle.nq_model.specs.declared.term.Term.{Term}
use Rattle.nq_model.specs.declared.term.Unary.{Unary}
use Rattle.nq_model.specs.declared.ty.Ty.{Ty}
use Rattle.nq_model.proofs.Terms.{placed_term, node_binary, node_bool, node_choose, node_count, node_empty, node_field, node_for, node_guard, node_nil, node_single, node_sum, node_table, node_text, node_unary, node_union, node_var}
use Rattle.nq_ir.specs.RawForms.{RawBody, append_raw, choice, columns_body, each_comp, no_raw, no_raw_body, no_raw_comp, raw_aggregate, raw_bag, raw_base_in, raw_binary, raw_comp, raw_comps_in, raw_empty, raw_field_in, raw_form, raw_literal, raw_plain, raw_rec, raw_tests_of, raw_unary, up_body, where_raw}
use Rattle.nq_ir.specs.WellFormed.{table_columns}

module _ (S : List TableShape) (es : List RawBody) (t : Term) where
  of_node : (n : Node) → t.node ≡ n → raw_form S (term_tree t) es ≡ raw_form S (node_tree n) es
  of_node n e = ap (λ z. raw_form S z es) (ap bare (placed_term t) ∙ ap node_tree e)

  pub form_var : (k : ℕ) → t.node ≡ node.Var k → raw_form S (term_tree t) es ≡ get_or es k no_raw_body
  form_var k e = of_node (node.Var k) e ∙ ap (λ z. raw_form S (bare_node z) es) (node_var k)

  pub form_unary : (op : Unary) (a : Box Term Global) → t.node ≡ node.Unary op a → raw_form S (term_tree t) es ≡ raw_plain (raw_unary op (raw_base_in (raw_form S (term_tree a.value) es)))
  form_unary op a e = of_node (node.Unary op a) e ∙ ap (λ z. raw_form S (bare_node z) es) (node_unary op a)

  pub form_binary : (op : Binary) (a b : Box Term Global) → t.node ≡ node.Binary op a b → raw_form S (term_tree t) es ≡ raw_plain (raw_binary op (raw_base_in (raw_form S (term_tree a.value) es)) (raw_base_in (raw_form S (term_tree b.value) es)))
  form_binary op a b e = of_node (node.Binary op a b) e ∙ ap (λ z. raw_form S (bare_node z) es) (node_binary op a b)

  pub form_choose : (x a b : Box Term Global) → t.node ≡ node.If x a b → raw_form S (term_tree t) es ≡ choice (raw_base_in (raw_form S (term_tree x.value) es)) (raw_form S (term_tree a.value) es) (raw_form S (term_tree b.value) es)
  form_choose x a b e = of_node (node.If x a b) e ∙ ap (λ z. raw_form S (bare_node z) es) (node_choose x a b)

  pub form_field : (a : Box Term Global) (l : Label) → t.node ≡ node.Field a l → raw_form S (term_tree t) es ≡ raw_field_in l (raw_form S (term_tree a.value) es)
  form_field a l e = of_node (node.Field a l) e ∙ ap (λ z. raw_form S (bare_node z) es) (node_field a l)

  pub form_empty : (a : Box Term Global) → t.node ≡ node.Empty a → raw_form S (term_tree t) es ≡ raw_plain (raw_empty (raw_tests_of (raw_comps_in (raw_form S (term_tree a.value) es))))
  form_empty a e = of_node (node.Empty a) e ∙ ap (λ z. raw_form S (bare_node z) es) (node_empty a)

  pub form_count : (a : Box Term Global) → t.node ≡ node.Count a → raw_form S (term_tree t) es ≡ raw_plain (raw_aggregate Count (raw_comps_in (raw_form S (term_tree a.value) es)))
  form_count a e = of_node (node.Count a) e ∙ ap (λ z. raw_form S (bare_node z) es) (node_count a)

  pub form_sum : (a : Box Term Global) → t.node ≡ node.Sum a → raw_form S (term_tree t) es ≡ raw_plain (raw_aggregate Sum (raw_comps_in (raw_form S (term_tree a.value) es)))
  form_sum a e = of_node (node.Sum a) e ∙ ap (λ z. raw_form S (bare_node z) es) (node_sum a)

  pub form_single : (a : Box Term Global) → t.node ≡ node.Single a → raw_form S (term_tree t) es ≡ raw_bag (raw_comp [] no_raw (raw_form S (term_tree a.value) es) no_raw_comp)
  form_single a e = of_node (node.Single a) e ∙ ap (λ z. raw_form S (bare_node z) es) (node_single a)

  pub form_union : (a b : Box Term Global) → t.node ≡ node.Union a b → raw_form S (term_tree t) es ≡ raw_bag (append_raw (raw_comps_in (raw_form S (term_tree a.value) es)) (raw_comps_in (raw_form S (term_tree b.value) es)))
  form_union a b e = of_node (node.Union a b) e ∙ ap (λ z. raw_form S (bare_node z) es) (node_union a b)

  pub form_for : (a b : Box Term Global) → t.node ≡ node.For a b → raw_form S (term_tree t) es ≡ raw_bag (each_comp (raw_comps_in (raw_form S (term_tree a.value) es)) (λ gs e. raw_comps_in (raw_form S (term_tree b.value) (e ∷ map (up_body (length gs) 0) es))))
  form_for a b e = of_node (node.For a b) e ∙ ap (λ z. raw_form S (bare_node z) es) (node_for a b)

  pub form_guard : (x a : Box Term Global) → t.node ≡ node.Guard x a → raw_form S (term_tree t) es ≡ raw_bag (where_raw (raw_base_in (raw_form S (term_tree x.value) es)) (raw_comps_in (raw_form S (term_tree a.value) es)))
  form_guard x a e = of_node (node.Guard x a) e ∙ ap (λ z. raw_form S (bare_node z) es) (node_guard x a)

  pub form_bool : (b : Bool) → t.node ≡ node.Bool b → raw_form S (term_tree t) es ≡ raw_plain (raw_literal (cell.Bool b))
  form_bool b e = of_node (node.Bool b) e ∙ ap (λ z. raw_form S (bare_node z) es) (node_bool b)

  pub form_text : (x : List ℕ) → t.node ≡ node.Text x → raw_form S (term_tree t) es ≡ raw_plain (raw_literal (cell.Text x))
  form_text x e = of_node (node.Text x) e ∙ ap (λ z. raw_form S (bare_node z) es) (node_text x)

  pub form_table : (l : Label) → t.node ≡ node.Table l → raw_form S (term_tree t) es ≡ raw_bag (raw_comp (l ∷ []) no_raw (raw_rec (columns_body (table_columns S l))) no_raw_comp)
  form_table l e = of_node (node.Table l) e ∙ ap (λ z. raw_form S (bare_node z) es) (node_table l)

  pub form_nil : (k : Ty) → t.node ≡ node.Nil k → raw_form S (term_tree t) es ≡ raw_bag no_raw_comp
  form_nil k e = of_node (node.Nil k) e ∙ ap (λ z. raw_form S (bare_node z) es) (node_nil k)
