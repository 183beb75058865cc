-- The text of a tree, and then more bytes.
use Rattle.std.proofs.Common.{◌≡◌, ℕ, List, [], ◌∷◌, ◌++◌, codes, refl, sym, ap, ◌∙◌, append_assoc, append-nil}
use Rattle.std.specs.Fmt.{signed_decimal}
use Rattle.nq_model.specs.Canonical.{doubled_quotes}
use Rattle.nq_model.specs.Totals.{HowMany, SumOf}
use Rattle.sql_profile.specs.Trees.{SourceTree, ExprTree, int, bool, text, column, unary, binary, choose, not_exists, total, ExprTrees, no_expr, then_expr, QueryTree, no_select, then_select, SelectTree, select, KeepTree, keep_all, keep_if, ItemTrees, no_item, then_item, ValueTree, plain, number, WithTree, SqlTree}
use Rattle.sql_profile.specs.Printed.{truth, before_operand, between_operands, printed_source, more_sources, printed_from, printed_expr, printed_query, more_selects, printed_select, printed_keep, printed_items, more_items, printed_value, printed_keys, more_keys, printed_with, more_withs, printed_withs, printed}

-- a name in quotes
abbrev pub name_then : List ℕ → List ℕ → List ℕ
name_then n x = 34 ∷ (n ++ 34 ∷ x)

abbrev pub source_then : SourceTree → List ℕ → List ℕ
source_then s x = name_then s.table (32 ∷ 65 ∷ 83 ∷ 32 ∷ name_then s.alias x)

abbrev pub sources_then : List SourceTree → List ℕ → List ℕ
sources_then [] x = x
sources_then (s ∷ ss) x = 44 ∷ 32 ∷ source_then s (sources_then ss x)

abbrev pub from_then : List SourceTree → List ℕ → List ℕ
from_then [] x = x
from_then (s ∷ ss) x = codes " FROM " ++ source_then s (sources_then ss x)

abbrev mutual
  pub expr_then : ExprTree → List ℕ → List ℕ
  expr_then (int n) x = signed_decimal n ++ x
  expr_then (bool b) x = truth b ++ x
  expr_then (text t) x = 39 ∷ (doubled_quotes t ++ 39 ∷ x)
  expr_then (column a c) x = name_then a (46 ∷ name_then c x)
  expr_then (unary op e) x = 40 ∷ (before_operand op ++ expr_then e (41 ∷ x))
  expr_then (binary op l r) x = 40 ∷ expr_then l (between_operands op ++ expr_then r (41 ∷ x))
  expr_then (choose t y n) x = codes "CASE WHEN " ++ expr_then t (codes " THEN " ++ expr_then y (codes " ELSE " ++ expr_then n (codes " END" ++ x)))
  expr_then (not_exists q) x = codes "(NOT EXISTS (" ++ query_then q (41 ∷ 41 ∷ x)
  expr_then (total HowMany from keep e) x = codes "(SELECT COUNT(*)" ++ from_then from (keep_then keep (41 ∷ x))
  expr_then (total SumOf from keep e) x = codes "(SELECT COALESCE(SUM(" ++ expr_then e (codes "), 0)" ++ from_then from (keep_then keep (41 ∷ x)))

  pub query_then : QueryTree → List ℕ → List ℕ
  query_then no_select x = x
  query_then (then_select s q) x = select_then s (selects_then q x)

  pub selects_then : QueryTree → List ℕ → List ℕ
  selects_then no_select x = x
  selects_then (then_select s q) x = codes " UNION ALL " ++ select_then s (selects_then q x)

  pub select_then : SelectTree → List ℕ → List ℕ
  select_then (select is from keep) x = codes "SELECT " ++ items_then is (from_then from (keep_then keep x))

  pub keep_then : KeepTree → List ℕ → List ℕ
  keep_then keep_all x = x
  keep_then (keep_if e) x = codes " WHERE " ++ expr_then e x

  pub items_then : ItemTrees → List ℕ → List ℕ
  items_then no_item x = x
  items_then (then_item n v is) x = value_then v (32 ∷ 65 ∷ 83 ∷ 32 ∷ name_then n (further_items is x))

  pub further_items : ItemTrees → List ℕ → List ℕ
  further_items no_item x = x
  further_items (then_item n v is) x = 44 ∷ 32 ∷ value_then v (32 ∷ 65 ∷ 83 ∷ 32 ∷ name_then n (further_items is x))

  pub value_then : ValueTree → List ℕ → List ℕ
  value_then (plain e) x = expr_then e x
  value_then (number keys) x = codes "ROW_NUMBER() OVER (" ++ keys_then keys (41 ∷ x)

  pub keys_then : ExprTrees → List ℕ → List ℕ
  keys_then no_expr x = x
  keys_then (then_expr e es) x = codes "ORDER BY " ++ expr_then e (further_keys es x)

  pub further_keys : ExprTrees → List ℕ → List ℕ
  further_keys no_expr x = x
  further_keys (then_expr e es) x = 44 ∷ 32 ∷ expr_then e (further_keys es x)

abbrev pub with_then : WithTree → List ℕ → List ℕ
with_then w x = name_then w.name (codes " AS (" ++ query_then w.query (41 ∷ x))

abbrev pub further_withs : List WithTree → List ℕ → List ℕ
further_withs [] x = 32 ∷ x
further_withs (w ∷ ws) x = 44 ∷ 32 ∷ with_then w (further_withs ws x)

abbrev pub withs_then : List WithTree → List ℕ → List ℕ
withs_then [] x = x
withs_then (w ∷ ws) x = codes "WITH " ++ with_then w (further_withs ws x)

source_laid : (s : SourceTree) (x : List ℕ) → printed_source s ++ x ≡ source_then s x
source_laid s x = simp append_assoc

sources_laid : (ss : List SourceTree) (x : List ℕ) → more_sources ss ++ x ≡ sources_then ss x
sources_laid [] x = refl
sources_laid (s ∷ ss) x =
    append_assoc (codes ", " ++ printed_source s) (more_sources ss) x ∙ ap (λ (l : List ℕ). (codes ", " ++ printed_source s) ++ l) (sources_laid ss x)
    ∙ ap (λ (l : List ℕ). 44 ∷ 32 ∷ l) (source_laid s (sources_then ss x))

from_laid : (ss : List SourceTree) (x : List ℕ) → printed_from ss ++ x ≡ from_then ss x
from_laid [] x = refl
from_laid (s ∷ ss) x =
    append_assoc (codes " FROM " ++ printed_source s) (more_sources ss) x ∙ ap (λ (l : List ℕ). (codes " FROM " ++ printed_source s) ++ l) (sources_laid ss x)
    ∙ ap (λ (l : List ℕ). codes " FROM " ++ l) (source_laid s (sources_then ss x))

item_laid : (v n more x : List ℕ) → (v ++ (codes " AS " ++ ((codes "\"" ++ (n ++ codes "\"")) ++ more))) ++ x ≡ v ++ (codes " AS \"" ++ (n ++ 34 ∷ (more ++ x)))
item_laid v n more x = simp append_assoc

mutual
  pub expr_laid : (e : ExprTree) (x : List ℕ) → printed_expr e ++ x ≡ expr_then e x
  expr_laid (int n) x = refl
  expr_laid (bool b) x = refl
  expr_laid (text t) x = ap (λ (l : List ℕ). 39 ∷ l) (append_assoc (doubled_quotes t) (codes "'") x)
  expr_laid (column a c) x = simp append_assoc
  expr_laid (unary op e) x =
      ap (λ (l : List ℕ). 40 ∷ l) (append_assoc (before_operand op) (printed_expr e ++ codes ")") x ∙ ap (λ (l : List ℕ). before_operand op ++ l) (append_assoc (printed_expr e) (codes ")") x ∙ expr_laid e (41 ∷ x)))
  expr_laid (binary op l r) x =
      ap (λ (z : List ℕ). 40 ∷ z) (append_assoc (printed_expr l) (between_operands op ++ (printed_expr r ++ codes ")")) x
      ∙ ap (λ (z : List ℕ). printed_expr l ++ z) (append_assoc (between_operands op) (printed_expr r ++ codes ")") x ∙ ap (λ (z : List ℕ). between_operands op ++ z) (append_assoc (printed_expr r) (codes ")") x ∙ expr_laid r (41 ∷ x)))
      ∙ expr_laid l (between_operands op ++ expr_then r (41 ∷ x)))
  expr_laid (choose t y n) x =
      ap (λ (z : List ℕ). codes "CASE WHEN " ++ z) (append_assoc (printed_expr t) (codes " THEN " ++ (printed_expr y ++ (codes " ELSE " ++ (printed_expr n ++ codes " END")))) x
      ∙ ap (λ (z : List ℕ). printed_expr t ++ (codes " THEN " ++ z)) (append_assoc (printed_expr y) (codes " ELSE " ++ (printed_expr n ++ codes " END")) x
      ∙ ap (λ (z : List ℕ). printed_expr y ++ (codes " ELSE " ++ z)) (append_assoc (printed_expr n) (codes " END") x ∙ expr_laid n (codes " END" ++ x))
      ∙ expr_laid y (codes " ELSE " ++ expr_then n (codes " END" ++ x)))
      ∙ expr_laid t (codes " THEN " ++ expr_then y (codes " ELSE " ++ expr_then n (codes " END" ++ x))))
  expr_laid (not_exists q) x = ap (λ (z : List ℕ). codes "(NOT EXISTS (" ++ z) (append_assoc (printed_query q) (codes "))") x ∙ query_laid q (41 ∷ 41 ∷ x))
  expr_laid (total HowMany from keep e) x = ap (λ (z : List ℕ). codes "(SELECT COUNT(*)" ++ z) (append_assoc (printed_from from) (printed_keep keep ++ codes ")") x ∙ ap (λ (z : List ℕ). printed_from from ++ z) (append_assoc (printed_keep keep) (codes ")") x ∙ keep_laid keep (41 ∷ x)) ∙ from_laid from (keep_then keep (41 ∷ x)))
  expr_laid (total SumOf from keep e) x =
      ap (λ (z : List ℕ). codes "(SELECT COALESCE(SUM(" ++ z) (append_assoc (printed_expr e) (codes "), 0)" ++ (printed_from from ++ (printed_keep keep ++ codes ")"))) x
      ∙ ap (λ (z : List ℕ). printed_expr e ++ (codes "), 0)" ++ z)) (append_assoc (printed_from from) (printed_keep keep ++ codes ")") x ∙ ap (λ (z : List ℕ). printed_from from ++ z) (append_assoc (printed_keep keep) (codes ")") x ∙ keep_laid keep (41 ∷ x)) ∙ from_laid from (keep_then keep (41 ∷ x)))
      ∙ expr_laid e (codes "), 0)" ++ from_then from (keep_then keep (41 ∷ x))))

  pub query_laid : (q : QueryTree) (x : List ℕ) → printed_query q ++ x ≡ query_then q x
  query_laid no_select x = refl
  query_laid (then_select s q) x = append_assoc (printed_select s) (more_selects q) x ∙ ap (λ (z : List ℕ). printed_select s ++ z) (selects_laid q x) ∙ select_laid s (selects_then q x)

  selects_laid : (q : QueryTree) (x : List ℕ) → more_selects q ++ x ≡ selects_then q x
  selects_laid no_select x = refl
  selects_laid (then_select s q) x =
      ap (λ (z : List ℕ). codes " UNION ALL " ++ z) (append_assoc (printed_select s) (more_selects q) x ∙ ap (λ (z : List ℕ). printed_select s ++ z) (selects_laid q x) ∙ select_laid s (selects_then q x))

  select_laid : (s : SelectTree) (x : List ℕ) → printed_select s ++ x ≡ select_then s x
  select_laid (select is from keep) x =
      ap (λ (z : List ℕ). codes "SELECT " ++ z) (append_assoc (printed_items is) (printed_from from ++ printed_keep keep) x
      ∙ ap (λ (z : List ℕ). printed_items is ++ z) (append_assoc (printed_from from) (printed_keep keep) x ∙ ap (λ (z : List ℕ). printed_from from ++ z) (keep_laid keep x) ∙ from_laid from (keep_then keep x))
      ∙ items_laid is (from_then from (keep_then keep x)))

  keep_laid : (k : KeepTree) (x : List ℕ) → printed_keep k ++ x ≡ keep_then k x
  keep_laid keep_all x = refl
  keep_laid (keep_if e) x = ap (λ (z : List ℕ). codes " WHERE " ++ z) (expr_laid e x)

  items_laid : (is : ItemTrees) (x : List ℕ) → printed_items is ++ x ≡ items_then is x
  items_laid no_item x = refl
  items_laid (then_item n v is) x = item_laid (printed_value v) n (more_items is) x ∙ ap (λ (z : List ℕ). printed_value v ++ (codes " AS \"" ++ (n ++ 34 ∷ z))) (further_laid is x) ∙ value_laid v (32 ∷ 65 ∷ 83 ∷ 32 ∷ name_then n (further_items is x))

  further_laid : (is : ItemTrees) (x : List ℕ) → more_items is ++ x ≡ further_items is x
  further_laid no_item x = refl
  further_laid (then_item n v is) x =
      ap (λ (z : List ℕ). 44 ∷ 32 ∷ z) (item_laid (printed_value v) n (more_items is) x ∙ ap (λ (z : List ℕ). printed_value v ++ (codes " AS \"" ++ (n ++ 34 ∷ z))) (further_laid is x) ∙ value_laid v (32 ∷ 65 ∷ 83 ∷ 32 ∷ name_then n (further_items is x)))

  value_laid : (v : ValueTree) (x : List ℕ) → printed_value v ++ x ≡ value_then v x
  value_laid (plain e) x = expr_laid e x
  value_laid (number keys) x = ap (λ (z : List ℕ). codes "ROW_NUMBER() OVER (" ++ z) (append_assoc (printed_keys keys) (codes ")") x ∙ keys_laid keys (41 ∷ x))

  keys_laid : (es : ExprTrees) (x : List ℕ) → printed_keys es ++ x ≡ keys_then es x
  keys_laid no_expr x = refl
  keys_laid (then_expr e es) x =
      ap (λ (z : List ℕ). codes "ORDER BY " ++ z) (append_assoc (printed_expr e) (more_keys es) x ∙ ap (λ (z : List ℕ). printed_expr e ++ z) (further_keys_laid es x) ∙ expr_laid e (further_keys es x))

  further_keys_laid : (es : ExprTrees) (x : List ℕ) → more_keys es ++ x ≡ further_keys es x
  further_keys_laid no_expr x = refl
  further_keys_laid (then_expr e es) x =
      ap (λ (z : List ℕ). 44 ∷ 32 ∷ z) (append_assoc (printed_expr e) (more_keys es) x ∙ ap (λ (z : List ℕ). printed_expr e ++ z) (further_keys_laid es x) ∙ expr_laid e (further_keys es x))

with_laid : (w : WithTree) (x : List ℕ) → printed_with w ++ x ≡ with_then w x
with_laid w x = quoted_laid w.name (printed_query w.query) x ∙ ap (λ (z : List ℕ). 34 ∷ (w.name ++ (codes "\" AS (" ++ z))) (query_laid w.query (41 ∷ x))
  where
    quoted_laid : (n q x : List ℕ) → ((codes "\"" ++ (n ++ codes "\"")) ++ (codes " AS (" ++ (q ++ codes ")"))) ++ x ≡ 34 ∷ (n ++ (codes "\" AS (" ++ (q ++ 41 ∷ x)))
    quoted_laid n q x = simp append_assoc

further_withs_laid : (ws : List WithTree) (x : List ℕ) → more_withs ws ++ x ≡ further_withs ws x
further_withs_laid [] x = refl
further_withs_laid (w ∷ ws) x =
    ap (λ (z : List ℕ). 44 ∷ 32 ∷ z) (append_assoc (printed_with w) (more_withs ws) x ∙ ap (λ (z : List ℕ). printed_with w ++ z) (further_withs_laid ws x) ∙ with_laid w (further_withs ws x))

withs_laid : (ws : List WithTree) (x : List ℕ) → printed_withs ws ++ x ≡ withs_then ws x
withs_laid [] x = refl
withs_laid (w ∷ ws) x =
    ap (λ (z : List ℕ). codes "WITH " ++ z) (append_assoc (printed_with w) (more_withs ws) x ∙ ap (λ (z : List ℕ). printed_with w ++ z) (further_withs_laid ws x) ∙ with_laid w (further_withs ws x))

-- a whole text
pub text_laid : (t : SqlTree) → printed t ≡ withs_then t.withs (query_then t.main [])
text_laid t = ap (λ (z : List ℕ). printed_withs t.withs ++ z) (sym (append-nil (printed_query t.main)) ∙ query_laid t.main []) ∙ withs_laid t.withs (query_then t.main [])
