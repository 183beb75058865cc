-- A word and a number, as a text writes them, and expressions under words and their numbers.
use Rattle.std.proofs.Common.{◌≡◌, ℕ, suc, ◌+◌, ◌<◌, List, [], ◌∷◌, ◌++◌, ◌^◌, sym, ap, ap₂, ◌∙◌, map, length, append_assoc, length-append, arith}
use Rattle.std.proofs.lemmas.List.{map-append}
use Rattle.std.specs.Fmt.{decimal}
use Rattle.nq_model.specs.NamedRows.{Label}
use Rattle.nq_model.proofs.Numberings.{length_map}
use Rattle.sql_profile.specs.declared.tree.Expr.{Expr}
use Rattle.sql_profile.specs.declared.tree.Item.{Item}
use Rattle.sql_profile.specs.Trees.{ExprTree, expr_tree, plain}
use Rattle.flatten.specs.Names.{number_text}
use Rattle.flatten.specs.Views.{NamedValue, item_view}
use Rattle.flatten.proofs.Apart.{number_text_decimal}
use Rattle.natural_index.specs.Trees.{as_items, numbered}

pub word_numbered : (word name : Label) (n : ℕ) → n < 2 ^ 64 → name ≡ word ++ decimal n → name
    ≡ word ++ number_text n
word_numbered word name n small e = e ∙ ap (λ (l : Label). word ++ l)
    (sym (number_text_decimal n small))

numbered_more : (word : Label) (k : ℕ) (xs : List ExprTree) (x : ExprTree)
    → numbered word k (xs ++ x ∷ []) ≡ numbered word k xs
    ++ (word ++ number_text (k + length xs), x) ∷ []
numbered_more word k [] x = ap (λ (n : ℕ). (word ++ number_text n, x) ∷ [])
    (let e : k ≡ k + 0 = omega arith in e)
numbered_more word k (y ∷ ys) x =
    ap (λ (l : List (Label × ExprTree)). (word ++ number_text k, y) ∷ l)
    (numbered_more word (suc k) ys x ∙ ap (λ (n : ℕ). numbered word (suc k) ys
    ++ (word ++ number_text n, x) ∷ []) (let e : suc k + length ys ≡ k + suc (length ys)
    = omega arith in e))

pub count_more : (n m : ℕ) (es : List Expr) (e : Expr) → n ≡ 1 + length es → m ≡ n + 1 → m
    ≡ 1 + length (es ++ e ∷ [])
count_more n m es e count next =
    let longer : length (es ++ e ∷ []) ≡ length es + 1 = length-append es (e ∷ []) in
    omega (arith, count, next, longer)

-- one item more
pub item_more : (word name : Label) (n : ℕ) (items before after : List Item) (es : List Expr)
    (e : Expr) → n ≡ 1 + length es → map item_view items ≡ map item_view before
    ++ as_items (numbered word 1 (map expr_tree es)) → name ≡ word ++ number_text n
    → map item_view after ≡ map item_view items ++ (name, plain (expr_tree e)) ∷ []
    → map item_view after ≡ map item_view before ++ as_items
    (numbered word 1 (map expr_tree (es ++ e ∷ [])))
item_more word name n items before after es e count so_far named more =
    let old : List (Label × ExprTree) = numbered word 1 (map expr_tree es) in
    let new : List (Label × ExprTree) = (
      word ++ number_text (1 + length (map expr_tree es)),
      expr_tree e,
    ) ∷ [] in
    let here : n ≡ 1 + length (map expr_tree es) = count
    ∙ ap (λ (k : ℕ). 1 + k) (sym (length_map expr_tree es)) in
    let last : numbered word 1 (map expr_tree (es ++ e ∷ [])) ≡ old ++ new
    = ap (numbered word 1) (map-append expr_tree es (e ∷ []))
    ∙ numbered_more word 1 (map expr_tree es) (expr_tree e) in
    more
    ∙ ap₂ (λ (l : List NamedValue) (m : Label). l ++ (m, plain (expr_tree e)) ∷ []) so_far
    (named ∙ ap (λ (k : ℕ). word ++ number_text k) here)
    ∙ append_assoc (map item_view before) (as_items old) (as_items new)
    ∙ ap (λ (l : List NamedValue). map item_view before ++ l)
    (sym (ap as_items last ∙ map-append (λ (c : Label × ExprTree). (c.0, plain c.1)) old new))
