-- Chains and choices, written one part after another.
use Rattle.std.proofs.Common.{◌≡◌, ℕ, zero, suc, ◌+◌, List, [], ◌∷◌, ◌++◌, codes, length, map, Box, Global, refl, sym, ap, ◌∙◌, append_assoc, append-nil, arith}
use Rattle.nq_model.specs.declared.term.Binary.{Binary}
use Rattle.sql_profile.specs.declared.tree.Expr.{Expr}
use Rattle.sql_profile.specs.declared.tree.ExprNode.TheVariants as node
use Rattle.sql_profile.specs.declared.tree.Link.{Link}
use Rattle.sql_profile.specs.Printed.{between_operands, printed_expr}
use Rattle.sql_profile.specs.Trees.{ExprTree, bare_expr, binary, chain, choose, expr_tree, link_tree, placed_node}
use Rattle.sql_profile.proofs.Parts.{chain_is, link_is}
use Rattle.sql_profile.proofs.Trees.{expr_placed, node_choose}
use Rattle.sql_printer.specs.Chains.{openings, printed_links}

openings_more : (n : ℕ) → openings (suc n) ≡ openings n ++ codes "("
openings_more zero = refl
openings_more (suc n) = ap (λ (l : List ℕ). codes "(" ++ l) (openings_more n)

-- a parenthesis more
pub opened : (n : ℕ) (start old new : List ℕ) → old ≡ start ++ openings n → new ≡ old ++ codes "(" → new ≡ start ++ openings (n + 1)
opened n start old new e f =
    let more : suc n ≡ n + 1 = omega arith in
    f ∙ ap (λ (l : List ℕ). l ++ codes "(") e ∙ append_assoc start (openings n) (codes "(") ∙ ap (λ (l : List ℕ). start ++ l) (sym (openings_more n)) ∙ ap (λ m. start ++ openings m) more

pieces : (start first sign right more : List ℕ) → start ++ ((codes "(" ++ (first ++ (sign ++ (right ++ codes ")")))) ++ more) ≡ (start ++ codes "(") ++ (first ++ (sign ++ ((right ++ codes ")") ++ more)))
pieces start first sign right more = simp append_assoc

-- the text of a chain is its parentheses, its first part and its links
chain_printed : (op : Binary) (first : ExprTree) (more : List Link) → printed_expr (chain op first (map link_tree more)) ≡ openings (length more) ++ (printed_expr first ++ printed_links op more)
chain_printed op first [] = sym (append-nil (printed_expr first))
chain_printed op first (link ∷ more) =
    let right = printed_expr (expr_tree link.right) in
    chain_printed op (binary op first (link_tree link)) more
    ∙ ap (λ t. openings (length more) ++ (printed_expr (binary op first t) ++ printed_links op more)) (link_is link)
    ∙ pieces (openings (length more)) (printed_expr first) (between_operands op) right (printed_links op more)
    ∙ ap (λ (l : List ℕ). l ++ (printed_expr first ++ (between_operands op ++ ((right ++ codes ")") ++ printed_links op more)))) (sym (openings_more (length more)))

three_put : (old mid half new begin first more : List ℕ) → mid ≡ old ++ begin → half ≡ mid ++ first → new ≡ half ++ more → new ≡ old ++ (begin ++ (first ++ more))
three_put old mid half new begin first more e f g = g ∙ ap (λ (l : List ℕ). l ++ more) (f ∙ ap (λ (l : List ℕ). l ++ first) e) ∙ (simp append_assoc)

pub chain_written : (e : Expr) (op : Binary) (first : Box Expr Global) (more links : List Link) (count : ℕ) (x : Expr) (old mid half new : List ℕ) → e.node ≡ node.Chain op first more → x ≡ first.value → count ≡ length more → links ≡ more
    → mid ≡ old ++ openings count → half ≡ mid ++ printed_expr (expr_tree x) → new ≡ half ++ printed_links op links → new ≡ old ++ printed_expr (expr_tree e)
chain_written e op first more links count x old mid half new is alike many same before begun rest =
    let tree : expr_tree e ≡ chain op (expr_tree first.value) (map link_tree more) = ap bare_expr (expr_placed e ∙ ap (λ n. placed_node n e.place) is) ∙ chain_is op first more e.place in
    three_put old mid half new (openings count) (printed_expr (expr_tree x)) (printed_links op links) before begun rest
    ∙ ap (λ n. old ++ (openings n ++ (printed_expr (expr_tree x) ++ printed_links op links))) many
    ∙ ap (λ y. old ++ (openings (length more) ++ (printed_expr (expr_tree y) ++ printed_links op links))) alike
    ∙ ap (λ (l : List Link). old ++ (openings (length more) ++ (printed_expr (expr_tree first.value) ++ printed_links op l))) same
    ∙ ap (λ (l : List ℕ). old ++ l) (sym (chain_printed op (expr_tree first.value) more) ∙ ap printed_expr (sym tree))

four_put : (old a b c new head p q r x y z : List ℕ) → a ≡ old ++ head → b ≡ a ++ (p ++ x) → c ≡ b ++ (q ++ y) → new ≡ c ++ (r ++ z) → new ≡ old ++ (head ++ (p ++ (x ++ (q ++ (y ++ (r ++ z))))))
four_put old a b c new head p q r x y z d e f g =
    g ∙ ap (λ (l : List ℕ). l ++ (r ++ z)) (f ∙ ap (λ (l : List ℕ). l ++ (q ++ y)) (e ∙ ap (λ (l : List ℕ). l ++ (p ++ x)) d)) ∙ (simp append_assoc)

pub choice_written : (e : Expr) (t y n : Box Expr Global) (u v w : Expr) (old a b c new : List ℕ) → e.node ≡ node.Choose t y n → u ≡ t.value → v ≡ y.value → w ≡ n.value
    → a ≡ old ++ codes "CASE WHEN " → b ≡ a ++ (printed_expr (expr_tree u) ++ codes " THEN ") → c ≡ b ++ (printed_expr (expr_tree v) ++ codes " ELSE ") → new ≡ c ++ (printed_expr (expr_tree w) ++ codes " END")
    → new ≡ old ++ printed_expr (expr_tree e)
choice_written e t y n u v w old a b c new is one two three d f g h =
    let tree : expr_tree e ≡ choose (expr_tree t.value) (expr_tree y.value) (expr_tree n.value) = ap bare_expr (expr_placed e ∙ ap (λ n. placed_node n e.place) is ∙ node_choose t y n e.place) in
    four_put old a b c new (codes "CASE WHEN ") (printed_expr (expr_tree u)) (printed_expr (expr_tree v)) (printed_expr (expr_tree w)) (codes " THEN ") (codes " ELSE ") (codes " END") d f g h
    ∙ ap (λ x. old ++ printed_expr (choose (expr_tree x) (expr_tree v) (expr_tree w))) one
    ∙ ap (λ x. old ++ printed_expr (choose (expr_tree t.value) (expr_tree x) (expr_tree w))) two
    ∙ ap (λ x. old ++ printed_expr (choose (expr_tree t.value) (expr_tree y.value) (expr_tree x))) three
    ∙ ap (λ x. old ++ printed_expr x) (sym tree)
