-- Chains are judged link by link.
use Rattle.std.proofs.Common.{◌≡◌, ℕ, ◌+◌, ◌-◌, ◌<◌, ◌≤◌, List, [], ◌∷◌, map, length, drop, get_or, slice_get, Some, None, Result, Box, Global, refl, sym, ap, ◌∙◌, subst, arith}
use Rattle.std.proofs.lemmas.List.{drop_all}
use Rattle.nq_model.specs.Operators.{binary_type}
use Rattle.nq_model.specs.declared.term.Binary.{Binary}
use Rattle.nq_model.specs.declared.table.ColumnType.{ColumnType}
use Rattle.sql_profile.specs.declared.tree.Expr.{Expr}
use Rattle.sql_profile.specs.declared.tree.ExprNode.TheVariants as node
use Rattle.sql_profile.specs.declared.tree.Link.{Link}
use Rattle.sql_profile.specs.Scope.{Aliases, Broken, Fine, Shapes, Verdict, and_then, expr_place, judge_expr, or_broken}
use Rattle.sql_profile.specs.Trees.{PlacedExpr, PlacedLink, binary_at, chain_at, placed_expr, placed_link, placed_node}
use Rattle.sql_profile.proofs.Trees.{expr_placed, link_placed, node_chain}
use Rattle.sql_scope.specs.Steps.{Faults, Gives, judge_links}
use Rattle.sql_scope.specs.declared.fault.ScopeFault.{ScopeFault}
use Rattle.sql_scope.proofs.Turns.{drop_step, faults_on}

all_fine : {A : Type 0} (v : Verdict A) → and_then v (λ a. Fine a) ≡ v
all_fine (Fine a) = refl
all_fine (Broken rule place) = refl

grouped : {A B C D : Type 0} (v : Verdict A) (w : Verdict B) (f : A → B → Verdict C) (g : C → Verdict D)
    → and_then (and_then v (λ i. and_then w (λ j. f i j))) g ≡ and_then v (λ i. and_then w (λ j. and_then (f i j) g))
grouped (Fine a) (Fine b) f g = refl
grouped (Fine a) (Broken rule place) f g = refl
grouped (Broken rule place) w f g = refl

-- a chain is judged by its first part, and then by its links
chain_judged : (ts : Shapes) (env : Aliases) (op : Binary) (first : PlacedExpr) (more : List PlacedLink) → judge_expr ts env (chain_at op first more) ≡ and_then (judge_expr ts env first) (λ k. judge_links ts env op k more)
chain_judged ts env op first [] = sym (all_fine (judge_expr ts env first))
chain_judged ts env op first (link ∷ more) =
    chain_judged ts env op (binary_at link.place op first link.right) more
    ∙ grouped (judge_expr ts env first) (judge_expr ts env link.right) (λ i j. or_broken 5 link.place (binary_type op i j)) (λ k. judge_links ts env op k more)

module _ (ts : Shapes) (env : Aliases) (e : Expr) (op : Binary) (first : Box Expr Global) (more : List Link) (x : Expr) (is : e.node ≡ node.Chain op first more) (same : x ≡ first.value) where
  chain_parted : judge_expr ts env (placed_expr e) ≡ and_then (judge_expr ts env (placed_expr x)) (λ k. judge_links ts env op k (map placed_link more))
  chain_parted =
      ap (judge_expr ts env) (expr_placed e ∙ ap (λ n. placed_node n e.place) is ∙ node_chain op first more e.place)
      ∙ chain_judged ts env op (placed_expr first.value) (map placed_link more)
      ∙ ap (λ y. and_then (judge_expr ts env (placed_expr y)) (λ k. judge_links ts env op k (map placed_link more))) (sym same)

  pub chain_faulty : (fault : ScopeFault) → Faults (judge_expr ts env (placed_expr x)) fault → Faults (judge_expr ts env (placed_expr e)) fault
  chain_faulty fault = faults_on (judge_expr ts env (placed_expr x)) (judge_expr ts env (placed_expr e)) fault (λ rule place broken.
      chain_parted ∙ ap (λ v. and_then v (λ k. judge_links ts env op k (map placed_link more))) broken)

  pub chain_gives : (k : ColumnType) (links : List Link) (r : Result ColumnType ScopeFault) → judge_expr ts env (placed_expr x) ≡ Fine k → links ≡ more → Gives r (judge_links ts env op k (map placed_link links)) → Gives r (judge_expr ts env (placed_expr e))
  chain_gives k links r fine alike = subst (λ (v : Verdict ColumnType). Gives r v)
      (ap (λ (l : List Link). judge_links ts env op k (map placed_link l)) alike
      ∙ sym (chain_parted ∙ ap (λ v. and_then v (λ k. judge_links ts env op k (map placed_link more))) fine))

-- the turns of the loop over links
module _ (ts : Shapes) (env : Aliases) (op : Binary) where
  abbrev pub links_left : ColumnType → List Link → Verdict ColumnType
  links_left k links = judge_links ts env op k (map placed_link links)

  links_next : (k : ColumnType) (link : Link) (more : List Link)
      → links_left k (link ∷ more) ≡ and_then (judge_expr ts env (placed_expr link.right)) (λ j. and_then (or_broken 5 link.place (binary_type op k j)) (λ i. links_left i more))
  links_next k link more = ap (λ (l : PlacedLink). judge_links ts env op k (l ∷ map placed_link more)) (link_placed link)

  module _ (k : ColumnType) (links : List Link) (i : ℕ) (link : Link) (all : Verdict ColumnType) (h : i < length links) (at : link ≡ get_or links i link) (same : links_left k (drop i links) ≡ all) where
    turn : all ≡ and_then (judge_expr ts env (placed_expr link.right)) (λ j. and_then (or_broken 5 link.place (binary_type op k j)) (λ t. links_left t (drop (i + 1) links)))
    turn = sym same ∙ ap (links_left k) (drop_step links i link h at) ∙ links_next k link (drop (i + 1) links)

    pub links_faulty : (e : ScopeFault) → Faults (judge_expr ts env (placed_expr link.right)) e → Faults all e
    links_faulty e = faults_on (judge_expr ts env (placed_expr link.right)) all e (λ rule place broken.
        turn ∙ ap (λ v. and_then v (λ j. and_then (or_broken 5 link.place (binary_type op k j)) (λ t. links_left t (drop (i + 1) links)))) broken)

    turn_fine : (j : ColumnType) → judge_expr ts env (placed_expr link.right) ≡ Fine j → all ≡ and_then (or_broken 5 link.place (binary_type op k j)) (λ t. links_left t (drop (i + 1) links))
    turn_fine j fine = turn ∙ ap (λ v. and_then v (λ j. and_then (or_broken 5 link.place (binary_type op k j)) (λ t. links_left t (drop (i + 1) links)))) fine

    pub links_broken : (j : ColumnType) (e : ScopeFault) → judge_expr ts env (placed_expr link.right) ≡ Fine j → Faults (or_broken 5 link.place (binary_type op k j)) e → Faults all e
    links_broken j e fine = faults_on (or_broken 5 link.place (binary_type op k j)) all e (λ rule place broken.
        turn_fine j fine ∙ ap (λ v. and_then v (λ t. links_left t (drop (i + 1) links))) broken)

    pub links_go_on : (j t : ColumnType) → judge_expr ts env (placed_expr link.right) ≡ Fine j → or_broken 5 link.place (binary_type op k j) ≡ Fine t → links_left t (drop (i + 1) links) ≡ all
    links_go_on j t fine given = sym (turn_fine j fine ∙ ap (λ v. and_then v (λ t. links_left t (drop (i + 1) links))) given)

  pub links_end : (k : ColumnType) (links : List Link) (i : ℕ) (all : Verdict ColumnType) → length links ≤ i → links_left k (drop i links) ≡ all → all ≡ Fine k
  links_end k links i all h same = sym same ∙ ap (links_left k) (drop_all i links h)

-- the place of a chain is that of its last link
last_place : (op : Binary) (first : PlacedExpr) (l : Link) (more : List Link) (link : Link) → slice_get (l ∷ more) (length more) ≡ Some link → expr_place (chain_at op first (map placed_link (l ∷ more))) ≡ link.place
last_place op first l [] link h =
    let same : l ≡ link = cc in
    ap (λ (p : PlacedLink). p.place) (link_placed l) ∙ ap (λ (z : Link). z.place) same
last_place op first l (m ∷ more) link h = last_place op (binary_at (placed_link l).place op first (placed_link l).right) m more link h

chain_place : (op : Binary) (first : PlacedExpr) (more : List Link) (link : Link) → slice_get more (length more - 1) ≡ Some link → expr_place (chain_at op first (map placed_link more)) ≡ link.place
chain_place op first [] link h = absurd (cc)
chain_place op first (l ∷ more) link h =
    let n : length (l ∷ more) - 1 ≡ length more = omega arith in last_place op first l more link (sym (ap (slice_get (l ∷ more)) n) ∙ h)

last_there : {A : Type 0} (x : A) (xs : List A) → slice_get (x ∷ xs) (length xs) ≡ None → ⊥
last_there x [] h = absurd (cc)
last_there x (y ∷ ys) h = last_there y ys h

no_last : {A : Type 0} (xs : List A) → slice_get xs (length xs - 1) ≡ None → xs ≡ []
no_last [] h = refl
no_last (x ∷ xs) h =
    let n : length (x ∷ xs) - 1 ≡ length xs = omega arith in absurd (last_there x xs (sym (ap (slice_get (x ∷ xs)) n) ∙ h))

module _ (e : Expr) (op : Binary) (first : Box Expr Global) (more : List Link) (is : e.node ≡ node.Chain op first more) where
  pub placed_so : placed_expr e ≡ chain_at op (placed_expr first.value) (map placed_link more)
  placed_so = expr_placed e ∙ ap (λ n. placed_node n e.place) is ∙ node_chain op first more e.place

  pub place_of_last : (links : List Link) (link : Link) → links ≡ more → slice_get links (length links - 1) ≡ Some link → link.place ≡ expr_place (placed_expr e)
  place_of_last links link same h =
      sym (ap expr_place (placed_so ∙ ap (λ (l : List Link). chain_at op (placed_expr first.value) (map placed_link l)) (sym same)) ∙ chain_place op (placed_expr first.value) links link h)

  pub place_of_first : (links : List Link) (x : Expr) (place : ℕ) → links ≡ more → slice_get links (length links - 1) ≡ None → x ≡ first.value → place ≡ expr_place (placed_expr x) → place ≡ expr_place (placed_expr e)
  place_of_first links x place same h alike is_its =
      is_its ∙ ap (λ y. expr_place (placed_expr y)) alike
      ∙ sym (ap expr_place (placed_so ∙ ap (λ (l : List Link). chain_at op (placed_expr first.value) (map placed_link l)) (sym same ∙ no_last links h)))
