-- Operations of one kind, as chains.
use Rattle.std.proofs.Common.{◌≡◌, ℕ, ◌+◌, ◌<◌, Bool, List, [], ◌∷◌, ◌++◌, map, reverse, take, length, get_or, Box, Global, refl, sym, ap, ap₂, ◌∙◌}
use Rattle.std.proofs.lemmas.List.{map-append, reverse-append, take_more}
use Rattle.nq_model.specs.declared.term.Binary.{Binary}
use Rattle.nq_model.specs.declared.term.Binary.TheVariants.{And}
use Rattle.nq_ir.specs.declared.base.Base.{Base}
use Rattle.nq_ir.specs.declared.base.Base.TheVariants as base
use Rattle.nq_ir.specs.Trees.{BaseTree, base_tree, chain as base_chained, conds_of}
use Rattle.nq_ir.proofs.Forms.{base_binary, base_chain}
use Rattle.sql_profile.specs.declared.tree.Expr.{Expr}
use Rattle.sql_profile.specs.declared.tree.Link.{Link}
use Rattle.sql_profile.specs.Trees.{ExprTree, chain, expr_tree, link_tree}
use Rattle.flatten.specs.Exprs.{base_expr, joined}
use Rattle.flatten.proofs.Built.{link_built}

-- conditions that are joined to an expression are links behind it
pub joined_is : (outer : ℕ → Bool) (e : ExprTree) (bs : List BaseTree) → joined outer e (conds_of bs) ≡ chain And e (map (base_expr outer) bs)
joined_is outer e [] = refl
joined_is outer e (b ∷ bs) = joined_is outer (ExprTree.binary And e (base_expr outer b)) bs

-- no condition is left
pub one_joined : (outer : ℕ → Bool) (e : ExprTree) (bs : List Base) → bs ≡ [] → e ≡ joined outer e (conds_of (map base_tree bs))
one_joined outer e bs none = ap (λ (l : List Base). joined outer e (conds_of (map base_tree l))) (sym none)

-- all conditions are links
pub all_joined : (outer : ℕ → Bool) (e f : ExprTree) (bs : List Base) (links : List Link) → e ≡ f → map link_tree links ≡ map (base_expr outer) (map base_tree bs) → chain And e (map link_tree links) ≡ joined outer f (conds_of (map base_tree bs))
all_joined outer e f bs links first rest = ap₂ (chain And) first rest ∙ sym (joined_is outer f (map base_tree bs))

-- one part more is one link more
pub link_more : (outer : ℕ → Bool) (links more : List Link) (bs : List Base) (i : ℕ) (b : Base) (e : Expr) (p : ℕ) → i < length bs → b ≡ get_or bs i b → map link_tree links ≡ map (base_expr outer) (map base_tree (take i bs))
    → expr_tree e ≡ base_expr outer (base_tree b) → more ≡ links ++ record { place = p; right = e } ∷ [] → map link_tree more ≡ map (base_expr outer) (map base_tree (take (i + 1) bs))
link_more outer links more bs i b e p h at so_far made put =
    let taken : take (i + 1) bs ≡ take i bs ++ b ∷ [] = take_more bs i b h ∙ ap (λ x. take i bs ++ x ∷ []) (sym at) in
    ap (map link_tree) put ∙ map-append link_tree links (record { place = p; right = e } ∷ [])
    ∙ ap₂ (λ (l : List ExprTree) (t : ExprTree). l ++ t ∷ []) so_far (link_built p e ∙ made)
    ∙ sym (ap (λ l. map (base_expr outer) (map base_tree l)) taken ∙ ap (map (base_expr outer)) (map-append base_tree (take i bs) (b ∷ []))
    ∙ map-append (base_expr outer) (map base_tree (take i bs)) (base_tree b ∷ []))

chained_is : (outer : ℕ → Bool) (op : Binary) (b : BaseTree) (bs : List BaseTree) → base_expr outer (base_chained op b bs) ≡ chain op (base_expr outer b) (map (base_expr outer) bs)
chained_is outer op b [] = refl
chained_is outer op b (c ∷ bs) = chained_is outer op (BaseTree.binary op b c) bs

-- the parts of a chain behind the first are links
pub chain_linked : (outer : ℕ → Bool) (op : Binary) (first : Box Base Global) (more : List Base) (whole : Base) (b : Base) (bs : List Base) (e : Expr) (links : List Link) → whole ≡ base.Chain op first more → b ≡ first.value → bs ≡ more
    → expr_tree e ≡ base_expr outer (base_tree b) → map link_tree links ≡ map (base_expr outer) (map base_tree bs) → chain op (expr_tree e) (map link_tree links) ≡ base_expr outer (base_tree whole)
chain_linked outer op first more whole b bs e links is at same begun rest =
    ap₂ (chain op) (begun ∙ ap (λ x. base_expr outer (base_tree x)) at) (rest ∙ ap (λ (l : List Base). map (base_expr outer) (map base_tree l)) same)
    ∙ sym (ap (λ x. base_expr outer (base_tree x)) is ∙ ap (base_expr outer) (base_chain op first more) ∙ chained_is outer op (base_tree first.value) (map base_tree more))

map_reverse : {A B : Type 0} (f : A → B) (xs : List A) → map f (reverse xs) ≡ reverse (map f xs)
map_reverse f [] = refl
map_reverse f (x ∷ xs) =
    ap (map f) (reverse-append (x ∷ []) xs) ∙ map-append f (reverse xs) (x ∷ []) ∙ ap (λ l. l ++ f x ∷ []) (map_reverse f xs)
    ∙ sym (reverse-append (f x ∷ []) (map f xs))

module _ (outer : ℕ → Bool) (op : Binary) where
  -- the term as a chain of what is left of it, with the links that were found, from the last to the first
  abbrev pub spine : Base → List Link → ExprTree
  spine left links = chain op (base_expr outer (base_tree left)) (reverse (map link_tree links))

  pub spine_more : (own : Binary) (left : Base) (before right : Box Base Global) (links more : List Link) (place : ℕ) (made : Expr) (b r : Base) (all : ExprTree) → left ≡ base.Binary own before right → own ≡ op → b ≡ before.value → r ≡ right.value
      → expr_tree made ≡ base_expr outer (base_tree r) → more ≡ links ++ record { place = place; right = made } ∷ [] → spine left links ≡ all → spine b more ≡ all
  spine_more own left before right links more place made b r all is same at_left at_right made_so put so_far =
      let link : Link = record { place = place; right = made } in
      let l = base_expr outer (base_tree before.value) in
      let found = reverse (map link_tree links) in
      ap₂ (λ (x : Base) (ls : List Link). spine x ls) at_left put
      ∙ ap (chain op l) (ap reverse (map-append link_tree links (link ∷ [])) ∙ reverse-append (map link_tree links) (link_tree link ∷ []))
      ∙ ap (λ t. chain op l (t ∷ found)) (link_built place made ∙ made_so ∙ ap (λ x. base_expr outer (base_tree x)) at_right)
      ∙ ap (λ o. chain op (ExprTree.binary o l (base_expr outer (base_tree right.value))) found) (sym same)
      ∙ sym (ap (λ t. chain op (base_expr outer t) found) (ap base_tree is ∙ base_binary own before right))
      ∙ so_far

  pub spine_end : (left : Base) (links turned : List Link) (first : Expr) (all : ExprTree) → expr_tree first ≡ base_expr outer (base_tree left) → turned ≡ reverse links → spine left links ≡ all → chain op (expr_tree first) (map link_tree turned) ≡ all
  spine_end left links turned first all is back so_far =
      ap₂ (chain op) is (ap (map link_tree) back ∙ map_reverse link_tree links) ∙ so_far
