-- Chains of operations: their levels, their totals and their texts.
use Rattle.std.proofs.Common.{◌≡◌, ℕ, zero, suc, ◌+◌, Bool, true, false, ◌||◌, List, [], ◌∷◌, ◌++◌, codes, length, map, refl, sym, ap, ◌∙◌, append_assoc, append-nil, arith, Box, Global}
use Rattle.std.specs.List.{list_any}
use Rattle.nq_model.specs.declared.term.Binary.{Binary}
use Rattle.nq_ir.specs.declared.base.Base.{Base}
use Rattle.nq_ir.specs.declared.base.Base.TheVariants as base
use Rattle.nq_ir.specs.Trees.{BaseTree, base_tree, chain as tree_chain}
use Rattle.nq_ir.specs.Printed.{NamedTerm, binary, fenced, has_total, left_level, level, level_of, named_base, text_of, word_of}
use Rattle.nq_ir.proofs.Forms.{base_chain}
use Rattle.normal_printer.specs.Chains.{chain_rest, chain_start, closing, is_bare, opening, openings}
use Rattle.normal_printer.specs.Parts.{text_at}
use Rattle.normal_printer.proofs.Joined.{chain, cond_term}

named_chain : (op : Binary) (a : BaseTree) (bs : List Base) → named_base (tree_chain op a (map base_tree bs)) ≡ chain (binary op) (named_base a) (map cond_term bs)
named_chain op a [] = refl
named_chain op a (b ∷ bs) = named_chain op (BaseTree.binary op a (base_tree b)) bs

chain_is : (op : Binary) (a : Box Base Global) (bs : List Base) → cond_term (base.Chain op a bs) ≡ chain (binary op) (cond_term a.value) (map cond_term bs)
chain_is op a bs = ap named_base (base_chain op a bs) ∙ named_chain op (base_tree a.value) bs

-- the level of a chain is that of its operator
level_joined : (op : Binary) (s t : NamedTerm) (ts : List NamedTerm) → level (chain (binary op) s (t ∷ ts)) ≡ level_of op
level_joined op s t [] = refl
level_joined op s t (u ∷ ts) = level_joined op (binary op s t) u ts

pub level_chained : (op : Binary) (a : Box Base Global) (bs : List Base) → (bs ≡ [] → ⊥) → level (cond_term (base.Chain op a bs)) ≡ level_of op
level_chained op a [] some = absurd (some refl)
level_chained op a (b ∷ bs) some = ap level (chain_is op a (b ∷ bs)) ∙ level_joined op (cond_term a.value) (cond_term b) (map cond_term bs)

pub or_none : (b : Bool) → b ≡ (b || false)
or_none true = refl
or_none false = refl

pub or_assoc : (a b c : Bool) → ((a || b) || c) ≡ (a || (b || c))
or_assoc true b c = refl
or_assoc false b c = refl

joined_total : (op : Binary) (s : NamedTerm) (bs : List Base) → has_total (chain (binary op) s (map cond_term bs)) ≡ (has_total s || list_any (λ b. has_total (cond_term b)) bs)
joined_total op s [] = or_none (has_total s)
joined_total op s (b ∷ bs) = joined_total op (binary op s (cond_term b)) bs ∙ or_assoc (has_total s) (has_total (cond_term b)) (list_any (λ b. has_total (cond_term b)) bs)

pub chained_total : (op : Binary) (a : Box Base Global) (bs : List Base) → has_total (named_base (base_tree (base.Chain op a bs))) ≡ (has_total (named_base (base_tree a.value)) || list_any (λ b. has_total (named_base (base_tree b))) bs)
chained_total op a bs = ap has_total (chain_is op a bs) ∙ joined_total op (cond_term a.value) bs

pub bare_openings : (n : ℕ) → openings true n ≡ []
bare_openings zero = refl
bare_openings (suc n) = bare_openings n

openings_more : (bare : Bool) (n : ℕ) → openings bare (suc n) ≡ openings bare n ++ opening bare
openings_more bare zero = append-nil (opening bare)
openings_more bare (suc n) = ap (λ (l : List ℕ). opening bare ++ l) (openings_more bare n) ∙ sym (append_assoc (opening bare) (openings bare n) (opening bare))

-- a parenthesis more
pub opened : (n : ℕ) (start old new : List ℕ) → old ≡ start ++ openings false n → new ≡ old ++ codes "(" → new ≡ start ++ openings false (n + 1)
opened n start old new e f =
    let more : suc n ≡ n + 1 = omega arith in
    f ∙ ap (λ (l : List ℕ). l ++ codes "(") e ∙ append_assoc start (openings false n) (codes "(") ∙ ap (λ (l : List ℕ). start ++ l) (sym (openings_more false n)) ∙ ap (λ m. start ++ openings false m) more

fenced_is : (bare : Bool) (t : List ℕ) → fenced bare t ≡ opening bare ++ (t ++ closing bare)
fenced_is true t = sym (append-nil t)
fenced_is false t = refl

-- from the second place on, no place differs from the next
places_alike : (op : Binary) (p q : ℕ) (bs : List Base) → chain_rest op (suc p) bs ≡ chain_rest op (suc q) bs
places_alike op p q [] = refl
places_alike op p q (b ∷ bs) =
    let e : suc p + 1 ≡ suc (suc p) = omega arith in
    let f : suc (suc q) ≡ suc q + 1 = omega arith in
    ap (λ (l : List ℕ). (closing (is_bare op) ++ word_of op) ++ (text_at (suc (level_of op)) (cond_term b) ++ l)) (ap (λ k. chain_rest op k bs) e ∙ places_alike op (suc p) (suc q) bs ∙ ap (λ k. chain_rest op k bs) f)

pieces : (o p a w b c t r : List ℕ) → o ++ ((p ++ ((a ++ (w ++ b)) ++ c)) ++ (w ++ (t ++ r))) ≡ (o ++ p) ++ (a ++ (w ++ (b ++ ((c ++ w) ++ (t ++ r)))))
pieces o p a w b c t r = simp append_assoc

chain_text : (op : Binary) (s : NamedTerm) (b : Base) (bs : List Base) → text_of (chain (binary op) s (map cond_term (b ∷ bs))) ≡ openings (is_bare op) (length bs) ++ (text_at (left_level op) s ++ chain_rest op 0 (b ∷ bs))
chain_text op s b [] = ap (λ (l : List ℕ). text_at (left_level op) s ++ (word_of op ++ l)) (sym (append-nil (text_at (suc (level_of op)) (cond_term b))))
chain_text op s b (c ∷ bs) =
    let right = text_at (suc (level_of op)) (cond_term b) in
    let next = text_at (suc (level_of op)) (cond_term c) in
    let bare = is_bare op in
    let before = openings bare (length bs) in
    chain_text op (binary op s (cond_term b)) c bs
    ∙ ap (λ (l : List ℕ). before ++ (l ++ (word_of op ++ (next ++ chain_rest op 1 bs)))) (fenced_is bare (text_of (binary op s (cond_term b))))
    ∙ ap (λ (l : List ℕ). before ++ ((opening bare ++ (text_of (binary op s (cond_term b)) ++ closing bare)) ++ (word_of op ++ (next ++ l)))) (places_alike op 0 1 bs)
    ∙ pieces before (opening bare) (text_at (left_level op) s) (word_of op) right (closing bare) next (chain_rest op 2 bs)
    ∙ ap (λ (l : List ℕ). l ++ (text_at (left_level op) s ++ chain_rest op 0 (b ∷ c ∷ bs))) (sym (openings_more bare (length bs)))

two_parts : (op : Binary) (s : NamedTerm) (bs : List Base) → text_of (chain (binary op) s (map cond_term bs)) ≡ chain_start op (length bs) s ++ chain_rest op 0 bs
two_parts op s [] = sym (append-nil (text_of s))
two_parts op s (b ∷ bs) = chain_text op s b bs ∙ sym (append_assoc (openings (is_bare op) (length bs)) (text_at (left_level op) s) (chain_rest op 0 (b ∷ bs)))

-- the first part, and then the others
pub chain_written : (x : Base) (op : Binary) (a : Box Base Global) (bs : List Base) (v : Base) (count : ℕ) (more : List Base) (old mid new : List ℕ) → x ≡ base.Chain op a bs → v ≡ a.value → count ≡ length bs → more ≡ bs
    → mid ≡ old ++ chain_start op count (named_base (base_tree v)) → new ≡ mid ++ chain_rest op 0 more → new ≡ old ++ text_of (named_base (base_tree x))
chain_written x op a bs v count more old mid new is at many same p q =
    q ∙ ap (λ (l : List ℕ). l ++ chain_rest op 0 more) p
    ∙ append_assoc old (chain_start op count (cond_term v)) (chain_rest op 0 more)
    ∙ ap (λ n. old ++ (chain_start op n (cond_term v) ++ chain_rest op 0 more)) many
    ∙ ap (λ z. old ++ (chain_start op (length bs) (cond_term z) ++ chain_rest op 0 more)) at
    ∙ ap (λ (l : List Base). old ++ (chain_start op (length bs) (cond_term a.value) ++ chain_rest op 0 l)) same
    ∙ ap (λ (l : List ℕ). old ++ l) (sym (two_parts op (cond_term a.value) bs) ∙ ap text_of (sym (chain_is op a bs)))
    ∙ ap (λ z. old ++ text_of (named_base (base_tree z))) (sym is)
