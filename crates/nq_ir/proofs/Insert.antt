-- The parts of a let form are its strands again, each on its parent's let, and there is one let for each parent.
use Rattle.std.proofs.Common.{◌≡◌, ℕ, zero, suc, ◌<◌, ◌≤◌, List, [], ◌∷◌, map, refl, sym, ap, ap₂, ◌∙◌, subst, Bool, true, false, cond, nat_eq, length, get_or, arith, inl, inr, ⊎_elim, ◌⊎◌, true≢false}
use Rattle.std.proofs.lemmas.Bool.Decides.{Decides-eqb}
use Rattle.std.specs.List.{AllByRecursion as Each}
use Rattle.nq_ir.proofs.Ascending.{Ascends, differ_turned, sorted_ascends, strictly}
use Rattle.nq_ir.proofs.Distinct.{Among, first, later}
use Rattle.nq_ir.proofs.Equal.{nat_same}
use Rattle.nq_ir.specs.Lets.{LetTree, by_parent, let_around, let_number, let_of, lets_after, lets_before, lets_of, no_let, part_from, parts_on, strand_of}
use Rattle.nq_ir.specs.Shredded.{IsRising}
use Rattle.nq_ir.specs.Spots.{StrandTree}
use Rattle.nq_ir.specs.Trees.{Conds, no_cond}
use Rattle.nq_ir.specs.declared.base.Gen.{Gen}
use Rattle.nq_model.proofs.Bags.{reordered_sym}
use Rattle.nq_model.proofs.Canonical.{reordered_sorted}
use Rattle.nq_model.proofs.Numberings.{each_map, each_reordered}
use Rattle.nq_model.specs.Bags.{Reordered}

parents_reordered : (ds : List StrandTree) → Reordered ds (by_parent ds)
parents_reordered ds = reordered_sorted _ ds

-- what holds of each strand's let holds of each let
lets_each : (P : LetTree → Type 0) (ds : List StrandTree) (last : ℕ) → Each (λ d. P (let_around d)) ds → Each P (lets_after last ds)
lets_each P [] last e = tt
lets_each P (d ∷ ds) last e = go (nat_eq d.parent last) (lets_each P ds last e.1) (lets_each P ds d.parent e.1)
  where
    go : (b : Bool) → Each P (lets_after last ds) → Each P (lets_after d.parent ds) → Each P (cond b (lets_after last ds) (let_around d ∷ lets_after d.parent ds))
    go true s o = s
    go false s o = (e.0, o)

pub each_let : (P : LetTree → Type 0) (ds : List StrandTree) → Each (λ d. P (let_around d)) ds → Each P (lets_of ds)
each_let P ds e = lets_each P (by_parent ds) 0 (each_reordered (λ d. P (let_around d)) ds (by_parent ds) (parents_reordered ds) e)

abbrev parent_of : LetTree → ℕ
parent_of l = l.parent

-- each strand's parent is the last one or has a let
Served : ℕ → List StrandTree → ℕ → Type 0
Served last ds t = (t ≡ last) ⊎ Among t (map parent_of (lets_after last ds))

served : (ds : List StrandTree) (last : ℕ) → Each (λ d. Served last ds d.parent) ds
unfolding Served
served [] last = tt
served (d ∷ ds) last = go (nat_eq d.parent last) refl (served ds last) (served ds d.parent)
  where
    go : (b : Bool) → nat_eq d.parent last ≡ b → Each (λ e. (e.parent ≡ last) ⊎ Among e.parent (map parent_of (lets_after last ds))) ds → Each (λ e. (e.parent ≡ d.parent) ⊎ Among e.parent (map parent_of (lets_after d.parent ds))) ds
        → Each (λ e. (e.parent ≡ last) ⊎ Among e.parent (map parent_of (cond b (lets_after last ds) (let_around d ∷ lets_after d.parent ds)))) (d ∷ ds)
    go true e s o = (inl ((Decides-eqb d.parent last).0 e), s)
    go false e s o = (
      inr first,
      each_map (λ e. (e.parent ≡ d.parent) ⊎ Among e.parent (map parent_of (lets_after d.parent ds))) (λ e. (e.parent ≡ last) ⊎ Among e.parent (d.parent ∷ map parent_of (lets_after d.parent ds)))
          (λ e h. ⊎_elim (λ i. inr (subst (λ t. Among e.parent (t ∷ map parent_of (lets_after d.parent ds))) i first)) (λ m. inr (later m)) h) ds o,
    )

abbrev HasLet : List LetTree → ℕ → Type 0
HasLet lets t = (t ≡ 0) ⊎ Among t (map parent_of lets)

have_lets : (ds : List StrandTree) → Each (λ d. HasLet (lets_of ds) d.parent) ds
unfolding Served
have_lets ds = each_reordered (λ d. HasLet (lets_of ds) d.parent) (by_parent ds) ds (reordered_sym ds (by_parent ds) (parents_reordered ds)) (served (by_parent ds) 0)

pub have_parents : (ds : List StrandTree) → Each (λ d. Among d.parent (0 ∷ map (λ l. l.parent) (lets_of ds))) ds
have_parents ds =
    each_map (λ d. HasLet (lets_of ds) d.parent) (λ d. Among d.parent (0 ∷ map parent_of (lets_of ds))) (λ d h. ⊎_elim (λ i. subst (λ t. Among d.parent (t ∷ map parent_of (lets_of ds))) i first) (λ m. later m) h) ds (have_lets ds)

-- the let of a parent
let_there : (P : LetTree → Type 0) (t : ℕ) (lets : List LetTree) → Each P lets → Among t (map parent_of lets) → P (get_or lets (lets_before t lets) no_let) × ((get_or lets (lets_before t lets) no_let).parent ≡ t) × (lets_before t lets < length lets)
let_there P t [] e m = elim m [ ]
let_there P t (l ∷ lets) e m = go (nat_eq t l.parent) refl (λ k. let_there P t lets e.1 k)
  where
    rest : nat_eq t l.parent ≡ false → (x : ℕ) (xs : List ℕ) → Among t (x ∷ xs) → x ≡ l.parent → Among t xs
    rest f x xs first e = absurd (true≢false (sym (nat_same t l.parent e) ∙ f))
    rest f x xs (later k) e = k

    go : (b : Bool) → nat_eq t l.parent ≡ b → (Among t (map parent_of lets) → P (get_or lets (lets_before t lets) no_let) × ((get_or lets (lets_before t lets) no_let).parent ≡ t) × (lets_before t lets < length lets))
        → P (get_or (l ∷ lets) (cond b 0 (suc (lets_before t lets))) no_let) × ((get_or (l ∷ lets) (cond b 0 (suc (lets_before t lets))) no_let).parent ≡ t) × (cond b 0 (suc (lets_before t lets)) < suc (length lets))
    go true f later_let = (e.0, sym ((Decides-eqb t l.parent).0 f), omega arith)
    go false f later_let = let r = later_let (rest f l.parent (map parent_of lets) m refl) in (r.0, r.1, omega (arith, r.2))

-- the parent's tag tells the generators and conditions around
module _ (info : ℕ → List Gen × Conds) where
  abbrev pub Around : StrandTree → Type 0
  Around d = (info d.parent).0 ≡ d.outer_gens × (info d.parent).1 ≡ d.outer_conds

  abbrev pub let_at : ℕ → LetTree
  let_at t = record { parent = t; gens = (info t).0; conds = (info t).1 }

  around_let : (d : StrandTree) → Around d → let_around d ≡ let_at d.parent
  around_let d a = ap₂ (λ (g : List Gen) (c : Conds). record { parent = d.parent; gens = g; conds = c }) (sym a.0) (sym a.1)

  same_strand : (lets : List LetTree) (k : ℕ) (d : StrandTree) → let_of lets k ≡ let_at d.parent → Around d → strand_of lets (part_from k d) ≡ d
  same_strand lets k d e a =
      ap (λ (l : LetTree). record { parent = l.parent; outer_gens = l.gens; outer_conds = l.conds; tag = d.tag; gens = d.gens; conds = d.conds; shape = d.shape }) e
      ∙ ap₂ (λ (g : List Gen) (c : Conds). record { parent = d.parent; outer_gens = g; outer_conds = c; tag = d.tag; gens = d.gens; conds = d.conds; shape = d.shape }) a.0 a.1

  -- the number of a parent's let leads to it
  number_leads : (lets : List LetTree) → info 0 ≡ ([], no_cond) → Each (λ l. l ≡ let_at l.parent) lets → (t : ℕ) → HasLet lets t → let_of lets (let_number lets t) ≡ let_at t
  number_leads lets top e zero h = ap (λ (x : List Gen × Conds). record { parent = 0; gens = x.0; conds = x.1 }) (sym top)
  number_leads lets top e (suc t) h =
      let r = let_there (λ l. l ≡ let_at l.parent) (suc t) lets e (⊎_elim (λ (z : suc t ≡ 0). absurd (omega (arith, z))) (λ m. m) h) in
      r.0 ∙ ap let_at r.1

  parts_are : (lets : List LetTree) → info 0 ≡ ([], no_cond) → Each (λ l. l ≡ let_at l.parent) lets → (ds : List StrandTree) → Each (λ d. HasLet lets d.parent) ds → Each Around ds → map (strand_of lets) (parts_on lets ds) ≡ ds
  parts_are lets top e [] h a = refl
  parts_are lets top e (d ∷ ds) h a =
      ap₂ (λ (x : StrandTree) (z : List StrandTree). x ∷ z) (same_strand lets (let_number lets d.parent) d (number_leads lets top e d.parent h.0) a.0) (parts_are lets top e ds h.1 a.1)

  pub lets_at : (here : List StrandTree) → Each Around here → Each (λ l. l ≡ let_at l.parent) (lets_of here)
  lets_at here a = each_let (λ l. l ≡ let_at l.parent) here (each_map Around (λ d. let_around d ≡ let_at d.parent) around_let here a)

  -- the parts are the strands
  pub strands_again : (here : List StrandTree) → info 0 ≡ ([], no_cond) → Each Around here → map (strand_of (lets_of here)) (parts_on (lets_of here) here) ≡ here
  strands_again here top a =
      parts_are (lets_of here) top (lets_at here a) here (have_lets here) a

-- each part has its let
number_known : (lets : List LetTree) (t : ℕ) → HasLet lets t → let_number lets t ≤ length lets
number_known lets zero h = omega arith
number_known lets (suc t) h =
    let r = let_there (λ l. Unit {0}) (suc t) lets (all lets) (⊎_elim (λ (z : suc t ≡ 0). absurd (omega (arith, z))) (λ m. m) h) in
    omega (arith, r.2)
  where
    all : (ls : List LetTree) → Each (λ l. Unit {0}) ls
    all [] = tt
    all (l ∷ ls) = (tt, all ls)

parts_known : (lets : List LetTree) (ds : List StrandTree) → Each (λ d. HasLet lets d.parent) ds → Each (λ p. p.from ≤ length lets) (parts_on lets ds)
parts_known lets [] h = tt
parts_known lets (d ∷ ds) h = (number_known lets d.parent h.0, parts_known lets ds h.1)

pub lets_known : (here : List StrandTree) → Each (λ p. p.from ≤ length (lets_of here)) (parts_on (lets_of here) here)
lets_known here = parts_known (lets_of here) here (have_lets here)

each_parent : (P : ℕ → Type 0) (lets : List LetTree) → Each (λ l. P l.parent) lets → Each P (map parent_of lets)
each_parent P [] e = tt
each_parent P (l ∷ lets) e = (e.0, each_parent P lets e.1)

-- the parents rise
lets_rise : (ds : List StrandTree) (last : ℕ) → Each (λ d. last ≤ d.parent) ds → Ascends (λ (d : StrandTree). d.parent) ds → Each (λ l. last < l.parent) (lets_after last ds) × IsRising (map parent_of (lets_after last ds))
lets_rise [] last e a = (tt, tt)
lets_rise (d ∷ ds) last e a = go (nat_eq d.parent last) refl (lets_rise ds last e.1 a.1) (lets_rise ds d.parent a.0 a.1)
  where
    go : (b : Bool) → nat_eq d.parent last ≡ b → Each (λ l. last < l.parent) (lets_after last ds) × IsRising (map parent_of (lets_after last ds)) → Each (λ l. d.parent < l.parent) (lets_after d.parent ds) × IsRising (map parent_of (lets_after d.parent ds))
        → Each (λ l. last < l.parent) (cond b (lets_after last ds) (let_around d ∷ lets_after d.parent ds)) × IsRising (map parent_of (cond b (lets_after last ds) (let_around d ∷ lets_after d.parent ds)))
    go true f s o = s
    go false f s o =
        let low : last < d.parent = strictly last d.parent e.0 (differ_turned d.parent last f) in
        ((low, each_map (λ l. d.parent < l.parent) (λ l. last < l.parent) (λ l (h : d.parent < l.parent). omega (arith, h, low)) (lets_after d.parent ds) o.0), (each_parent (λ m. d.parent < m) (lets_after d.parent ds) o.0, o.1))

all_above : (ds : List StrandTree) → Each (λ d. 0 ≤ d.parent) ds
all_above [] = tt
all_above (d ∷ ds) = (omega arith, all_above ds)

-- the lets stand in the order of their parents, each parent once, and 0 is none of them
pub parents_rise : (here : List StrandTree) → IsRising (0 ∷ map parent_of (lets_of here))
parents_rise here =
    let r = lets_rise (by_parent here) 0 (all_above (by_parent here)) (sorted_ascends (λ (d : StrandTree). d.parent) here) in
    (each_parent (λ m. 0 < m) (lets_of here) r.0, r.1)
