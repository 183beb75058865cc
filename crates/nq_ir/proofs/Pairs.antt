-- The pairs of a shredded form are the spots of its parents, each with each of its children.
use Rattle.std.proofs.Common.{◌≡◌, ℕ, ◌<◌, List, [], ◌∷◌, ◌++◌, map, refl, sym, ap, ap₂, ◌∙◌, subst, subst₂, Bool, true, false, cond, filter, flat_map, nat_eq, arith, true≢false, append_assoc}
use Rattle.std.specs.List.{AllByRecursion as Each}
use Rattle.std.proofs.lemmas.Bool.Decides.{Decides-eqb}
use Rattle.nq_model.proofs.Bags.{reordered_append, reordered_refl, reordered_swap, reordered_sym, reordered_trans, matched_flat_map}
use Rattle.nq_model.specs.Bags.{Pick, Reordered, here, there}
use Rattle.nq_ir.specs.declared.base.Gen.{Gen}
use Rattle.nq_ir.specs.Among.{Among, first, later}
use Rattle.nq_ir.specs.Lets.{LetTree, lets_of}
use Rattle.nq_ir.specs.Meanings.{Env, Tables, kept}
use Rattle.nq_ir.specs.Shredded.{IsRising}
use Rattle.nq_ir.specs.Spots.{Child, Spot, StrandTree, children, children_of, outer_spots, shredded_rows, strand_rows}
use Rattle.nq_ir.specs.Trees.{Conds, no_cond}
use Rattle.nq_ir.specs.Written.{PairsAreChildren, let_spots, parent_spots}
use Rattle.nq_ir.proofs.Distinct.{Distinct, each_among}
use Rattle.nq_ir.proofs.Equal.{nat_differ, nat_same}
use Rattle.nq_ir.proofs.Insert.{Around, have_parents, lets_at, let_at, parents_rise}
use Rattle.nq_ir.proofs.Nested.{flat_flat, map_flat}

-- numbers that rise differ
rising_apart : (ns : List ℕ) → IsRising ns → Distinct ns
rising_apart [] r = tt
rising_apart (n ∷ ns) r = (others ns r.0, rising_apart ns r.1)
  where
    others : (ms : List ℕ) → Each (λ m. n < m) ms → Each (λ m. nat_eq n m ≡ false) ms
    others [] e = tt
    others (m ∷ ms) e = (nat_differ n m (λ (i : n ≡ m). let l : n < m = e.0 in absurd (omega (arith, i, l))), others ms e.1)

-- sums in the other order
flat_split : {A B : Type 0} (f g : A → List B) (xs : List A) → Reordered (flat_map (λ x. f x ++ g x) xs) (flat_map f xs ++ flat_map g xs)
flat_split f g [] = refl
flat_split f g (x ∷ xs) =
    subst (λ (l : List _). Reordered ((f x ++ g x) ++ flat_map (λ x. f x ++ g x) xs) l) (sym (append_assoc (f x) (flat_map f xs) (g x ++ flat_map g xs)))
    (subst (λ (l : List _). Reordered l (f x ++ (flat_map f xs ++ (g x ++ flat_map g xs)))) (sym (append_assoc (f x) (g x) (flat_map (λ x. f x ++ g x) xs)))
    (reordered_append (f x) (g x ++ flat_map (λ x. f x ++ g x) xs) (f x) (flat_map f xs ++ (g x ++ flat_map g xs)) (reordered_refl (f x)) (reordered_trans (g x ++ flat_map (λ x. f x ++ g x) xs) (g x ++ (flat_map f xs ++ flat_map g xs)) (flat_map f xs ++ (g x ++ flat_map g xs)) (reordered_append (g x) (flat_map (λ x. f x ++ g x) xs) (g x) (flat_map f xs ++ flat_map g xs) (reordered_refl (g x)) (flat_split f g xs)) (reordered_swap (g x) (flat_map f xs) (flat_map g xs)))))

flat_none : {A B : Type 0} (xs : List A) → ◌≡◌ {A = List B} (flat_map (λ (x : A). []) xs) []
flat_none [] = refl
flat_none (x ∷ xs) = flat_none xs

flat_turned : {A B C : Type 0} (f : A → B → List C) (xs : List A) (ys : List B) → Reordered (flat_map (λ x. flat_map (f x) ys) xs) (flat_map (λ y. flat_map (λ x. f x y) xs) ys)
flat_turned f [] ys = subst (λ (l : List _). Reordered [] l) (sym (flat_none ys)) refl
flat_turned f (x ∷ xs) ys =
    reordered_trans (flat_map (f x) ys ++ flat_map (λ x. flat_map (f x) ys) xs) (flat_map (f x) ys ++ flat_map (λ y. flat_map (λ x. f x y) xs) ys) (flat_map (λ y. f x y ++ flat_map (λ x. f x y) xs) ys)
    (reordered_append (flat_map (f x) ys) (flat_map (λ x. flat_map (f x) ys) xs) (flat_map (f x) ys) (flat_map (λ y. flat_map (λ x. f x y) xs) ys) (reordered_refl (flat_map (f x) ys)) (flat_turned f xs ys))
    (reordered_sym (flat_map (λ y. f x y ++ flat_map (λ x. f x y) xs) ys) (flat_map (f x) ys ++ flat_map (λ y. flat_map (λ x. f x y) xs) ys) (flat_split (f x) (λ y. flat_map (λ x. f x y) xs) ys))

-- a list, element by element, by equal lists of theirs in another order
flat_reordered : {A B : Type 0} (f g : A → List B) → ((x : A) → Reordered (f x) (g x)) → (xs : List A) → Reordered (flat_map f xs) (flat_map g xs)
flat_reordered f g h [] = refl
flat_reordered f g h (x ∷ xs) = reordered_append (f x) (flat_map f xs) (g x) (flat_map g xs) (h x) (flat_reordered f g h xs)

flat_each : {A B : Type 0} (P : A → Type 0) (f g : A → List B) → ((x : A) → P x → f x ≡ g x) → (xs : List A) → Each P xs → flat_map f xs ≡ flat_map g xs
flat_each P f g h [] e = refl
flat_each P f g h (x ∷ xs) e = ap₂ (λ (a b : List _). a ++ b) (h x e.0) (flat_each P f g h xs e.1)

pick_after : {A : Type 0} {y : A} {ys rest : List A} (xs : List A) → Pick y ys rest → Pick y (xs ++ ys) (xs ++ rest)
pick_after [] p = p
pick_after (x ∷ xs) p = there (pick_after xs p)

abbrev of_parent : List StrandTree → ℕ → List StrandTree
of_parent ds t = filter (λ d. nat_eq d.parent t) ds

skip_head : (d : StrandTree) (ds : List StrandTree) (ts : List ℕ) → Each (λ t. nat_eq d.parent t ≡ false) ts → flat_map (of_parent (d ∷ ds)) ts ≡ flat_map (of_parent ds) ts
skip_head d ds ts h = flat_each (λ t. nat_eq d.parent t ≡ false) (of_parent (d ∷ ds)) (of_parent ds) (λ t f. ap (λ b. cond b (d ∷ of_parent ds t) (of_parent ds t)) f) ts h

pick_of_parent : (d : StrandTree) (ds : List StrandTree) {t : ℕ} {ts : List ℕ} → Among t ts → t ≡ d.parent → Distinct ts → Pick d (flat_map (of_parent (d ∷ ds)) ts) (flat_map (of_parent ds) ts)
pick_of_parent d ds {t = t} (first {xs = ts}) i h =
    subst (λ (l : List StrandTree). Pick d l (of_parent ds t ++ flat_map (of_parent ds) ts)) (sym (ap₂ (λ b (l : List StrandTree). cond b (d ∷ of_parent ds t) (of_parent ds t) ++ l) (nat_same d.parent t (sym i)) (skip_head d ds ts (subst (λ z. Each (λ m. nat_eq z m ≡ false) ts) i h.0)))) here
pick_of_parent d ds {t = t} (later {y = y} {xs = ts} m) i h =
    let other : nat_eq y t ≡ false = each_among (λ n. nat_eq y n ≡ false) m h.0 in
    let away : nat_eq d.parent y ≡ false = nat_differ d.parent y (λ (k : d.parent ≡ y). absurd (true≢false (sym (nat_same y t (sym (i ∙ k))) ∙ other))) in
    subst (λ (l : List StrandTree). Pick d l (of_parent ds y ++ flat_map (of_parent ds) ts)) (sym (ap (λ b. cond b (d ∷ of_parent ds y) (of_parent ds y) ++ flat_map (of_parent (d ∷ ds)) ts) away)) (pick_after (of_parent ds y) (pick_of_parent d ds m i h.1))

-- strands by their parents
grouped : (P : List ℕ) → Distinct P → (ds : List StrandTree) → Each (λ d. Among d.parent P) ds → Reordered ds (flat_map (of_parent ds) P)
grouped P apart [] e = flat_none P
grouped P apart (d ∷ ds) e = (d, flat_map (of_parent ds) P, pick_of_parent d ds e.0 refl apart, refl, grouped P apart ds e.1)

-- the pairs of one strand below one spot
abbrev below : Tables → Spot → StrandTree → List (Spot × Child)
below ts s d = map (λ c. (s, c)) (children_of ts s.rows d)

filter_each : (t : ℕ) (ds : List StrandTree) → Each (λ d. d.parent ≡ t) (of_parent ds t)
filter_each t [] = tt
filter_each t (d ∷ ds) = go (nat_eq d.parent t) refl (filter_each t ds)
  where
    go : (b : Bool) → nat_eq d.parent t ≡ b → Each (λ d. d.parent ≡ t) (of_parent ds t) → Each (λ (d : StrandTree). d.parent ≡ t) (cond b (d ∷ of_parent ds t) (of_parent ds t))
    go true f e = ((Decides-eqb d.parent t).0 f, e)
    go false f e = e

module _ (ts : Tables) (info : ℕ → List Gen × Conds) (top : info 0 ≡ ([], no_cond)) where
  -- the spots of a tag
  abbrev spots_of : ℕ → List Spot
  spots_of t = map (λ e. record { tag = t; rows = e }) (kept ts (info t).0 (info t).1 [])

  abbrev rows_of : StrandTree → List (Spot × Child)
  rows_of d = flat_map (λ s. below ts s d) (spots_of d.parent)

  outer_are : (d : StrandTree) → Around info d → outer_spots ts d ≡ spots_of d.parent
  outer_are d a = ap₂ (λ (g : List Gen) (c : Conds). map (λ e. record { tag = d.parent; rows = e }) (kept ts g c [])) (sym a.0) (sym a.1)

  rows_are : (ds : List StrandTree) → Each (Around info) ds → shredded_rows ts ds ≡ flat_map rows_of ds
  rows_are ds a = flat_each (Around info) (strand_rows ts) rows_of (λ d h. ap (flat_map (λ s. below ts s d)) (outer_are d h)) ds a

  -- of one tag
  tag_rows : (ds : List StrandTree) (t : ℕ) → Reordered (flat_map rows_of (of_parent ds t)) (flat_map (λ s. map (λ c. (s, c)) (children ts ds s)) (spots_of t))
  tag_rows ds t =
      let here_ds = of_parent ds t in
      let one : flat_map rows_of here_ds ≡ flat_map (λ d. flat_map (λ s. below ts s d) (spots_of t)) here_ds = flat_each (λ (d : StrandTree). d.parent ≡ t) rows_of (λ d. flat_map (λ s. below ts s d) (spots_of t)) (λ d i. ap (λ u. flat_map (λ s. below ts s d) (spots_of u)) i) here_ds (filter_each t ds) in
      let turned : Reordered (flat_map (λ d. flat_map (λ s. below ts s d) (spots_of t)) here_ds) (flat_map (λ s. flat_map (λ d. below ts s d) here_ds) (spots_of t)) = flat_turned (λ d s. below ts s d) here_ds (spots_of t) in
      subst (λ (l : List (Spot × Child)). Reordered l (flat_map (λ s. map (λ c. (s, c)) (children ts ds s)) (spots_of t))) (sym one)
      (subst (λ (l : List (Spot × Child)). Reordered (flat_map (λ d. flat_map (λ s. below ts s d) (spots_of t)) here_ds) l) (by_spot (kept ts (info t).0 (info t).1 [])) turned)
    where
      by_spot : (es : List Env) → flat_map (λ s. flat_map (λ d. below ts s d) (of_parent ds t)) (map (λ e. record { tag = t; rows = e }) es) ≡ flat_map (λ s. map (λ c. (s, c)) (children ts ds s)) (map (λ e. record { tag = t; rows = e }) es)
      by_spot [] = refl
      by_spot (e ∷ es) = ap₂ (λ (x y : List (Spot × Child)). x ++ y) (sym (map_flat (λ c. (record { tag = t; rows = e }, c)) (children_of ts e) (of_parent ds t))) (by_spot es)

  all_tags_rows : (ds : List StrandTree) (P : List ℕ) → Reordered (flat_map rows_of (flat_map (of_parent ds) P)) (flat_map (λ s. map (λ c. (s, c)) (children ts ds s)) (flat_map spots_of P))
  all_tags_rows ds P =
      subst₂ (λ (x y : List (Spot × Child)). Reordered x y) (sym (flat_flat rows_of (of_parent ds) P)) (sym (flat_flat (λ s. map (λ c. (s, c)) (children ts ds s)) spots_of P)) (flat_reordered (λ t. flat_map rows_of (of_parent ds t)) (λ t. flat_map (λ s. map (λ c. (s, c)) (children ts ds s)) (spots_of t)) (tag_rows ds) P)

  abbrev parents : List StrandTree → List ℕ
  parents ds = 0 ∷ map (λ l. l.parent) (lets_of ds)

  lets_spots : (ls : List LetTree) → Each (λ l. l ≡ let_at info l.parent) ls → flat_map (let_spots ts) ls ≡ flat_map spots_of (map (λ l. l.parent) ls)
  lets_spots [] e = refl
  lets_spots (l ∷ ls) e = ap₂ (λ (x y : List Spot). x ++ y) (ap (let_spots ts) e.0) (lets_spots ls e.1)

  parent_are : (ds : List StrandTree) → Each (Around info) ds → parent_spots ts ds ≡ flat_map spots_of (parents ds)
  parent_are ds a = ap₂ (λ (x y : List Spot). x ++ y) (ap (λ (z : List Gen × Conds). map (λ e. record { tag = 0; rows = e }) (kept ts z.0 z.1 [])) (sym top)) (lets_spots (lets_of ds) (lets_at info ds a))

  pub pairs : (ds : List StrandTree) → Each (Around info) ds → PairsAreChildren ts ds
  pairs ds a =
      let P = parents ds in
      let mixed : Reordered ds (flat_map (of_parent ds) P) = grouped P (rising_apart P (parents_rise ds)) ds (have_parents ds) in
      let rows : Reordered (flat_map rows_of ds) (flat_map rows_of (flat_map (of_parent ds) P)) = matched_flat_map (λ x y. x ≡ y) (λ x y. x ≡ y) rows_of rows_of (λ x y e. subst (λ z. Reordered (rows_of x) (rows_of z)) e (reordered_refl (rows_of x))) ds (flat_map (of_parent ds) P) mixed in
      subst₂ (λ (x : List (Spot × Child)) (y : List Spot). Reordered x (flat_map (λ s. map (λ c. (s, c)) (children ts ds s)) y)) (sym (rows_are ds a)) (sym (parent_are ds a)) (reordered_trans (flat_map rows_of ds) (flat_map rows_of (flat_map (of_parent ds) P)) (flat_map (λ s. map (λ c. (s, c)) (children ts ds s)) (flat_map spots_of P)) rows (all_tags_rows ds P))
