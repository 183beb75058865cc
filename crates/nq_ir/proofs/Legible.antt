-- Tag and number read every answer that a let form allows.
use Rattle.std.proofs.Common.{◌≡◌, ℕ, zero, suc, ◌+◌, ◌<◌, ◌≤◌, List, [], ◌∷◌, ◌++◌, map, refl, sym, ap, ap₂, ◌∙◌, subst, Bool, true, false, cond, length, arith, filter, flat_map, nat_eq, get_or, append-nil, ◌&&◌, zip, inl, inr, ⊎_elim, ◌⊎◌, subst₂}
use Rattle.std.proofs.lemmas.List.Elements.{filter-append}
use Rattle.std.proofs.lemmas.List.{map-append}
use Rattle.std.proofs.lemmas.Bool.Decides.{Decides-eqb}
use Rattle.nq_ir.proofs.Distinct.{Among, first, later}
use Rattle.nq_ir.proofs.Spots.{get_or_map}
use Rattle.nq_ir.specs.Building.{Alike, AlikeFields, FollowsAt, FollowsFields, FollowsIn}
use Rattle.nq_ir.specs.Lets.{FlatRow, Side, combos, flat, head_of, part_rows, tail_of}
use Rattle.nq_model.specs.NamedRows.{no_cell}
use Rattle.nq_ir.specs.Meanings.{Env, Tables, kept, value}
use Rattle.nq_ir.specs.Parts.{bags, leaves, slots}
use Rattle.nq_ir.specs.Spots.{Child, Spot, StrandTree, children, children_of, own_spot, shape_leaves, shape_slots, spots}
use Rattle.nq_ir.specs.Trees.{literal}
use Rattle.nq_model.proofs.Bags.{matched_append, matched_filter, matched_flat_map, matched_reordered, reordered_matched, reordered_refl, reordered_sym, reordered_trans}
use Rattle.nq_model.proofs.Numberings.{each_map, each_reordered, each_two_reordered, numbers_fixed_by, reordered_map}
use Rattle.nq_model.specs.Bags.{Matched, Pick, Reordered, here, there}
use Rattle.nq_model.specs.Numberings.{Numbers, Ranks, Rises, TellsApart, numbered}
use Rattle.nq_model.specs.Types.{FieldTypes, TypeTree, bag, bool, field, fun, int, none, rec, text}
use Rattle.nq_model.specs.declared.table.Cell.{Cell}
use Rattle.std.specs.List.{AllByRecursion as Each}

-- the rows of one part, and of all parts, for any keys and any order of them
abbrev pub PartGivesBy : {K : Type 0} → (K → K → Bool) → (StrandTree → Env → K) → Tables → Side → List FlatRow → Type 0
PartGivesBy lt key ts d rows =
    (ms : List (List ℕ)) × (length ms ≡ shape_slots d.0.shape) × Each (λ n. Numbers lt (map (λ p. key d.0 p.1) (combos ts d.1 d.0)) n) ms × (rows ≡ part_rows ts d.0 (combos ts d.1 d.0) ms)

abbrev pub PartsGiveBy : {K : Type 0} → (K → K → Bool) → (StrandTree → Env → K) → Tables → List Side → List FlatRow → Type 0
PartsGiveBy lt key ts [] rows = rows ≡ []
PartsGiveBy lt key ts (d ∷ ds) rows =
    (here_rows : List FlatRow) × (rest : List FlatRow) × PartGivesBy lt key ts d here_rows × PartsGiveBy lt key ts ds rest × (rows ≡ here_rows ++ rest)

-- the rows of a let: the spots with their numbers, in any order
abbrev pub LetRows : {K : Type 0} → (K → K → Bool) → (Env → K) → List Env → List (ℕ × Env) → Type 0
LetRows lt key around lets = (ns : List ℕ) × Numbers lt (map key around) ns × Reordered (zip ns around) lets

-- an index stands for a spot: the number n of the tag t stands for the n-th of the sorted spots of t
abbrev pub Stands : List ℕ → (ℕ → List Env) → ℕ → (ℕ × ℕ) → Spot → Type 0
Stands tags sorted q i s = Among i.0 tags × (s.tag ≡ i.0) × Among (i.1, s.rows) (numbered 1 (sorted i.0))

-- a row tells of this combination of this strand
pub record Tells (ts : Tables) (tags : List ℕ) (sorted : ℕ → List Env) (w : ℕ) (r : FlatRow) (x : StrandTree × (ℕ × Env)) : Type 0 where
  pub outer : r.outer ≡ (x.0.parent, x.1.0)
  pub leaf_cells : r.leaf_cells ≡ map (λ b. value ts b x.1.1) (shape_leaves x.0.shape)
  pub inners : (s : ℕ) → s < w → (m : ℕ) × (get_or r.inners s (0, 0) ≡ (x.0.tag, m)) × Among (m, x.1.1) (numbered 1 (sorted x.0.tag))
  pub tag : Among x.0.tag tags

module _ (ts : Tables) (all : List (List StrandTree)) (rows : List (List FlatRow)) (tags : List ℕ) (sorted : ℕ → List Env) where
  mutual
    tells_alike : (A : TypeTree) (q l s n w : ℕ) (r : FlatRow) (c : Child) (k : ℕ) → Tells ts tags sorted w r (c.of, (k, c.rows)) → s + slots A ≤ w → Alike (Stands tags sorted) (flat rows) (spots ts all) A q l s n r c
    tells_alike int q l s n w r c k t b = ap (λ (x : List Cell). get_or x l (no_cell)) t.leaf_cells ∙ get_or_map (λ b. value ts b c.rows) (shape_leaves c.of.shape) l (literal no_cell)
    tells_alike bool q l s n w r c k t b = ap (λ (x : List Cell). get_or x l (no_cell)) t.leaf_cells ∙ get_or_map (λ b. value ts b c.rows) (shape_leaves c.of.shape) l (literal no_cell)
    tells_alike text q l s n w r c k t b = ap (λ (x : List Cell). get_or x l (no_cell)) t.leaf_cells ∙ get_or_map (λ b. value ts b c.rows) (shape_leaves c.of.shape) l (literal no_cell)
    tells_alike (rec fs) q l s n w r c k t b = tells_fields fs q l s n w r c k t b
    tells_alike (bag A) q l s n w r c k t b =
        let m = t.inners s (omega arith) in
        subst (λ i. Stands tags sorted n i (own_spot c)) (sym m.1) (t.tag, refl, m.2)
    tells_alike (fun A B) q l s n w r c k t b = tt

    tells_fields : (fs : FieldTypes) (q l s n w : ℕ) (r : FlatRow) (c : Child) (k : ℕ) → Tells ts tags sorted w r (c.of, (k, c.rows)) → s + slots (rec fs) ≤ w → AlikeFields (Stands tags sorted) (flat rows) (spots ts all) fs q l s n r c
    tells_fields none q l s n w r c k t b = tt
    tells_fields (field j A fs) q l s n w r c k t b =
        (tells_alike A q l s n w r c k t (omega arith), tells_fields fs q (l + leaves A) (s + slots A) (n + bags A) w r c k t (omega arith))

pub among_cases : {A : Type 0} {y x : A} {xs : List A} → Among y (x ∷ xs) → (y ≡ x) ⊎ Among y xs
among_cases first = inl refl
among_cases (later m) = inr m

pub among_reordered : {A : Type 0} (x : A) (xs ys : List A) → Among x xs → Reordered xs ys → Among x ys
among_reordered x xs ys m r = go m ys r
  where
    put : {A : Type 0} {x y : A} {ys rest : List A} → Pick y ys rest → (x ≡ y) ⊎ Among x rest → Among x ys
    put {x = x} (here {ys = ys}) (inl e) = subst (λ z. Among x (z ∷ ys)) e first
    put here (inr m) = later m
    put (there p) (inl e) = later (put p (inl e))
    put {x = x} {y = y} (there {z = z} {ys = ys} {rest = rest} p) (inr m) = ⊎_elim (λ e. subst (λ w. Among x (w ∷ ys)) e first) (λ n. later (put p (inr n))) (among_cases m)

    go : {A : Type 0} {x : A} {xs : List A} → Among x xs → (ys : List A) → Reordered xs ys → Among x ys
    go first ys r = put r.2 (inl r.3)
    go (later m) ys r = put r.2 (inr (go m r.1 r.4))

pub number_from : {K : Type 0} (a k : ℕ) (e : K) (xs : List K) → Among (k, e) (numbered a xs) → a ≤ k
number_from a k e [] m = elim m [ ]
number_from a k e (x ∷ xs) m = ⊎_elim (λ h. let u : k ≡ a = ap (λ p. p.0) h in omega arith) (λ n. let u : suc a ≤ k = number_from (suc a) k e xs n in omega arith) (among_cases m)

no_test : (a k : ℕ) → (a ≡ k → ⊥) → nat_eq a k ≡ false
no_test a k h = go (nat_eq a k) refl
  where
    go : (b : Bool) → nat_eq a k ≡ b → b ≡ false
    go true e = absurd (h ((Decides-eqb a k).0 e))
    go false e = refl

yes_test : (a k : ℕ) → a ≡ k → nat_eq a k ≡ true
yes_test a k h = (Decides-eqb a k).1 h

none_above : {K : Type 0} (b k : ℕ) (xs : List K) → k < b → filter (λ p. nat_eq p.0 k) (numbered b xs) ≡ []
none_above b k [] h = refl
none_above b k (x ∷ xs) h = ap (λ c. cond c ((b, x) ∷ filter (λ p. nat_eq p.0 k) (numbered (suc b) xs)) (filter (λ p. nat_eq p.0 k) (numbered (suc b) xs))) (no_test b k (λ e. let f : b ≡ k = e in omega arith)) ∙ none_above (suc b) k xs (omega arith)

-- one number stands for one element
only_one : {K : Type 0} (a k : ℕ) (e : K) (xs : List K) → Among (k, e) (numbered a xs) → filter (λ p. nat_eq p.0 k) (numbered a xs) ≡ (k, e) ∷ []
only_one a k e [] m = elim m [ ]
only_one {K = K} a k e (x ∷ xs) m = ⊎_elim (λ h. at_first h) (λ n. at_later n (only_one (suc a) k e xs n)) (among_cases m)
  where
    at_first : ◌≡◌ {A = ℕ × K} (k, e) (a, x) → cond (nat_eq a k) ((a, x) ∷ filter (λ p. nat_eq p.0 k) (numbered (suc a) xs)) (filter (λ p. nat_eq p.0 k) (numbered (suc a) xs)) ≡ (k, e) ∷ []
    at_first h =
        let u : k ≡ a = ap (λ p. p.0) h in
        ap (λ c. cond c ((a, x) ∷ filter (λ p. nat_eq p.0 k) (numbered (suc a) xs)) (filter (λ p. nat_eq p.0 k) (numbered (suc a) xs))) (yes_test a k (sym u))
        ∙ ap₂ (λ p (l : List _). p ∷ l) (sym h) (none_above (suc a) k xs (omega arith))

    at_later : Among (k, e) (numbered (suc a) xs) → filter (λ p. nat_eq p.0 k) (numbered (suc a) xs) ≡ (k, e) ∷ [] → cond (nat_eq a k) ((a, x) ∷ filter (λ p. nat_eq p.0 k) (numbered (suc a) xs)) (filter (λ p. nat_eq p.0 k) (numbered (suc a) xs)) ≡ (k, e) ∷ []
    at_later n i =
        let u : suc a ≤ k = number_from (suc a) k e xs n in
        ap (λ c. cond c ((a, x) ∷ filter (λ p. nat_eq p.0 k) (numbered (suc a) xs)) (filter (λ p. nat_eq p.0 k) (numbered (suc a) xs))) (no_test a k (λ w. let f : a ≡ k = w in omega arith)) ∙ i

pick_single : {A : Type 0} {y : A} {xs rest : List A} → Pick y xs rest → rest ≡ [] → xs ≡ y ∷ []
pick_single {y = y} here e = ap (λ (l : List _). y ∷ l) e
pick_single (there p) e = absurd (cc)

reordered_one : {A : Type 0} (xs : List A) (x : A) → Reordered xs (x ∷ []) → xs ≡ x ∷ []
reordered_one xs x m =
    let r = reordered_sym xs (x ∷ []) m in
    pick_single r.2 r.4 ∙ ap (λ y. y ∷ []) (sym r.3)

-- of numbered lets, one has the number
let_with : {K : Type 0} (k : ℕ) (e : K) (lets : List (ℕ × K)) (xs : List K) → Reordered lets (numbered 1 xs) → Among (k, e) (numbered 1 xs) → filter (λ p. nat_eq p.0 k) lets ≡ (k, e) ∷ []
let_with k e lets xs m a =
    reordered_one (filter (λ p. nat_eq p.0 k) lets) (k, e) (subst (λ (l : List _). Reordered (filter (λ p. nat_eq p.0 k) lets) l) (only_one 1 k e xs a) (matched_filter (λ x y. x ≡ y) (λ p. nat_eq p.0 k) (λ p. nat_eq p.0 k) (λ x y h. ap (λ p. nat_eq p.0 k) h) lets (numbered 1 xs) m))

-- the combinations under one let row
combos_with : (ts : Tables) (c : StrandTree) (k : ℕ) (lets : List (ℕ × Env)) → filter (λ (p : ℕ × Env). nat_eq p.0 k) (combos ts lets c) ≡ combos ts (filter (λ (p : ℕ × Env). nat_eq p.0 k) lets) c
combos_with ts c k [] = refl
combos_with ts c k (p ∷ lets) =
    filter-append (λ (z : ℕ × Env). nat_eq z.0 k) (map (λ e. (p.0, e)) (kept ts c.gens c.conds p.1)) (combos ts lets c) ∙ go (nat_eq p.0 k) (one (kept ts c.gens c.conds p.1)) (combos_with ts c k lets)
  where
    one : (es : List Env) → filter (λ (z : ℕ × Env). nat_eq z.0 k) (map (λ e. (p.0, e)) es) ≡ cond (nat_eq p.0 k) (map (λ e. (p.0, e)) es) []
    one [] = none_left (nat_eq p.0 k)
      where
        none_left : (b : Bool) → ◌≡◌ {A = List (ℕ × Env)} [] (cond b [] [])
        none_left true = refl
        none_left false = refl
    one (e ∷ es) = more (nat_eq p.0 k) (one es)
      where
        more : (b : Bool) → filter (λ (z : ℕ × Env). nat_eq z.0 k) (map (λ x. (p.0, x)) es) ≡ cond b (map (λ x. (p.0, x)) es) [] → cond b ((p.0, e) ∷ filter (λ (z : ℕ × Env). nat_eq z.0 k) (map (λ x. (p.0, x)) es)) (filter (λ (z : ℕ × Env). nat_eq z.0 k) (map (λ x. (p.0, x)) es)) ≡ cond b ((p.0, e) ∷ map (λ x. (p.0, x)) es) []
        more true h = ap (λ (l : List (ℕ × Env)). (p.0, e) ∷ l) h
        more false h = h

    go : (b : Bool) → filter (λ (z : ℕ × Env). nat_eq z.0 k) (map (λ e. (p.0, e)) (kept ts c.gens c.conds p.1)) ≡ cond b (map (λ e. (p.0, e)) (kept ts c.gens c.conds p.1)) [] → filter (λ (z : ℕ × Env). nat_eq z.0 k) (combos ts lets c) ≡ combos ts (filter (λ (z : ℕ × Env). nat_eq z.0 k) lets) c → filter (λ (z : ℕ × Env). nat_eq z.0 k) (map (λ e. (p.0, e)) (kept ts c.gens c.conds p.1)) ++ filter (λ (z : ℕ × Env). nat_eq z.0 k) (combos ts lets c) ≡ combos ts (cond b (p ∷ filter (λ (z : ℕ × Env). nat_eq z.0 k) lets) (filter (λ (z : ℕ × Env). nat_eq z.0 k) lets)) c
    go true h i = ap₂ (λ (x y : List (ℕ × Env)). x ++ y) h i
    go false h i = ap₂ (λ (x y : List (ℕ × Env)). x ++ y) h i

-- each strand with its combinations
abbrev pub told : Tables → List Side → List (StrandTree × (ℕ × Env))
told ts sides = flat_map (λ d. map (λ p. (d.0, p)) (combos ts d.1 d.0)) sides

abbrev pub side_strands : List Side → List StrandTree
side_strands sides = map (λ d. d.0) sides

abbrev child_of : StrandTree × (ℕ × Env) → Child
child_of x = record { of = x.0; rows = x.1.1 }

abbrev at_index : (ℕ × ℕ) → (StrandTree × (ℕ × Env)) → Bool
at_index i x = nat_eq x.0.parent i.0 && nat_eq x.1.0 i.1

-- of one strand, under an index
block_at : (i : ℕ × ℕ) (c : StrandTree) (ps : List (ℕ × Env)) → filter (at_index i) (map (λ p. (c, p)) ps) ≡ cond (nat_eq c.parent i.0) (map (λ p. (c, p)) (filter (λ (p : ℕ × Env). nat_eq p.0 i.1) ps)) []
block_at i c [] = none_left (nat_eq c.parent i.0)
  where
    none_left : (b : Bool) → ◌≡◌ {A = List (StrandTree × (ℕ × Env))} [] (cond b [] [])
    none_left true = refl
    none_left false = refl
block_at i c (p ∷ ps) = go (nat_eq c.parent i.0) (nat_eq p.0 i.1) (block_at i c ps)
  where
    go : (a b : Bool) → filter (at_index i) (map (λ z. (c, z)) ps) ≡ cond a (map (λ z. (c, z)) (filter (λ (z : ℕ × Env). nat_eq z.0 i.1) ps)) [] → cond (a && b) ((c, p) ∷ filter (at_index i) (map (λ z. (c, z)) ps)) (filter (at_index i) (map (λ z. (c, z)) ps)) ≡ cond a (map (λ z. (c, z)) (cond b (p ∷ filter (λ (z : ℕ × Env). nat_eq z.0 i.1) ps) (filter (λ (z : ℕ × Env). nat_eq z.0 i.1) ps))) []
    go true true h = ap (λ (l : List (StrandTree × (ℕ × Env))). (c, p) ∷ l) h
    go true false h = h
    go false b h = h

children_map : (c : StrandTree) (k : ℕ) (es : List Env) → map child_of (map (λ p. (c, p)) (map (λ e. (k, e)) es)) ≡ map (λ e. record { of = c; rows = e }) es
children_map c k [] = refl
children_map c k (e ∷ es) = ap (λ (l : List Child). record { of = c; rows = e } ∷ l) (children_map c k es)

module _ (ts : Tables) (sorted : ℕ → List Env) where
  told_children : (i : ℕ × ℕ) (s : Spot) → s.tag ≡ i.0 → Among (i.1, s.rows) (numbered 1 (sorted i.0)) → (ds : List Side) → Each (λ d. Reordered d.1 (numbered 1 (sorted d.0.parent))) ds → map child_of (filter (at_index i) (told ts ds)) ≡ children ts (side_strands ds) s
  told_children i s e a [] l = refl
  told_children i s e a (d ∷ ds) l =
      ap (map child_of) (filter-append (at_index i) (map (λ p. (d.0, p)) (combos ts d.1 d.0)) (told ts ds))
      ∙ map-append child_of (filter (at_index i) (map (λ p. (d.0, p)) (combos ts d.1 d.0))) (filter (at_index i) (told ts ds))
      ∙ ap (λ (z : List (StrandTree × (ℕ × Env))). map child_of z ++ map child_of (filter (at_index i) (told ts ds))) (block_at i d.0 (combos ts d.1 d.0))
      ∙ go (nat_eq d.0.parent i.0) refl (told_children i s e a ds l.1)
    where
      mine : d.0.parent ≡ i.0 → map child_of (map (λ p. (d.0, p)) (filter (λ (p : ℕ × Env). nat_eq p.0 i.1) (combos ts d.1 d.0))) ≡ children_of ts s.rows d.0
      mine h =
          let w : filter (λ (p : ℕ × Env). nat_eq p.0 i.1) d.1 ≡ (i.1, s.rows) ∷ [] = let_with i.1 s.rows d.1 (sorted d.0.parent) l.0 (subst (λ t. Among (i.1, s.rows) (numbered 1 (sorted t))) (sym h) a) in
          ap (λ (z : List (ℕ × Env)). map child_of (map (λ p. (d.0, p)) z)) (combos_with ts d.0 i.1 d.1 ∙ ap (λ (z : List (ℕ × Env)). combos ts z d.0) w ∙ append-nil (map (λ e. (i.1, e)) (kept ts d.0.gens d.0.conds s.rows)))
          ∙ children_map d.0 i.1 (kept ts d.0.gens d.0.conds s.rows)

      go : (b : Bool) → nat_eq d.0.parent i.0 ≡ b → map child_of (filter (at_index i) (told ts ds)) ≡ children ts (side_strands ds) s → map child_of (cond b (map (λ p. (d.0, p)) (filter (λ (p : ℕ × Env). nat_eq p.0 i.1) (combos ts d.1 d.0))) []) ++ map child_of (filter (at_index i) (told ts ds)) ≡ flat_map (children_of ts s.rows) (cond (nat_eq d.0.parent s.tag) (d.0 ∷ filter (λ x. nat_eq x.parent s.tag) (side_strands ds)) (filter (λ x. nat_eq x.parent s.tag) (side_strands ds)))
      go true h r =
          let t : nat_eq d.0.parent s.tag ≡ true = ap (nat_eq d.0.parent) e ∙ h in
          ap₂ (λ (x y : List Child). x ++ y) (mine ((Decides-eqb d.0.parent i.0).0 h)) r ∙ ap (λ b. flat_map (children_of ts s.rows) (cond b (d.0 ∷ filter (λ x. nat_eq x.parent s.tag) (side_strands ds)) (filter (λ x. nat_eq x.parent s.tag) (side_strands ds)))) (sym t)
      go false h r =
          let t : nat_eq d.0.parent s.tag ≡ false = ap (nat_eq d.0.parent) e ∙ h in
          r ∙ ap (λ b. flat_map (children_of ts s.rows) (cond b (d.0 ∷ filter (λ x. nat_eq x.parent s.tag) (side_strands ds)) (filter (λ x. nat_eq x.parent s.tag) (side_strands ds)))) (sym t)

pub matched_map_right : {A B C : Type 0} (R : A → B → Type 0) (S : A → C → Type 0) (g : B → C) → ((x : A) (y : B) → R x y → S x (g y)) → (xs : List A) (ys : List B) → Matched R xs ys → Matched S xs (map g ys)
matched_map_right R S g t [] ys e = ap (λ (l : List _). map g l) e
matched_map_right R S g t (x ∷ xs) ys m =
    (g m.0, map g m.1, pick_map m.2, t x m.0 m.3, matched_map_right R S g t xs m.1 m.4)
  where
    pick_map : {y : _} {ys rest : List _} → Pick y ys rest → Pick (g y) (map g ys) (map g rest)
    pick_map here = here
    pick_map (there p) = there (pick_map p)

-- strands in another order have the same children, in another order
children_reordered : (ts : Tables) (s : Spot) (ds es : List StrandTree) → Reordered ds es → Reordered (children ts ds s) (children ts es s)
children_reordered ts s ds es r =
    matched_flat_map (λ x y. x ≡ y) (λ x y. x ≡ y) (children_of ts s.rows) (children_of ts s.rows) (λ x y e. subst (λ z. Reordered (children_of ts s.rows x) (children_of ts s.rows z)) e (reordered_refl (children_of ts s.rows x))) (filter (λ d. nat_eq d.parent s.tag) ds) (filter (λ d. nat_eq d.parent s.tag) es) (matched_filter (λ x y. x ≡ y) (λ d. nat_eq d.parent s.tag) (λ d. nat_eq d.parent s.tag) (λ x y h. ap (λ d. nat_eq d.parent s.tag) h) ds es r)

-- at a path with elements of type A: the lets are numbered by the sorted spots, and the rows tell of the combinations
pub record Legible (ts : Tables) (tags : List ℕ) (sorted : ℕ → List Env) (A : TypeTree) (cs : List StrandTree) (rows : List FlatRow) : Type 0 where
  pub sides : List Side
  pub of_strands : Reordered (side_strands sides) cs
  pub by_number : Each (λ d. Reordered d.1 (numbered 1 (sorted d.0.parent))) sides
  pub tells : Matched (Tells ts tags sorted (slots A)) rows (told ts sides)

-- the same at each path
abbrev mutual
  pub LegibleIn : Tables → List ℕ → (ℕ → List Env) → List (List StrandTree) → List (List FlatRow) → TypeTree → ℕ → Type 0
  LegibleIn ts tags sorted all rows int n = Unit {0}
  LegibleIn ts tags sorted all rows bool n = Unit {0}
  LegibleIn ts tags sorted all rows text n = Unit {0}
  LegibleIn ts tags sorted all rows (rec fs) n = LegibleFields ts tags sorted all rows fs n
  LegibleIn ts tags sorted all rows (bag A) n = Legible ts tags sorted A (get_or all n []) (get_or rows n []) × LegibleIn ts tags sorted all rows A (suc n)
  LegibleIn ts tags sorted all rows (fun A B) n = Unit {0}

  pub LegibleFields : Tables → List ℕ → (ℕ → List Env) → List (List StrandTree) → List (List FlatRow) → FieldTypes → ℕ → Type 0
  LegibleFields ts tags sorted all rows none n = Unit {0}
  LegibleFields ts tags sorted all rows (field k A fs) n = LegibleIn ts tags sorted all rows A n × LegibleFields ts tags sorted all rows fs (n + bags A)

module _ (ts : Tables) (tags : List ℕ) (sorted : ℕ → List Env) (all : List (List StrandTree)) (rows : List (List FlatRow)) where
  legible_follows : (A : TypeTree) (n : ℕ) → Legible ts tags sorted A (get_or all n []) (get_or rows n []) → FollowsAt (Stands tags sorted) (flat rows) (spots ts all) A n
  legible_follows A n h i s st =
      let m = matched_filter (Tells ts tags sorted (slots A)) (λ r. nat_eq r.outer.0 i.0 && nat_eq r.outer.1 i.1) (at_index i) (λ r x t. ap (λ o. nat_eq o.0 i.0 && nat_eq o.1 i.1) t.outer) (get_or rows n []) (told ts h.sides) h.tells in
      let R : FlatRow → Child → Type 0 = λ e f. Alike (Stands tags sorted) (flat rows) (spots ts all) A n 0 0 (suc n) e f in
      let here = filter (λ r. nat_eq r.outer.0 i.0 && nat_eq r.outer.1 i.1) (get_or rows n []) in
      let told_here : Matched R here (map child_of (filter (at_index i) (told ts h.sides))) = matched_map_right (Tells ts tags sorted (slots A)) R child_of (λ r x t. tells_alike ts all rows tags sorted A n 0 0 (suc n) (slots A) r (child_of x) x.1.0 t (omega arith)) here (filter (at_index i) (told ts h.sides)) m in
      matched_reordered R here (children ts (side_strands h.sides) s) (children ts (get_or all n []) s) (subst (λ (l : List Child). Matched R here l) (told_children ts sorted i s st.1 st.2 h.sides h.by_number) told_here) (children_reordered ts s (side_strands h.sides) (get_or all n []) h.of_strands)

  mutual
    pub legible_in : (A : TypeTree) (n : ℕ) → LegibleIn ts tags sorted all rows A n → FollowsIn (Stands tags sorted) (flat rows) (spots ts all) A n
    legible_in int n h = tt
    legible_in bool n h = tt
    legible_in text n h = tt
    legible_in (rec fs) n h = legible_fields fs n h
    legible_in (bag A) n h = (legible_follows A n h.0, legible_in A (suc n) h.1)
    legible_in (fun A B) n h = tt

    legible_fields : (fs : FieldTypes) (n : ℕ) → LegibleFields ts tags sorted all rows fs n → FollowsFields (Stands tags sorted) (flat rows) (spots ts all) fs n
    legible_fields none n h = tt
    legible_fields (field k A fs) n h = (legible_in A n h.0, legible_fields fs (n + bags A) h.1)

-- from a let form's rows, by the fact on numberings
each_at : {A : Type 0} (P : A → Type 0) (xs : List A) (n : ℕ) (d : A) → n < length xs → Each P xs → P (get_or xs n d)
each_at P [] n d h e = absurd (omega arith)
each_at P (x ∷ xs) zero d h e = e.0
each_at P (x ∷ xs) (suc n) d h e = each_at P xs n d (omega arith) e.1

get_or_map_in : {A B : Type 0} (f : A → B) (xs : List A) (n : ℕ) (d : B) (d' : A) → n < length xs → get_or (map f xs) n d ≡ f (get_or xs n d')
get_or_map_in f [] n d d' h = absurd (omega arith)
get_or_map_in f (x ∷ xs) zero d d' h = refl
get_or_map_in f (x ∷ xs) (suc n) d d' h = get_or_map_in f xs n d d' (omega arith)

each_mapped : {A B : Type 0} (f : A → B) (P : A → Type 0) (Q : B → Type 0) → ((x : A) → P x → Q (f x)) → (xs : List A) → Each P xs → Each Q (map f xs)
each_mapped f P Q t [] e = tt
each_mapped f P Q t (x ∷ xs) e = (t x e.0, each_mapped f P Q t xs e.1)

map_length : {A B : Type 0} (f : A → B) (xs : List A) → length (map f xs) ≡ length xs
map_length f [] = refl
map_length f (x ∷ xs) = ap suc (map_length f xs)

-- these numbers name these spots
NamesSpots : List (ℕ × Env) → List (ℕ × Env) → List ℕ → Type 0
NamesSpots all ps m = (length m ≡ length ps) × Each (λ p. Among p all) (zip m (map (λ p. p.1) ps))

names_head : (all : List (ℕ × Env)) (p : ℕ × Env) (ps : List (ℕ × Env)) (m : List ℕ) → NamesSpots all (p ∷ ps) m → Among (head_of m, p.1) all
unfolding NamesSpots
names_head all p ps [] h = absurd (omega (arith, h.0))
names_head all p ps (n ∷ m) h = h.1.0

names_tail : (all : List (ℕ × Env)) (p : ℕ × Env) (ps : List (ℕ × Env)) (m : List ℕ) → NamesSpots all (p ∷ ps) m → NamesSpots all ps (tail_of m)
unfolding NamesSpots
names_tail all p ps [] h = absurd (omega (arith, h.0))
names_tail all p ps (n ∷ m) h = (omega (arith, h.0), h.1.1)

part_tells : (ts : Tables) (tags : List ℕ) (sorted : ℕ → List Env) (w : ℕ) (c : StrandTree) → Among c.tag tags → (ps : List (ℕ × Env)) (ms : List (List ℕ)) → w ≤ length ms → Each (NamesSpots (numbered 1 (sorted c.tag)) ps) ms → Matched (Tells ts tags sorted w) (part_rows ts c ps ms) (map (λ p. (c, p)) ps)
part_tells ts tags sorted w c t [] ms b h = refl
part_tells ts tags sorted w c t (p ∷ ps) ms b h = (
  (c, p),
  map (λ p. (c, p)) ps,
  here,
  record {
    outer = refl;
    leaf_cells = refl;
    inners = λ s u. (head_of (get_or ms s []), get_or_map_in (λ n. (c.tag, head_of n)) ms s (0, 0) [] (omega arith), names_head (numbered 1 (sorted c.tag)) p ps (get_or ms s []) (each_at (NamesSpots (numbered 1 (sorted c.tag)) (p ∷ ps)) ms s [] (omega arith) h));
    tag = t;
  },
  part_tells ts tags sorted w c t ps (map tail_of ms) (omega (arith, map_length tail_of ms)) (each_mapped tail_of (NamesSpots (numbered 1 (sorted c.tag)) (p ∷ ps)) (NamesSpots (numbered 1 (sorted c.tag)) ps) (λ m g. names_tail (numbered 1 (sorted c.tag)) p ps m g) ms h),
)

pub each_among : {A : Type 0} (xs : List A) → Each (λ x. Among x xs) xs
each_among [] = tt
each_among (x ∷ xs) = (first, each_map (λ y. Among y xs) (λ y. Among y (x ∷ xs)) (λ y h. later h) xs (each_among xs))

zip_right : {A B : Type 0} (ns : List A) (xs : List B) → length ns ≡ length xs → map (λ p. p.1) (zip ns xs) ≡ xs
zip_right [] [] e = refl
zip_right [] (x ∷ xs) e = absurd (omega arith)
zip_right (n ∷ ns) [] e = absurd (omega arith)
zip_right (n ∷ ns) (x ∷ xs) e = ap (λ (l : List _). x ∷ l) (zip_right ns xs (omega arith))

map_map : {A B C : Type 0} (f : A → B) (g : B → C) (xs : List A) → map g (map f xs) ≡ map (λ x. g (f x)) xs
map_map f g [] = refl
map_map f g (x ∷ xs) = ap (λ (l : List _). g (f x) ∷ l) (map_map f g xs)

map_pair : (k : ℕ) (es : List Env) → map (λ (p : ℕ × Env). p.1) (map (λ e. (k, e)) es) ≡ es
map_pair k [] = refl
map_pair k (e ∷ es) = ap (λ (l : List Env). e ∷ l) (map_pair k es)

pub combos_envs : (ts : Tables) (c : StrandTree) (lets : List (ℕ × Env)) → map (λ p. p.1) (combos ts lets c) ≡ flat_map (λ e. kept ts c.gens c.conds e) (map (λ p. p.1) lets)
combos_envs ts c [] = refl
combos_envs ts c (p ∷ lets) =
    map-append (λ (z : ℕ × Env). z.1) (map (λ e. (p.0, e)) (kept ts c.gens c.conds p.1)) (combos ts lets c)
    ∙ ap₂ (λ (x y : List Env). x ++ y) (map_pair p.0 (kept ts c.gens c.conds p.1)) (combos_envs ts c lets)

module _ {K : Type 0} (lt : K → K → Bool) (key : ℕ → Env → K) (o : Ranks lt) (ts : Tables) (tags : List ℕ) (around sorted : ℕ → List Env) (perm : (t : ℕ) → Reordered (around t) (sorted t)) (up : (t : ℕ) → Rises lt (map (key t) (sorted t))) (apart : (t : ℕ) → TellsApart (key t) (around t)) where
  by_fact : (t : ℕ) (ns : List ℕ) → Numbers lt (map (key t) (around t)) ns → Reordered (zip ns (around t)) (numbered 1 (sorted t))
  by_fact t ns h = numbers_fixed_by lt (key t) o (around t) (sorted t) ns (apart t) h (perm t) (up t)

  -- the kept spots of a strand are those of its parent, each with every choice that the strand keeps
  abbrev pub IsNested : TypeTree → StrandTree → Type 0
  IsNested A c = (shape_slots c.shape ≡ slots A) × Among c.tag tags × (flat_map (λ e. kept ts c.gens c.conds e) (around c.parent) ≡ around c.tag)

  -- the envs of a part's combinations are the spots of its strand, in some order
  combos_around : (A : TypeTree) (c : StrandTree) (l : List (ℕ × Env)) → IsNested A c → LetRows lt (key c.parent) (around c.parent) l → Reordered (map (λ p. p.1) (combos ts l c)) (around c.tag)
  combos_around A c l n h =
      let back : Reordered (map (λ p. p.1) l) (around c.parent) = subst (λ (x : List Env). Reordered (map (λ p. p.1) l) x) (zip_right h.0 (around c.parent) (h.1.as_many ∙ map_length (key c.parent) (around c.parent))) (reordered_map (λ p. p.1) l (zip h.0 (around c.parent)) (reordered_sym (zip h.0 (around c.parent)) l h.2)) in
      let flat_back : Reordered (flat_map (λ e. kept ts c.gens c.conds e) (map (λ p. p.1) l)) (flat_map (λ e. kept ts c.gens c.conds e) (around c.parent)) = matched_flat_map (λ x y. x ≡ y) (λ x y. x ≡ y) (λ e. kept ts c.gens c.conds e) (λ e. kept ts c.gens c.conds e) (λ x y e. subst (λ z. Reordered (kept ts c.gens c.conds x) (kept ts c.gens c.conds z)) e (reordered_refl (kept ts c.gens c.conds x))) (map (λ p. p.1) l) (around c.parent) back in
      subst₂ (λ (x y : List Env). Reordered x y) (sym (combos_envs ts c l)) n.2 flat_back

  module _ (A : TypeTree) where
    spots_named : (c : StrandTree) (ps : List (ℕ × Env)) → Reordered (map (λ p. p.1) ps) (around c.tag) → (m : List ℕ) → Numbers lt (map (key c.tag) (map (λ p. p.1) ps)) m → NamesSpots (numbered 1 (sorted c.tag)) ps m
    unfolding NamesSpots
    spots_named c ps e m q =
        let es : List Env = map (λ p. p.1) ps in
        let own : TellsApart (key c.tag) es = each_two_reordered (λ x y. key c.tag x ≡ key c.tag y → x ≡ y) (around c.tag) es (reordered_sym es (around c.tag) e) (apart c.tag) in
        let fixed : Reordered (zip m es) (numbered 1 (sorted c.tag)) = numbers_fixed_by lt (key c.tag) o es (sorted c.tag) m own q (reordered_trans es (around c.tag) (sorted c.tag) e (perm c.tag)) (up c.tag) in (
          q.as_many ∙ map_length (key c.tag) es ∙ map_length (λ p. p.1) ps,
          each_map (λ p. Among p (zip m es)) (λ p. Among p (numbered 1 (sorted c.tag))) (λ p a. among_reordered p (zip m es) (numbered 1 (sorted c.tag)) a fixed) (zip m es) (each_among (zip m es)),
        )

    part_legible : (d : Side) (rows : List FlatRow) → IsNested A d.0 → LetRows lt (key d.0.parent) (around d.0.parent) d.1 → PartGivesBy lt (λ c. key c.tag) ts d rows → Matched (Tells ts tags sorted (slots A)) rows (map (λ p. (d.0, p)) (combos ts d.1 d.0))
    part_legible d rows n h g =
        let c = d.0 in
        let ps = combos ts d.1 c in
        let envs : Reordered (map (λ p. p.1) ps) (around c.tag) = combos_around A c d.1 n h in
        let keys : map (λ p. key c.tag p.1) ps ≡ map (key c.tag) (map (λ p. p.1) ps) = sym (map_map (λ p. p.1) (key c.tag) ps) in
        let named : Each (NamesSpots (numbered 1 (sorted c.tag)) ps) g.0 = each_map (λ m. Numbers lt (map (λ p. key c.tag p.1) ps) m) (NamesSpots (numbered 1 (sorted c.tag)) ps) (λ m q. spots_named c ps envs m (subst (λ (l : List K). Numbers lt l m) keys q)) g.0 g.2 in
        subst (λ (l : List FlatRow). Matched (Tells ts tags sorted (slots A)) l (map (λ p. (c, p)) ps)) (sym g.3) (part_tells ts tags sorted (slots A) c n.1 ps g.0 (omega (arith, g.1, n.0)) named)

    parts_legible : (ds : List Side) (rows : List FlatRow) → Each (λ d. IsNested A d.0) ds → Each (λ d. LetRows lt (key d.0.parent) (around d.0.parent) d.1) ds → PartsGiveBy lt (λ c. key c.tag) ts ds rows → Matched (Tells ts tags sorted (slots A)) rows (told ts ds)
    parts_legible [] rows n h g = subst (λ (l : List FlatRow). Matched (Tells ts tags sorted (slots A)) l []) (sym g) refl
    parts_legible (d ∷ ds) rows n h g =
        subst (λ (l : List FlatRow). Matched (Tells ts tags sorted (slots A)) l (told ts (d ∷ ds))) (sym g.4) (matched_append (Tells ts tags sorted (slots A)) g.0 g.1 (map (λ p. (d.0, p)) (combos ts d.1 d.0)) (told ts ds) (part_legible d g.0 n.0 h.0 g.2) (parts_legible ds g.1 n.1 h.1 g.3))

  -- the rows of these side_strands, each with a list of its parent's spots
  pub record GivesRows (cs : List StrandTree) (rows : List FlatRow) : Type 0 where
    pub sides : List Side
    pub of_strands : Reordered (side_strands sides) cs
    pub numbered_all : Each (λ d. LetRows lt (key d.0.parent) (around d.0.parent) d.1) sides
    pub all : List FlatRow
    pub parts : PartsGiveBy lt (λ c. key c.tag) ts sides all
    pub any_order : Reordered rows all

  each_of : (P : StrandTree → Type 0) (ds : List Side) → Each P (side_strands ds) → Each (λ d. P d.0) ds
  each_of P [] e = tt
  each_of P (d ∷ ds) e = (e.0, each_of P ds e.1)

  -- what the let form at a path allows is legible
  pub let_legible : (A : TypeTree) (cs : List StrandTree) (rows : List FlatRow) → Each (IsNested A) cs → GivesRows cs rows → Legible ts tags sorted A cs rows
  let_legible A cs rows n g = record {
    sides = g.sides;
    of_strands = g.of_strands;
    by_number = each_map (λ (d : Side). LetRows lt (key d.0.parent) (around d.0.parent) d.1) (λ d. Reordered d.1 (numbered 1 (sorted d.0.parent))) (λ d h. reordered_trans d.1 (zip h.0 (around d.0.parent)) (numbered 1 (sorted d.0.parent)) (reordered_sym (zip h.0 (around d.0.parent)) d.1 h.2) (by_fact d.0.parent h.0 h.1)) g.sides g.numbered_all;
    tells = reordered_matched (Tells ts tags sorted (slots A)) rows g.all (told ts g.sides) g.any_order (parts_legible A g.sides g.all (each_of (IsNested A) g.sides (each_reordered (IsNested A) cs (side_strands g.sides) (reordered_sym (side_strands g.sides) cs g.of_strands) n)) g.numbered_all g.parts);
  }
