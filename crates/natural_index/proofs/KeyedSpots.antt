-- Spots under their keys: where the tables of a comprehension's generators have keys, an index
-- stands for one spot.
use Rattle.std.proofs.Common.{◌≡◌, ◌≢◌, ℕ, zero, suc, ◌+◌, ◌<◌, ◌≤◌, pos, List, [], ◌∷◌, ◌++◌, map, refl, sym, ap, ap₂, ◌∙◌, subst, Bool, true, false, cond, filter, flat_map, nat_eq, arith, inl, inr, ⊎_elim, ◌⊎◌, eq-or-lt_of_le}
use Rattle.std.specs.List.{AllByRecursion as Each}
use Rattle.std.proofs.lemmas.Bool.Decides.{Decides-eqb}
use Rattle.nq_model.specs.Databases.{database}
use Rattle.nq_model.specs.Meaning.{is_none}
use Rattle.nq_model.specs.NamedRows.{Label, cell_under}
use Rattle.nq_model.specs.Numberings.{count_from}
use Rattle.nq_model.specs.SchemaTables.{AreTablesOf}
use Rattle.nq_model.specs.declared.table.Cell.{Cell}
use Rattle.nq_model.specs.declared.table.ColumnType.{ColumnType}
use Rattle.nq_model.specs.declared.table.ColumnType.TheVariants as column_type
use Rattle.nq_model.specs.declared.table.TableShape.{TableShape}
use Rattle.nq_model.proofs.Numberings.{each_map}
use Rattle.nq_ir.specs.Among.{Among, first, later}
use Rattle.nq_ir.specs.declared.base.Gen.{Gen}
use Rattle.nq_ir.specs.Meanings.{Env, Tables, all_true, choices, kept, row_of, rows_in}
use Rattle.nq_ir.specs.Spots.{Spot}
use Rattle.nq_ir.specs.Trees.{Conds}
use Rattle.nq_ir.specs.WellFormed.{numbers, table_columns}
use Rattle.nq_ir.proofs.Distinct.{Distinct, each_among, each_join, among_left, among_right, among_map}
use Rattle.nq_ir.proofs.Legible.{among_cases}
use Rattle.nq_ir.proofs.Nested.{choice_numbers, each_mapped}
use Rattle.nq_ir.proofs.RawMeanings.{map_each}
use Rattle.nq_ir.proofs.Scopes.{Scoping}
use Rattle.nq_ir.proofs.Spots.{each_filter}
use Rattle.stitcher.specs.Schemes.{Entry, Entered}
use Rattle.natural_keys.specs.declared.layout.KeyColumn.{KeyColumn}
use Rattle.natural_keys.specs.declared.index.KeyIndex.{KeyIndex}
use Rattle.natural_keys.specs.declared.layout.Layout.{Layout}
use Rattle.natural_keys.specs.Layouts.{table_key, type_in, gen_key, key_columns, of_type, filled, count_in, layout_at}
use Rattle.natural_keys.specs.Indexes.{key_cell, zero_cell, index_cells}
use Rattle.natural_index.proofs.Apart.{Differ, later_weaker}
use Rattle.natural_index.proofs.KeysDiffer.{key_cells, index_tells, TellRows, kept_differ, rows_differ}

-- the table of each generator has a key
abbrev pub AreKeyed : List TableShape → List Gen → Type 0
AreKeyed S gens = Each (λ g. is_none (table_key S g.table) ≡ false) gens

abbrev are_keyed : List TableShape → List Gen → Bool
are_keyed S [] = true
are_keyed S (g ∷ gens) = cond (is_none (table_key S g.table)) false (are_keyed S gens)

keyed_so : (S : List TableShape) (gens : List Gen) → AreKeyed S gens → are_keyed S gens ≡ true
keyed_so S [] h = refl
keyed_so S (g ∷ gens) h = ap (λ b. cond b false (are_keyed S gens)) h.0 ∙ keyed_so S gens h.1

so_keyed : (S : List TableShape) (gens : List Gen) → are_keyed S gens ≡ true → AreKeyed S gens
so_keyed S [] h = tt
so_keyed S (g ∷ gens) h = go (is_none (table_key S g.table)) refl h (so_keyed S gens)
  where
    go : (b : Bool) → is_none (table_key S g.table) ≡ b → cond b false (are_keyed S gens) ≡ true
        → (are_keyed S gens ≡ true → AreKeyed S gens) → AreKeyed S (g ∷ gens)
    go true e h f = absurd (cc)
    go false e h f = (e, f h)

-- then the keys of their tables tell rows apart
pub tell_rows : (S : List TableShape) (tables : List (List (List Cell))) → AreTablesOf S tables
    → (gens : List Gen) → AreKeyed S gens → TellRows S (rows_in (database S tables)) gens
tell_rows S tables stored gens h = each_map (λ g. is_none (table_key S g.table) ≡ false) (λ g. Differ _ (rows_in (database S tables) g.table)) (λ g k. rows_differ S tables stored g.table (λ none. let w : true ≡ false = sym (ap is_none none) ∙ k in cc)) gens h

-- The rows of generators show the same key cells where those of further ones stand behind them.
found_in_front : (n : ℕ) (e r : Env) → Among n (map (λ b. b.0) e) → row_of n (e ++ r) ≡ row_of n e
found_in_front n [] r m = elim m [ ]
found_in_front n (b ∷ e) r m = go (nat_eq n b.0) refl (among_cases m) (λ k. found_in_front n e r k)
  where
    go : (t : Bool) → nat_eq n b.0 ≡ t → (n ≡ b.0) ⊎ Among n (map (λ b. b.0) e)
        → (Among n (map (λ b. b.0) e) → row_of n (e ++ r) ≡ row_of n e)
        → cond t b.1 (row_of n (e ++ r)) ≡ cond t b.1 (row_of n e)
    go true h k f = refl
    go false h (inl s) f = absurd (let w : true ≡ false = sym ((Decides-eqb n b.0).1 s) ∙ h in cc)
    go false h (inr k) f = f k

keys_in_front : (S : List TableShape) (P : ℕ → Type 0) (gens : List Gen)
    → ((n : ℕ) → Among n (numbers gens) → P n) → Each (λ k. P k.generator) (key_columns S gens)
keys_in_front S P [] h = tt
keys_in_front S P (g ∷ gens) h = each_join (λ k. P k.generator) (gen_key S g) (key_columns S gens)
    (own (table_key S g.table) (h g.number first)) (keys_in_front S P gens (λ n m. h n (later m)))
  where
    own : (ls : List Label) → P g.number → Each (λ (k : KeyColumn). P k.generator)
        (map (λ l. record {
          generator = g.number;
          name = l;
          of = type_in l (table_columns S g.table);
        }) ls)
    own [] p = tt
    own (l ∷ ls) p = (p, own ls p)

-- an index of equal cells of each type
index_same : (l : Layout) (ks : List KeyColumn) (e f : Env)
    → ((t : ColumnType) → map (key_cell e) (of_type t ks) ≡ map (key_cell f) (of_type t ks))
    → index_cells l ks e ≡ index_cells l ks f
index_same l ks e f h =
    let one : (t : ColumnType) → filled (count_in l t) (map (key_cell e) (of_type t ks))
    (zero_cell t) ≡ filled (count_in l t) (map (key_cell f) (of_type t ks)) (zero_cell t)
    = λ t. ap (λ (x : List Cell). filled (count_in l t) x (zero_cell t)) (h t) in
    ap₂ (λ (x y : List Cell). x ++ y) (one column_type.Int)
    (ap₂ (λ (x y : List Cell). x ++ y) (one column_type.Bool) (one column_type.Text))

pub index_in_front : (S : List TableShape) (l : Layout) (gens : List Gen) (e r : Env)
    → map (λ b. b.0) e ≡ numbers gens → index_cells l (key_columns S gens) (e ++ r)
    ≡ index_cells l (key_columns S gens) e
index_in_front S l gens e r h =
    let P : KeyColumn → Type 0 = λ k. row_of k.generator (e ++ r) ≡ row_of k.generator e in
    let each : Each P (key_columns S gens) = keys_in_front S
    (λ n. row_of n (e ++ r) ≡ row_of n e) gens (λ n m. found_in_front n e r
    (subst (λ (ns : List ℕ). Among n ns) (sym h) m)) in
    index_same l (key_columns S gens) (e ++ r) e (λ t. map_each P (key_cell (e ++ r)) (key_cell e)
    (λ k q. ap (cell_under k.name) q) (of_type t (key_columns S gens))
    (each_filter P _ (key_columns S gens) each))

-- the generators of choices have their numbers
pub kept_numbers : (ts : Tables) (gens : List Gen) (conds : Conds)
    → Each (λ e. map (λ b. b.0) e ≡ numbers gens) (kept ts gens conds [])
kept_numbers ts gens conds =
    let P : Env → Type 0 = λ e. map (λ b. b.0) e ≡ numbers gens in
    each_filter P (λ e. all_true ts conds e) (map (λ rs. [] ++ rs) (choices ts gens))
    (each_mapped (λ rs. [] ++ rs) P P (λ rs k. k) (choices ts gens) (choice_numbers ts gens))

-- elements that differ by keys are one where their keys are
differ_same : {A K : Type 0} (key : A → K) (x y : A) (xs : List A) → Differ key xs → Among x xs
    → Among y xs → key x ≡ key y → x ≡ y
differ_same key x y [] h m n e = elim m [ ]
differ_same key x y (z ∷ xs) h m n e =
    ⊎_elim
    (λ p. ⊎_elim (λ q. p ∙ sym q)
    (λ k. absurd (each_among (λ v. key z ≢ key v) k h.0 (ap key (sym p) ∙ e))) (among_cases n))
    (λ j. ⊎_elim (λ q. absurd (each_among (λ v. key z ≢ key v) j h.0 (ap key (sym q) ∙ sym e)))
    (λ k. differ_same key x y xs h.1 j k e) (among_cases n))
    (among_cases m)

among_split : {A : Type 0} (x : A) (xs ys : List A) → Among x (xs ++ ys) → Among x xs ⊎ Among x ys
among_split x [] ys m = inr m
among_split x (y ∷ xs) ys m = ⊎_elim (λ e. inl (subst (λ z. Among x (z ∷ xs)) e first))
    (λ k. ⊎_elim (λ a. inl (later a)) (λ b. inr b) (among_split x xs ys k)) (among_cases m)

among_flat : {A B : Type 0} (f : A → List B) (x : B) (xs : List A) → Among x (flat_map f xs)
    → (y : A) × Among y xs × Among x (f y)
among_flat f x [] m = elim m [ ]
among_flat f x (y ∷ xs) m = ⊎_elim (λ a. (y, first, a)) (λ b. let r = among_flat f x xs b in (r.0, later r.1, r.2)) (among_split x (f y) (flat_map f xs) m)

pub flat_among : {A B : Type 0} (f : A → List B) (x : B) (y : A) (xs : List A) → Among y xs
    → Among x (f y) → Among x (flat_map f xs)
flat_among f x y [] m b = elim m [ ]
flat_among f x y (z ∷ xs) first b = among_left (flat_map f xs) b
flat_among f x y (z ∷ xs) (later m) b = among_right (f z) (flat_among f x y xs m b)

among_mapped : {A B : Type 0} (f : A → B) (x : B) (xs : List A) → Among x (map f xs) → (y : A)
    × Among y xs × (x ≡ f y)
among_mapped f x [] m = elim m [ ]
among_mapped f x (y ∷ xs) m = ⊎_elim (λ e. (y, first, e)) (λ k. let r = among_mapped f x xs k in (r.0, later r.1, r.2)) (among_cases m)

among_kept : {A : Type 0} (p : A → Bool) (x : A) (xs : List A) → Among x xs → p x ≡ true
    → Among x (filter p xs)
among_kept p x [] m e = elim m [ ]
among_kept p x (y ∷ xs) first e = subst (λ b. Among x (cond b (x ∷ filter p xs) (filter p xs)))
    (sym e) first
among_kept p x (y ∷ xs) (later m) e = go (p y) (among_kept p x xs m e)
  where
    go : (b : Bool) → Among x (filter p xs) → Among x (cond b (y ∷ filter p xs) (filter p xs))
    go true k = later k
    go false k = k

kept_among : {A : Type 0} (p : A → Bool) (x : A) (xs : List A) → Among x (filter p xs) → Among x xs
    × (p x ≡ true)
kept_among p x [] m = elim m [ ]
kept_among p x (y ∷ xs) m = go (p y) refl m (λ k. kept_among p x xs k)
  where
    below : Among x xs × (p x ≡ true) → Among x (y ∷ xs) × (p x ≡ true)
    below r = (later r.0, r.1)

    go : (b : Bool) → p y ≡ b → Among x (cond b (y ∷ filter p xs) (filter p xs))
        → (Among x (filter p xs) → Among x xs × (p x ≡ true)) → Among x (y ∷ xs) × (p x ≡ true)
    go true h k f = ⊎_elim (λ e. (subst (λ z. Among x (z ∷ xs)) e first, ap p e ∙ h))
        (λ j. below (f j)) (among_cases k)
    go false h k f = below (f k)

among_count : (a n k : ℕ) → a ≤ k → k < a + n → Among k (count_from a n)
among_count a zero k h l = absurd (omega (arith, h, l))
among_count a (suc n) k h l =
    ⊎_elim (λ e. subst (λ z. Among z (a ∷ count_from (suc a) n)) e first)
    (λ u. later (among_count (suc a) n k (omega (arith, u)) (omega (arith, l))))
    (eq-or-lt_of_le h)

module _ (S : List TableShape) (ts : Tables) (outers : List Layout) (info : ℕ → Scoping)
    (tags : List ℕ) (paths : ℕ) where
  -- the spots of a comprehension
  abbrev pub spots_of : ℕ → List Env
  spots_of t = kept ts (info t).0 (info t).1 []

  -- the index of one at a path
  abbrev pub index_of : ℕ → ℕ → Env → KeyIndex
  index_of q t e = record {
    tag = pos t;
    cells = index_cells (layout_at outers q)
        (key_columns S (info t).0) e;
  }

  abbrev entry_of : ℕ → ℕ → Env → Entry KeyIndex
  entry_of q t e = record { path = q; index = index_of q t e; spot = record { tag = t; rows = e } }

  -- the comprehensions whose rows have keys
  abbrev keyed_tags : List ℕ
  keyed_tags = filter (λ t. are_keyed S (info t).0) tags

  abbrev at_tag : ℕ → ℕ → List (Entry KeyIndex)
  at_tag q t = map (entry_of q t) (spots_of t)

  abbrev at_path : ℕ → List (Entry KeyIndex)
  at_path q = flat_map (at_tag q) keyed_tags

  -- at each path each spot of these
  abbrev pub entries : List (Entry KeyIndex)
  entries = flat_map at_path (count_from 0 paths)

  -- what an entry is
  pub record IsEntry (q : ℕ) (i : KeyIndex) (s : Spot) : Type 0 where
    pub tag : Among s.tag tags
    pub keyed : AreKeyed S (info s.tag).0
    pub choice : Among s.rows (spots_of s.tag)
    pub index : i ≡ index_of q s.tag s.rows

  pub enter : (q t : ℕ) (e : Env) → q < paths → Among t tags → AreKeyed S (info t).0
      → Among e (spots_of t) → Entered entries q (index_of q t e) (record { tag = t; rows = e })
  enter q t e below tag keyed choice =
      let x : Entry KeyIndex = entry_of q t e in
      let own : Among t keyed_tags = among_kept (λ t. are_keyed S (info t).0) t tags tag
      (keyed_so S (info t).0 keyed) in
      flat_among at_path x q (count_from 0 paths) (among_count 0 paths q (omega arith)
      (omega (arith, below))) (flat_among (at_tag q) x t keyed_tags own
      (among_map (entry_of q t) choice))

  pub entered : (q : ℕ) (i : KeyIndex) (s : Spot) → Entered entries q i s → IsEntry q i s
  entered q i s m =
      let x : Entry KeyIndex = record { path = q; index = i; spot = s } in
      let a = among_flat at_path x (count_from 0 paths) m in
      let b = among_flat (at_tag a.0) x keyed_tags a.2 in
      let c = among_mapped (entry_of a.0 b.0) x (spots_of b.0) b.2 in
      let path : q ≡ a.0 = ap (λ (z : Entry KeyIndex). z.path) c.2 in
      let index : i ≡ index_of a.0 b.0 c.0 = ap (λ (z : Entry KeyIndex). z.index) c.2 in
      let spot : s ≡ record { tag = b.0; rows = c.0 } = ap (λ (z : Entry KeyIndex). z.spot) c.2 in
      let own = kept_among (λ t. are_keyed S (info t).0) b.0 tags b.1 in
      let is : IsEntry q (index_of q b.0 c.0) (record { tag = b.0; rows = c.0 }) = record {
        tag
            = own.0;
        keyed = so_keyed S (info b.0).0 own.1;
        choice = c.1;
        index = refl;
      } in
      subst (λ (z : Spot). IsEntry q i z) (sym spot) (subst
      (λ (z : KeyIndex). IsEntry q z (record { tag = b.0; rows = c.0 }))
      (sym (index ∙ ap (λ p. index_of p b.0 c.0) (sym path))) is)

  module _ (differ : (t : ℕ) → AreKeyed S (info t).0 → Differ (key_cells (key_columns S (info t).0))
      (spots_of t)) where
    -- the indexes of one comprehension's spots tell them apart
    pub indexes_differ : (l : Layout) (t : ℕ) → AreKeyed S (info t).0
        → Differ (index_cells l (key_columns S (info t).0)) (spots_of t)
    indexes_differ l t h = later_weaker _ _ (λ x y n e. n
        (index_tells l (key_columns S (info t).0) x y e)) (spots_of t) (differ t h)

    pub one_spot : (q : ℕ) (i : KeyIndex) (s t : Spot) → IsEntry q i s → IsEntry q i t → s ≡ t
    one_spot q i s t a b =
        let index : index_of q s.tag s.rows ≡ index_of q t.tag t.rows = sym a.index ∙ b.index in
        let tag : s.tag ≡ t.tag = (let p : pos s.tag ≡ pos t.tag = ap
        (λ (z : KeyIndex). z.tag) index in cc) in
        let key : Env → List Cell = index_cells (layout_at outers q)
        (key_columns S (info s.tag).0) in
        let cells : key s.rows ≡ key t.rows = ap (λ (z : KeyIndex). z.cells) index
        ∙ ap (λ k. index_cells (layout_at outers q) (key_columns S (info k).0) t.rows)
        (sym tag) in
        let choice : Among t.rows (spots_of s.tag) = subst (λ k. Among t.rows (spots_of k))
        (sym tag) b.choice in
        ap₂ (λ x (y : Env). record { tag = x; rows = y }) tag
        (differ_same key s.rows t.rows (spots_of s.tag)
        (indexes_differ (layout_at outers q) s.tag a.keyed) a.choice choice cells)

-- over the tables of a schema, where the generators in scope differ
pub scopes_apart : (S : List TableShape) (tables : List (List (List Cell))) → AreTablesOf S tables
    → (info : ℕ → Scoping) → ((t : ℕ) → Distinct (numbers (info t).0)) → (t : ℕ)
    → AreKeyed S (info t).0 → Differ (key_cells (key_columns S (info t).0))
    (kept (rows_in (database S tables)) (info t).0 (info t).1 [])
scopes_apart S tables stored info distinct t h = kept_differ S (rows_in (database S tables))
    (info t).0 (info t).1 (distinct t) (tell_rows S tables stored (info t).0 h)
