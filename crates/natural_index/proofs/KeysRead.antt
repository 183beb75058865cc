-- Natural keys read all answers that SQL allows to the natural trees of a form.
use Rattle.std.proofs.Common.{◌≡◌, ℕ, zero, suc, ◌+◌, ◌<◌, List, [], ◌∷◌, ◌++◌, map, zip, refl, sym, ap, ◌∙◌, subst, Bool, true, false, cond, filter, flat_map, length, get_or, arith, None, nat_eq}
use Rattle.std.specs.List.{AllByRecursion as Each}
use Rattle.std.specs.Option.{option_map}
use Rattle.std.proofs.lemmas.Bool.Decides.{Decides-eqb}
use Rattle.std.specs.Ordering.{nat_cmp}
use Rattle.nq_model.specs.Bags.{Reordered}
use Rattle.nq_model.specs.Databases.{database}
use Rattle.nq_model.specs.Meaning.{is_none}
use Rattle.nq_model.specs.Numberings.{count_from}
use Rattle.nq_model.specs.SchemaTables.{AreTablesOf}
use Rattle.nq_model.specs.Tables.{IsProperSchema}
use Rattle.nq_model.specs.Types.{TypeTree, int, bag}
use Rattle.nq_model.specs.Values.{Same}
use Rattle.nq_model.specs.declared.table.Cell.{Cell}
use Rattle.nq_model.specs.declared.table.ColumnType.TheVariants as column_type
use Rattle.nq_model.specs.declared.table.Schema.{Schema}
use Rattle.nq_model.specs.declared.table.TableShape.{TableShape}
use Rattle.nq_model.proofs.Bags.{reordered_sym}
use Rattle.nq_model.proofs.Canonical.{reordered_sorted}
use Rattle.nq_model.proofs.Numberings.{each_map, each_reordered}
use Rattle.nq_ir.specs.Among.{Among, first}
use Rattle.nq_ir.specs.declared.base.Gen.{Gen}
use Rattle.nq_ir.specs.Meanings.{EachBoth, Tables, form_meaning, rows_in}
use Rattle.nq_ir.specs.Parts.{slots, bags, element_types}
use Rattle.nq_ir.specs.Spots.{PlacedComp, StrandTree, by_tag, levels, shaped, strands}
use Rattle.nq_ir.specs.Trees.{FormTree}
use Rattle.nq_ir.specs.WellFormed.{IsWellFormed, comps_numbers, numbers}
use Rattle.nq_ir.proofs.Allowed.{both_at, each_unmapped}
use Rattle.nq_ir.proofs.Distinct.{Distinct, distinct, each_left, each_right}
use Rattle.nq_ir.proofs.Fits.{typed_fits}
use Rattle.nq_ir.proofs.Legible.{each_among}
use Rattle.nq_ir.proofs.LevelTypes.{StrandsTyped, levels_typed}
use Rattle.nq_ir.proofs.Levels.{levels_all}
use Rattle.nq_ir.proofs.Paths.{strands_sorted}
use Rattle.nq_ir.proofs.Scopes.{Scoping, StrandGood, all_scopes, all_tags, look, scopes_differ, strands_good}
use Rattle.nq_ir.proofs.Spots.{get_or_map}
use Rattle.nq_ir.proofs.Whole.{fits, tags_apart}
use Rattle.sql_profile.specs.AllowedAnswers.{TreeAllows}
use Rattle.sql_profile.specs.Servers.{held_of}
use Rattle.stitcher.specs.Schemes.{AnswerRows, Reads, element_of, stitched}
use Rattle.stitcher.proofs.Laid.{types_length}
use Rattle.stitcher.proofs.Stitched.{read_is_mean}
use Rattle.natural_keys.specs.declared.layout.Layout.{Layout}
use Rattle.natural_keys.specs.Layouts.{table_key, scope_key, layout_of, layout_at, strands_by_path, inner_layouts, outer_layouts}
use Rattle.natural_keys.proofs.LayoutFacts.{most_fits}
use Rattle.natural_index.specs.Naming.{naming_at, naming, keyless, least, no_key}
use Rattle.natural_keys.specs.NaturalKeys.{natural_keys}
use Rattle.natural_index.specs.Reading.{KeysRead}
use Rattle.natural_index.specs.Trees.{natural_tree, natural_trees}
use Rattle.natural_index.proofs.KeyPaths.{CompOwn, paths_whole}
use Rattle.natural_index.proofs.KeyPlaces.{Fits}
use Rattle.natural_index.proofs.KeyedSpots.{AreKeyed, enter, entered, entries, one_spot, scopes_apart}
use Rattle.natural_index.proofs.KeysFollow.{follow_whole}
use Rattle.natural_index.proofs.NaturalRows.{natural_rows}
use Rattle.natural_index.proofs.SelectRows.{tree_rows}

-- the layout of comprehensions has room for the key columns of each
layout_room : (S : List TableShape) (ds : List StrandTree) (d : StrandTree) → Among d ds
    → Fits (layout_of S ds) (scope_key S d)
layout_room S ds d m column_type.Int = most_fits S column_type.Int m
layout_room S ds d m column_type.Bool = most_fits S column_type.Bool m
layout_room S ds d m column_type.Text = most_fits S column_type.Text m

each_got : {A : Type 0} (P : A → Type 0) (xs : List A) (k : ℕ) (d : A) → P d → Each P xs
    → P (get_or xs k d)
each_got P [] k d p e = p
each_got P (x ∷ xs) zero d p e = e.0
each_got P (x ∷ xs) (suc k) d p e = each_got P xs k d p e.1

-- Where there is no table without a key, each table that needs one has one.
none_left : {A : Type 0} (p : A → Bool) (xs : List A) → filter p xs ≡ []
    → Each (λ x. p x ≡ false) xs
none_left p [] h = tt
none_left p (x ∷ xs) h = go (p x) refl h (none_left p xs)
  where
    go : (b : Bool) → p x ≡ b → cond b (x ∷ filter p xs) (filter p xs) ≡ []
        → (filter p xs ≡ [] → Each (λ x. p x ≡ false) xs) → Each (λ x. p x ≡ false) (x ∷ xs)
    go true e h f = absurd (cc)
    go false e h f = (e, f h)

no_least : (gens : List Gen) → option_map (λ (g : Gen). g.table) (least gens) ≡ None → gens ≡ []
no_least [] h = refl
no_least (g ∷ gens) h = absurd (cc)

naming_keyed : (S : List TableShape) (form : FormTree) → no_key S form ≡ None
    → AreKeyed S (naming form)
naming_keyed S form h = none_left (λ g. is_none (table_key S g.table)) (naming form)
    (no_least (keyless S (naming form)) h)

each_apart : {A B : Type 0} (P : B → Type 0) (f : A → List B) (xs : List A) → Each P (flat_map f xs)
    → Each (λ x. Each P (f x)) xs
each_apart P f [] h = tt
each_apart P f (x ∷ xs) h = (
  each_left P (f x) (flat_map f xs) h,
  each_apart P f xs
      (each_right P (f x) (flat_map f xs) h),
)

zip_at : {A B : Type 0} (Q : A → B → Type 0) (d : A) (e : B) → ((x : A) → Q x e)
    → (xs : List A) (ys : List B) (k : ℕ) → k < length xs
    → Each (λ (z : A × B). Q z.0 z.1) (zip xs ys) → Q (get_or xs k d) (get_or ys k e)
zip_at Q d e q [] ys k b h = absurd (omega (arith, b))
zip_at Q d e q (x ∷ xs) [] k b h = q (get_or (x ∷ xs) k d)
zip_at Q d e q (x ∷ xs) (y ∷ ys) zero b h = h.0
zip_at Q d e q (x ∷ xs) (y ∷ ys) (suc k) b h = zip_at Q d e q xs ys k (omega (arith, b)) h.1

named_keyed : (S : List TableShape) (B : TypeTree) (ds : List StrandTree)
    → AreKeyed S (naming_at B ds) → 0 < slots B → Each (λ d. AreKeyed S d.gens) ds
named_keyed S B ds h b = go (nat_eq (slots B) 0) refl h
  where
    go : (t : Bool) → nat_eq (slots B) 0 ≡ t → AreKeyed S (cond t [] (flat_map (λ d. d.gens) ds))
        → Each (λ d. AreKeyed S d.gens) ds
    go true e k = (let z : slots B ≡ 0 = (Decides-eqb (slots B) 0).0 e in absurd
        (omega (arith, z, b)))
    go false e k = each_apart (λ g. is_none (table_key S g.table) ≡ false) (λ d. d.gens) ds k

-- the answer of each path is allowed to its tree
allowed_at : {A B : Type 0} (P : A → B → Type 0) (f : ℕ → A) (d : B) (n a : ℕ) (ys : List B)
    → EachBoth P (map f (count_from a n)) ys → (k : ℕ) → k < n → P (f (a + k)) (get_or ys k d)
allowed_at P f d zero a ys h k b = absurd (omega (arith, b))
allowed_at P f d (suc n) a [] h k b = absurd h
allowed_at P f d (suc n) a (y ∷ ys) h zero b = let e : a + 0 ≡ a = omega arith in subst (λ m. P (f m) y) (sym e) h.0
allowed_at P f d (suc n) a (y ∷ ys) h (suc k) b = let e : suc a + k ≡ a + suc k = omega arith in subst (λ m. P (f m) (get_or ys k d)) e (allowed_at P f d n (suc a) ys h.1 k (omega (arith, b)))

module _ (schema : Schema) (form : FormTree) (proper : IsProperSchema schema)
    (w : IsWellFormed schema.tables form) (keyed : no_key schema.tables form ≡ None) where
  abbrev S : List TableShape
  S = schema.tables

  abbrev A : TypeTree
  A = form.element

  abbrev info : ℕ → Scoping
  info = look (all_scopes form.comps)

  abbrev tags : List ℕ
  tags = all_tags form.comps

  abbrev outers : List Layout
  outers = outer_layouts S form

  abbrev inners : List Layout
  inners = inner_layouts S form

  abbrev paths : ℕ
  paths = suc (bags A)

  sorted : strands_by_path form ≡ map by_tag (strands A form.comps)
  sorted = strands_sorted A form.comps w.labels_rise (fits schema form w)

  abbrev at_level : ℕ → List PlacedComp
  at_level n = get_or (levels A form.comps) n []

  -- the comprehensions at a path, in the order of their tags
  by_path : (n : ℕ) → get_or (strands_by_path form) n [] ≡ by_tag (map shaped (at_level n))
  by_path n = ap (λ (l : List (List StrandTree)). get_or l n []) sorted
      ∙ get_or_map by_tag (strands A form.comps) n [] ∙ ap by_tag
      (get_or_map (map shaped) (levels A form.comps) n [])

  -- what holds of those holds of the comprehensions as they stand
  each_back : (P : StrandTree → Type 0) (n : ℕ) → Each P (get_or (strands_by_path form) n [])
      → Each (λ c. P (shaped c)) (at_level n)
  each_back P n h =
      let here : List StrandTree = map shaped (at_level n) in
      let mixed : Reordered (by_tag here) here = reordered_sym here (by_tag here)
      (reordered_sorted (λ (d e : StrandTree). nat_cmp d.tag e.tag) here) in
      each_unmapped shaped P (at_level n) (each_reordered P (by_tag here) here mixed
      (subst (λ (l : List StrandTree). Each P l) (by_path n) h))

  room_at : (n : ℕ) → Each (λ c. Fits (layout_at inners n) (scope_key S (shaped c))) (at_level n)
  room_at n =
      let ds : List StrandTree = get_or (strands_by_path form) n [] in
      let is : layout_at inners n ≡ layout_of S ds = get_or_map (layout_of S)
      (strands_by_path form) n [] in
      each_back (λ d. Fits (layout_at inners n) (scope_key S d)) n
      (subst (λ (l : Layout). Each (λ d. Fits l (scope_key S d)) ds) (sym is)
      (each_map (λ d. Among d ds) (λ d. Fits (layout_of S ds) (scope_key S d))
      (λ d m. layout_room S ds d m) ds (each_among ds)))

  keyed_at : (n : ℕ) → n < paths → 0 < slots (element_of (element_types (bag A)) n)
      → Each (λ c. AreKeyed S c.gens) (at_level n)
  keyed_at n b h =
      let B : TypeTree = element_of (element_types (bag A)) n in
      let ds : List StrandTree = get_or (strands_by_path form) n [] in
      let long : n < length (element_types (bag A)) = omega (arith, b, types_length A) in
      let named : AreKeyed S (naming_at B ds) = zip_at (λ a l. AreKeyed S (naming_at a l)) int []
      (λ a. none_named a) (element_types (bag A)) (strands_by_path form) n long
      (each_apart (λ g. is_none (table_key S g.table) ≡ false)
      (λ (x : TypeTree × List StrandTree). naming_at x.0 x.1)
      (zip (element_types (bag A)) (strands_by_path form)) (naming_keyed S form keyed)) in
      each_back (λ d. AreKeyed S d.gens) n (named_keyed S B ds named h)
    where
      none_named : (a : TypeTree) → AreKeyed S (naming_at a [])
      none_named a = go (nat_eq (slots a) 0)
        where
          go : (b : Bool) → AreKeyed S (cond b [] [])
          go true = tt
          go false = tt

  -- what is known of the comprehensions at a path
  own_at : (n : ℕ) → n < paths → Each (CompOwn S info tags A form.comps outers inners
      (layout_at inners n) (element_of (element_types (bag A)) n)) (at_level n)
  own_at n b =
      let B : TypeTree = element_of (element_types (bag A)) n in
      let long : n < length (element_types (bag A)) = omega (arith, b, types_length A) in
      let good : Each (StrandGood info tags) (at_level n)
      = each_got (Each (StrandGood info tags)) (levels A form.comps) n [] tt
      (levels_all (StrandGood info tags) A form.comps
      (strands_good S A form.comps w.typed (tags_apart schema form w)
      (distinct (comps_numbers form.comps) w.numbers_differ))) in
      let typed : StrandsTyped S B (at_level n) = both_at (StrandsTyped S) int []
      (element_types (bag A)) (levels A form.comps)
      (levels_typed S A form.comps w.typed) n long in
      combine B (at_level n) good typed (room_at n) (keyed_at n b)
    where
      combine : (B : TypeTree) (cs : List PlacedComp) → Each (StrandGood info tags) cs
          → StrandsTyped S B cs → Each (λ c. Fits (layout_at inners n) (scope_key S (shaped c))) cs
          → (0 < slots B → Each (λ c. AreKeyed S c.gens) cs)
          → Each (CompOwn S info tags A form.comps outers inners (layout_at inners n) B) cs
      combine B [] g t r k = tt
      combine B (c ∷ cs) g t r k = (
        record {
          good = g.0;
          fits = typed_fits S (c.outer_gens ++ c.gens) c.body B t.0;
          room = r.0;
          keyed = λ u. (k u).0;
        },
        combine B cs g.1 t.1 r.1 (λ u. (k u).1),
      )

  -- over tables of the schema and answers to the natural trees
  module _ (tables : List (List (List Cell))) (stored : AreTablesOf schema.tables tables)
      (ans : List AnswerRows) (allowed : EachBoth (TreeAllows (held_of schema.tables tables))
      (natural_trees schema.tables form) ans) where
    abbrev ts : Tables
    ts = rows_in (database S tables)

    rows_at : (q : ℕ) → q < paths → Reordered (get_or ans q [])
        (natural_rows S ts (layout_at outers q) (layout_at inners q)
        (get_or (strands A form.comps) q []))
    rows_at q b =
        let e : 0 + q ≡ q = omega arith in
        tree_rows S form tables q (get_or ans q []) sorted
        (subst (λ k. TreeAllows (held_of S tables) (natural_tree S form k) (get_or ans q [])) e
        (allowed_at (TreeAllows (held_of S tables)) (natural_tree S form) [] paths 0 ans allowed
        q b))

    read : Reads (natural_keys S form) ans form ts
    read =
        let distinct_at : (t : ℕ) → Distinct (numbers (info t).0)
        = scopes_differ S A form.comps w.typed (tags_apart schema form w)
        (distinct (comps_numbers form.comps) w.numbers_differ) in
        let differ = scopes_apart S tables stored info distinct_at in
        let whole = paths_whole S info tags A form.comps outers inners own_at refl in
        record {
          entries = entries S ts outers info tags paths;
          one_spot = λ q i s t m n. one_spot S ts outers info tags paths differ q i s t
              (entered S ts outers info tags paths q i s m)
              (entered S ts outers info tags paths q i t n);
          top = enter S ts outers info tags paths 0 0 [] (omega arith) first tt first;
          follows = follow_whole S ts info tags A form.comps outers inners ans differ rows_at
              whole.0 whole.1;
        }

-- Where the table of each generator whose rows name bags has a key, keys read all answers that SQL
-- allows to the trees.
pub keys_read : (schema : Schema) (form : FormTree) → IsProperSchema schema
    → IsWellFormed schema.tables form → no_key schema.tables form ≡ None
    → KeysRead schema form (natural_trees schema.tables form)
keys_read schema form proper w keyed tables stored ans allowed
    = read schema form proper w keyed tables stored ans allowed

-- So stitching them by keys gives what the form means.
pub keys_mean : (schema : Schema) (form : FormTree) → IsProperSchema schema
    → IsWellFormed schema.tables form → no_key schema.tables form ≡ None
    → (tables : List (List (List Cell))) → AreTablesOf schema.tables tables
    → (ans : List AnswerRows) → EachBoth (TreeAllows (held_of schema.tables tables))
    (natural_trees schema.tables form) ans
    → Same (stitched (natural_keys schema.tables form) form.element ans)
    (form_meaning (rows_in (database schema.tables tables)) form)
keys_mean schema form proper w keyed tables stored ans allowed =
    read_is_mean (natural_keys schema.tables form) schema form
    (rows_in (database schema.tables tables)) ans w
    (keys_read schema form proper w keyed tables stored ans allowed)
