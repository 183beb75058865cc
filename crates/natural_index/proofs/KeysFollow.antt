-- Rows under an index pair off with the children of the spot for which it stands.
use Rattle.std.proofs.Common.{◌≡◌, ℕ, suc, ◌+◌, ◌-◌, ◌<◌, ◌≤◌, pos, List, [], ◌∷◌, ◌++◌, map, refl, sym, ap, ap₂, ◌∙◌, subst, Bool, true, false, cond, filter, flat_map, nat_eq, length, get_or, arith, append-nil, ◌&&◌}
use Rattle.std.specs.List.{AllByRecursion as Each}
use Rattle.std.specs.Ordering.{int_eq}
use Rattle.std.specs.Cmp.Lexicographic.{pointwise, pointwise_decides}
use Rattle.std.proofs.lemmas.Bool.Decides.{Decides-eqb, Decides-int_eq}
use Rattle.std.proofs.lemmas.List.Elements.{filter-append}
use Rattle.nq_model.specs.Bags.{Matched, Reordered, here}
use Rattle.nq_model.specs.Cells.{cell_eq}
use Rattle.nq_model.specs.NamedRows.{no_cell}
use Rattle.nq_model.specs.Types.{TypeTree, int, bool, text, rec, bag, fun, FieldTypes, none, field}
use Rattle.nq_model.specs.declared.table.Cell.{Cell}
use Rattle.nq_model.specs.declared.table.TableShape.{TableShape}
use Rattle.nq_model.proofs.Bags.{matched_append, matched_filter, reordered_matched}
use Rattle.nq_model.proofs.Numberings.{each_map}
use Rattle.nq_model.proofs.Sameness.{cell_Decides}
use Rattle.nq_ir.specs.Among.{Among}
use Rattle.nq_ir.specs.declared.base.Gen.{Gen}
use Rattle.nq_ir.specs.Building.{Alike, AlikeFields, FollowsAt, FollowsIn, FollowsFields}
use Rattle.nq_ir.specs.Meanings.{Env, Tables, all_true, choices, kept}
use Rattle.nq_ir.specs.Parts.{leaves, leaves_in, slots, slots_in, bags, bags_in, element_types}
use Rattle.nq_ir.specs.Spots.{Child, PlacedComp, Spot, StrandTree, children, children_of, levels, shaped, spots, strands}
use Rattle.nq_ir.specs.Trees.{Comps, Conds}
use Rattle.nq_ir.specs.WellFormed.{numbers}
use Rattle.nq_ir.proofs.Legible.{each_among}
use Rattle.nq_ir.proofs.Nested.{nested_kept}
use Rattle.nq_ir.proofs.Scopes.{Scoping}
use Rattle.nq_ir.proofs.Spots.{each_filter, get_or_map}
use Rattle.stitcher.specs.Schemes.{AnswerRows, Entered, Scheme, answers, element_of}
use Rattle.natural_keys.specs.declared.index.KeyIndex.{KeyIndex}
use Rattle.natural_keys.specs.declared.layout.Layout.{Layout}
use Rattle.natural_keys.specs.Layouts.{key_columns, scope_key, layout_at, width}
use Rattle.natural_keys.specs.Indexes.{index_cells, index_eq}
use Rattle.natural_keys.specs.NaturalKeys.{index_columns, key_at, leaf_places, slot_places, natural_scheme}
use Rattle.natural_index.proofs.Apart.{Differ, filter_mapped, filter_one, filter_under, none_kept}
use Rattle.natural_index.proofs.KeysDiffer.{key_cells}
use Rattle.natural_index.proofs.KeyPaths.{AtPath, CompFine, PathsFields, PathsIn}
use Rattle.natural_index.proofs.KeyPlaces.{outer_read, row_leaf, row_slot}
use Rattle.natural_index.proofs.KeyedSpots.{AreKeyed, IsEntry, enter, entered, entries, flat_among, index_in_front, index_of, indexes_differ, kept_numbers, spots_of}
use Rattle.natural_index.proofs.NaturalRows.{natural_row, natural_rows, scope_choices}

test_is : (m n : ℕ) (b : Bool) → nat_eq m n ≡ b → int_eq (pos m) (pos n) ≡ b
test_is m n true e = (Decides-int_eq (pos m) (pos n)).1 (ap pos ((Decides-eqb m n).0 e))
test_is m n false e = go (int_eq (pos m) (pos n)) refl
  where
    go : (b : Bool) → int_eq (pos m) (pos n) ≡ b → b ≡ false
    go true h =
        let p : pos m ≡ pos n = (Decides-int_eq (pos m) (pos n)).0 h in
        let q : m ≡ n = cc in
        let w : true ≡ false = sym ((Decides-eqb m n).1 q) ∙ e in w
    go false h = refl

each_of : {A B : Type 0} (f : A → B) (P : B → Type 0) → ((x : A) → P (f x)) → (xs : List A)
    → Each P (map f xs)
each_of f P h [] = tt
each_of f P h (x ∷ xs) = (h x, each_of f P h xs)

each_any : {A : Type 0} (P : A → Type 0) → ((x : A) → P x) → (xs : List A) → Each P xs
each_any P h [] = tt
each_any P h (x ∷ xs) = (h x, each_any P h xs)

matched_two : {A B C : Type 0} (R : B → C → Type 0) (f : A → B) (g : A → C) (xs : List A)
    → Each (λ x. R (f x) (g x)) xs → Matched R (map f xs) (map g xs)
matched_two R f g [] h = refl
matched_two R f g (x ∷ xs) h = (g x, map g xs, here, h.0, matched_two R f g xs h.1)

module _ (S : List TableShape) (ts : Tables) (info : ℕ → Scoping) (tags : List ℕ) (A : TypeTree)
    (cs : Comps) (outers inners : List Layout) (ans : List AnswerRows)
    (differ : (t : ℕ) → AreKeyed S (info t).0 → Differ (key_cells (key_columns S (info t).0))
    (spots_of S ts outers info tags (suc (bags A)) t))
    (given : (q : ℕ) → q < suc (bags A) → Reordered (get_or ans q []) (natural_rows S ts (layout_at outers q) (layout_at inners q) (get_or (strands A cs) q []))) where
  abbrev count : ℕ
  count = suc (bags A)

  abbrev scheme : Scheme KeyIndex
  scheme = natural_scheme (element_types (bag A)) outers inners

  abbrev spots_at : ℕ → List Env
  spots_at t = spots_of S ts outers info tags count t

  abbrev index : ℕ → ℕ → Env → KeyIndex
  index q t e = index_of S ts outers info tags count q t e

  -- an index stands for a spot
  abbrev Stands : ℕ → KeyIndex → Spot → Type 0
  Stands q i s = Entered (entries S ts outers info tags count) q i s

  -- rows alike, and indexes followed
  abbrev RowAlike : TypeTree → (q l s n : ℕ) → List Cell → Child → Type 0
  RowAlike D q l s n r c = Alike Stands (answers scheme ans) (spots ts (strands A cs)) D q l s n r c

  module _ (q : ℕ) (B : TypeTree) where
    abbrev outer : Layout
    outer = layout_at outers q

    abbrev inner : Layout
    inner = layout_at inners q

    -- the row of a comprehension at a choice
    abbrev row : PlacedComp → Env → List Cell
    row c e = natural_row S ts outer inner (shaped c) e

    abbrev child : PlacedComp → Env → Child
    child c e = record { of = shaped c; rows = e }

    abbrev Fine : PlacedComp → Type 0
    Fine c = CompFine S info tags A cs outers inners outer inner B c

    -- a row and its spot are alike
    module _ (element : element_of (element_types (bag A)) q ≡ B) (c : PlacedComp) (f : Fine c)
        (e : Env) (choice : Among e (spots_at c.tag)) where
      one_leaf : (l : ℕ) → l < leaves B → (answers scheme ans).leaf q l (row c e)
          ≡ (spots ts (strands A cs)).leaf q l (child c e)
      one_leaf l h = ap (λ z. get_or (row c e)
          (get_or (leaf_places (index_columns inner) z (length (index_columns outer) + 1)) l 0 - 1)
          no_cell) element ∙ row_leaf S ts outer inner c e B f.fits f.around f.room l h

      one_slot : (s n : ℕ) → s < slots B → n < count → layout_at outers n ≡ inner
          → Stands n (scheme.inner q s (row c e)) (record { tag = c.tag; rows = e })
      one_slot s n h b home =
          let read : scheme.inner q s (row c e) ≡ record {
            tag = pos c.tag;
            cells = index_cells inner (scope_key S (shaped c)) e;
          }
          = ap (λ z. key_at (width inner) (row c e)
          (get_or (slot_places (index_columns inner) z (length (index_columns outer))) s 0))
          element ∙ row_slot S ts outer inner c e B f.fits f.around f.room s h in
          let own : index n c.tag e ≡ record {
            tag = pos c.tag;
            cells = index_cells inner (scope_key S (shaped c)) e;
          }
          = ap₂ (λ (l : Layout) (gens : List Gen). record {
            tag = pos c.tag;
            cells = index_cells l (key_columns S gens) e;
          }) home f.good.own_gens in
          let keyed : AreKeyed S (info c.tag).0 = subst (λ (gens : List Gen). AreKeyed S gens)
          (sym f.good.own_gens) (f.keyed (omega (arith, h))) in
          subst (λ i. Stands n i (record { tag = c.tag; rows = e })) (own ∙ sym read)
          (enter S ts outers info tags count n c.tag e b f.good.among keyed choice)

      mutual
        row_alike : (D : TypeTree) (l s n : ℕ) → PathsIn S info tags A cs outers inners D q n
            → n + bags D ≤ count → l + leaves D ≤ leaves B → s + slots D ≤ slots B
            → RowAlike D q l s n (row c e) (child c e)
        row_alike int l s n p b i j = one_leaf l (omega (arith, i))
        row_alike bool l s n p b i j = one_leaf l (omega (arith, i))
        row_alike text l s n p b i j = one_leaf l (omega (arith, i))
        row_alike (rec fs) l s n p b i j = fields_alike fs l s n p b i j
        row_alike (bag D) l s n p b i j = one_slot s n (omega (arith, j)) (omega (arith, b)) p.0
        row_alike (fun D E) l s n p b i j = tt

        fields_alike : (fs : FieldTypes) (l s n : ℕ)
            → PathsFields S info tags A cs outers inners fs q n → n + bags_in fs ≤ count
            → l + leaves_in fs ≤ leaves B → s + slots_in fs ≤ slots B
            → AlikeFields Stands (answers scheme ans) (spots ts (strands A cs)) fs q l s n (row c e)
            (child c e)
        fields_alike none l s n p b i j = tt
        fields_alike (field k D fs) l s n p b i j = (
          row_alike D l s n p.0 (omega (arith, b)) (omega (arith, i)) (omega (arith, j)),
          fields_alike fs (l + leaves D) (s + slots D) (n + bags D) p.1 (omega (arith, b))
              (omega (arith, i)) (omega (arith, j)),
        )

    -- the rows under the index of a spot
    module _ (t : ℕ) (e0 : Env) (choice : Among e0 (spots_at t))
        (keyed : AreKeyed S (info t).0) where
      abbrev is_under : List Cell → Bool
      is_under r = index_eq (key_at (width outer) r 0) (index q t e0)

      abbrev own_choices : PlacedComp → List Env
      own_choices c = kept ts c.gens c.conds e0

      test_of : (c : PlacedComp) → Fine c → (e : Env) → is_under (row c e)
          ≡ (int_eq (pos c.parent) (pos t) && pointwise cell_eq
          (index_cells outer (key_columns S c.outer_gens) e)
          (index_cells outer (key_columns S (info t).0) e0))
      test_of c f e = ap (λ i. index_eq i (index q t e0)) (outer_read S ts outer inner c e f.around)

      -- none of a comprehension whose parent is another
      no_parent : (c : PlacedComp) → Fine c → nat_eq c.parent t ≡ false
          → filter (λ e. is_under (row c e)) (scope_choices ts (shaped c)) ≡ []
      no_parent c f h =
          none_kept (λ e. is_under (row c e)) (scope_choices ts (shaped c))
          (each_any (λ e. is_under (row c e) ≡ false)
          (λ e. test_of c f e ∙ ap (λ b. b && pointwise cell_eq
          (index_cells outer (key_columns S c.outer_gens) e)
          (index_cells outer (key_columns S (info t).0) e0)) (test_is c.parent t false h))
          (scope_choices ts (shaped c)))

      scope_gens : (c : PlacedComp) → Fine c → c.parent ≡ t → (info t).0 ≡ c.outer_gens
      scope_gens c f same = ap (λ k. (info k).0) (sym same) ∙ f.good.around.0

      -- the spots around a comprehension are those of its parent
      spots_around : (c : PlacedComp) → Fine c → c.parent ≡ t → spots_at t
          ≡ kept ts c.outer_gens c.outer_conds []
      spots_around c f same = ap₂ (λ (g : List Gen) (b : Conds). kept ts g b [])
          (scope_gens c f same) (ap (λ k. (info k).1) (sym same) ∙ f.good.around.1)

      -- of a comprehension with this parent those below the one spot
      its_parent : (c : PlacedComp) → Fine c → c.parent ≡ t
          → filter (λ e. is_under (row c e)) (scope_choices ts (shaped c)) ≡ own_choices c
      its_parent c f same =
          let gens = scope_gens c f same in
          let around = spots_around c f same in
          let es : List Env = kept ts c.outer_gens c.outer_conds [] in
          let mine : Among e0 es = subst (λ (l : List Env). Among e0 l) around choice in
          let key : Env → List Cell = index_cells outer (key_columns S c.outer_gens) in
          let by_tag : Differ (index_cells outer (key_columns S (info t).0)) (spots_at t)
          = indexes_differ S ts outers info tags count differ outer t keyed in
          let apart : Differ key es = subst (λ (l : List Env). Differ key l) around
          (subst (λ (g : List Gen). Differ (index_cells outer (key_columns S g))
          (spots_at t)) gens by_tag) in
          let is_own : Env → Bool = λ x. pointwise cell_eq (key x) (key e0) in
          let below : Env → List Env = λ x. kept ts c.gens c.conds x in
          let here : index_cells outer (key_columns S (info t).0) e0 ≡ key e0
          = ap (λ (g : List Gen). index_cells outer (key_columns S g) e0) gens in
          let yes : int_eq (pos c.parent) (pos t) ≡ true
          = test_is c.parent t true ((Decides-eqb c.parent t).1 same) in
          let one : (x rs : Env) → map (λ b. b.0) x ≡ numbers c.outer_gens
          → is_under (row c (x ++ rs)) ≡ is_own x = λ x rs n. test_of c f (x ++ rs)
          ∙ ap (λ b. b && pointwise cell_eq (key (x ++ rs))
          (index_cells outer (key_columns S (info t).0) e0)) yes
          ∙ ap₂ (λ (u v : List Cell). pointwise cell_eq u v)
          (index_in_front S outer c.outer_gens x rs n) here in
          let each : Each (λ x. Each (λ y. is_under (row c y) ≡ is_own x) (below x)) es
          = each_map (λ x. map (λ b. b.0) x ≡ numbers c.outer_gens)
          (λ x. Each (λ y. is_under (row c y) ≡ is_own x) (below x))
          (λ x n. each_filter (λ y. is_under (row c y) ≡ is_own x)
          (λ y. all_true ts c.conds y) (map (λ rs. x ++ rs) (choices ts c.gens))
          (each_of (λ rs. x ++ rs) (λ y. is_under (row c y) ≡ is_own x) (λ rs. one x rs n)
          (choices ts c.gens))) es (kept_numbers ts c.outer_gens c.outer_conds) in
          ap (filter (λ e. is_under (row c e)))
          (nested_kept ts c.outer_gens c.gens c.outer_conds c.conds f.good.avoids)
          ∙ filter_under (λ e. is_under (row c e)) is_own below es each
          ∙ ap (flat_map below) (filter_one key is_own e0
          (λ x. pointwise_decides cell_Decides (key x) (key e0)) es apart mine)
          ∙ append-nil (below e0)

      one_comp : (c : PlacedComp) → Fine c → filter is_under
          (map (row c) (scope_choices ts (shaped c))) ≡ map (row c)
          (cond (nat_eq c.parent t) (own_choices c) [])
      one_comp c f = filter_mapped is_under (row c) (scope_choices ts (shaped c))
          ∙ ap (map (row c)) (go (nat_eq c.parent t) refl)
        where
          go : (b : Bool) → nat_eq c.parent t ≡ b → filter (λ e. is_under (row c e))
              (scope_choices ts (shaped c)) ≡ cond b (own_choices c) []
          go true e = its_parent c f ((Decides-eqb c.parent t).0 e)
          go false e = no_parent c f e

      -- the children of the spot are spots of their comprehensions
      child_choice : (c : PlacedComp) → Fine c → c.parent ≡ t → (e : Env) → Among e (own_choices c)
          → Among e (spots_at c.tag)
      child_choice c f same e m =
          let below : Env → List Env = λ x. kept ts c.gens c.conds x in
          let es : List Env = kept ts c.outer_gens c.outer_conds [] in
          let mine : Among e0 es = subst (λ (l : List Env). Among e0 l)
          (spots_around c f same) choice in
          let all : spots_at c.tag ≡ flat_map below es = ap₂
          (λ (g : List Gen) (b : Conds). kept ts g b []) f.good.own_gens f.good.own_conds
          ∙ nested_kept ts c.outer_gens c.gens c.outer_conds c.conds f.good.avoids in
          subst (λ (l : List Env). Among e l) (sym all) (flat_among below e e0 es mine m)

      -- the rows of comprehensions, beside the children
      level : (R : List Cell → Child → Type 0) → ((c : PlacedComp) → Fine c → (e : Env)
          → Among e (spots_at c.tag) → R (row c e) (child c e)) → (cs : List PlacedComp)
          → Each Fine cs → Matched R
          (filter is_under (natural_rows S ts outer inner (map shaped cs)))
          (children ts (map shaped cs) (record { tag = t; rows = e0 }))
      level R h [] f = refl
      level R h (c ∷ cs) f =
          let rest : List (List Cell) = natural_rows S ts outer inner (map shaped cs) in
          subst (λ (l : List (List Cell)). Matched R l (children ts (map shaped (c ∷ cs))
          (record { tag = t; rows = e0 })))
          (sym (filter-append is_under (map (row c) (scope_choices ts (shaped c))) rest
          ∙ ap (λ (l : List (List Cell)). l ++ filter is_under rest) (one_comp c f.0)))
          (go (nat_eq c.parent t) refl (level R h cs f.1))
        where
          go : (b : Bool) → nat_eq c.parent t ≡ b → Matched R
              (filter is_under (natural_rows S ts outer inner (map shaped cs)))
              (flat_map (children_of ts e0) (filter (λ d. nat_eq d.parent t) (map shaped cs)))
              → Matched R (map (row c) (cond b (own_choices c) [])
              ++ filter is_under (natural_rows S ts outer inner (map shaped cs)))
              (flat_map (children_of ts e0) (cond b (shaped c
              ∷ filter (λ d. nat_eq d.parent t) (map shaped cs))
              (filter (λ d. nat_eq d.parent t) (map shaped cs))))
          go true e m =
              let own : List Env = own_choices c in
              let same : c.parent ≡ t = (Decides-eqb c.parent t).0 e in
              let two : Each (λ x. R (row c x) (child c x)) own
              = each_map (λ x. Among x own) (λ x. R (row c x) (child c x))
              (λ x k. h c f.0 x (child_choice c f.0 same x k)) own (each_among own) in
              matched_append R (map (row c) own) (filter is_under
              (natural_rows S ts outer inner (map shaped cs))) (children_of ts e0 (shaped c))
              (flat_map (children_of ts e0) (filter (λ d. nat_eq d.parent t) (map shaped cs)))
              (matched_two R (row c) (child c) own two) m
          go false e m = m

  -- at a path
  follow_at : (B : TypeTree) (q : ℕ) → AtPath S info tags A cs outers inners B q
      → PathsIn S info tags A cs outers inners B q (suc q) → suc q + bags B ≤ count
      → FollowsAt Stands (answers scheme ans) (spots ts (strands A cs)) B q
  follow_at B q at paths b i s m =
      let x : IsEntry S ts outers info tags count q i s =
      entered S ts outers info tags count q i s m in
      let R : List Cell → Child → Type 0 = λ r c. RowAlike B q 0 0 (suc q) r c in
      let comps : List PlacedComp = get_or (levels A cs) q [] in
      let there : get_or (strands A cs) q [] ≡ map shaped comps
      = get_or_map (map shaped) (levels A cs) q [] in
      let all : List (List Cell) = natural_rows S ts (layout_at outers q) (layout_at inners q)
      (map shaped comps) in
      let under : List Cell → Bool = is_under q B s.tag s.rows x.choice x.keyed in
      let mixed : Reordered (get_or ans q []) all = subst
      (λ (l : List StrandTree). Reordered (get_or ans q [])
      (natural_rows S ts (layout_at outers q) (layout_at inners q) l)) there
      (given q (omega (arith, b))) in
      let rows : Reordered (filter under (get_or ans q [])) (filter under all)
      = matched_filter (λ x y. x ≡ y) under under (λ x y e. ap under e)
      (get_or ans q []) all mixed in
      let paired : Matched R (filter under all) (children ts (map shaped comps) s)
      = level q B s.tag s.rows x.choice x.keyed R (λ c f e k. row_alike q B at.0 c f e k B 0 0
      (suc q) paths b (omega arith) (omega arith)) comps at.1 in
      let whole : Matched R (filter under (get_or ans q []))
      (children ts (get_or (strands A cs) q []) s)
      = subst (λ (l : List StrandTree). Matched R (filter under (get_or ans q []))
      (children ts l s)) (sym there) (reordered_matched R (filter under (get_or ans q []))
      (filter under all) (children ts (map shaped comps) s) rows paired) in
      subst (λ z. Matched R ((answers scheme ans).rows q z)
      (children ts (get_or (strands A cs) q []) s)) (sym x.index) whole

  mutual
    follow_in : (D : TypeTree) (q n : ℕ) → PathsIn S info tags A cs outers inners D q n
        → n + bags D ≤ count → FollowsIn Stands (answers scheme ans) (spots ts (strands A cs)) D n
    follow_in int q n p b = tt
    follow_in bool q n p b = tt
    follow_in text q n p b = tt
    follow_in (rec fs) q n p b = follow_fields fs q n p b
    follow_in (bag a) q n p b =
        let low : suc n + bags a ≤ count = omega (arith, b) in
        (follow_at a n p.1 p.2 low, follow_in a n (suc n) p.2 low)
    follow_in (fun a c) q n p b = tt

    follow_fields : (fs : FieldTypes) (q n : ℕ) → PathsFields S info tags A cs outers inners fs q n
        → n + bags_in fs ≤ count → FollowsFields Stands (answers scheme ans)
        (spots ts (strands A cs)) fs n
    follow_fields none q n p b = tt
    follow_fields (field k a fs) q n p b = (
      follow_in a q n p.0 (omega (arith, b)),
      follow_fields fs q (n + bags a) p.1 (omega (arith, b)),
    )

  -- at all paths
  pub follow_whole : AtPath S info tags A cs outers inners A 0
      → PathsIn S info tags A cs outers inners A 0 1 → FollowsIn Stands (answers scheme ans)
      (spots ts (strands A cs)) (bag A) 0
  follow_whole at paths = (
    follow_at A 0 at paths (omega arith),
    follow_in A 0 1 paths
        (omega arith),
  )
