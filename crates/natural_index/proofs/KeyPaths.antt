-- What is known of the comprehensions at each path: the layouts have room for their keys, and those
-- whose rows name bags have keys.
use Rattle.std.proofs.Common.{◌≡◌, ℕ, suc, ◌+◌, ◌<◌, ◌≤◌, List, [], ◌∷◌, ◌++◌, map, refl, sym, ap, ap₂, ◌∙◌, subst, false, length, flat_map, get_or, arith, length-append, append_assoc, append-nil}
use Rattle.std.specs.List.{AllByRecursion as Each}
use Rattle.std.proofs.lemmas.List.{map-append}
use Rattle.nq_model.specs.Types.{TypeTree, int, bool, text, rec, bag, fun, FieldTypes, none, field}
use Rattle.nq_model.specs.declared.table.TableShape.{TableShape}
use Rattle.nq_model.proofs.Numberings.{each_map, length_map}
use Rattle.nq_ir.specs.declared.base.Gen.{Gen}
use Rattle.nq_ir.specs.Parts.{slots, slots_in, bags, bags_in, element_types}
use Rattle.nq_ir.specs.Spots.{PlacedComp, shaped, both, placed, bags_of, under, levels, levels_in, levels_fields}
use Rattle.nq_ir.specs.Trees.{Comps, Conds, no_cond, no_comp, comp}
use Rattle.nq_ir.proofs.Distinct.{each_join}
use Rattle.nq_ir.proofs.Fits.{FitsBody}
use Rattle.nq_ir.proofs.Paths.{each_under}
use Rattle.nq_ir.proofs.Scopes.{Scoping, StrandGood}
use Rattle.nq_ir.proofs.Spots.{found}
use Rattle.nq_model.specs.Meaning.{is_none}
use Rattle.stitcher.specs.Linked.{Home, homes_in, homes_fields}
use Rattle.stitcher.specs.Schemes.{element_of}
use Rattle.stitcher.specs.Walks.{TypesIn, TypesFields}
use Rattle.stitcher.proofs.Homes.{homes_long}
use Rattle.stitcher.proofs.Laid.{types_stand}
use Rattle.natural_keys.specs.declared.layout.Layout.{Layout}
use Rattle.natural_keys.specs.Layouts.{table_key, key_columns, scope_key, no_layout, layout_at}
use Rattle.natural_index.proofs.KeyPlaces.{Fits}
use Rattle.natural_index.proofs.KeyedSpots.{AreKeyed}
use Rattle.natural_index.proofs.Rooms.{levels_long}

-- around the comprehensions of an inner bag stand the generators in scope where the bag stands
placed_around : (P : List Gen → Type 0) (t : ℕ) (og : List Gen) (oc : Conds) (cs : Comps) → P og
    → Each (λ c. P c.outer_gens) (placed t og oc cs)
placed_around P t og oc no_comp h = tt
placed_around P t og oc (comp u gens conds b cs) h = (h, placed_around P t og oc cs h)

under_around : (P : List Gen → Type 0) (s : ℕ) (here : List PlacedComp)
    → Each (λ p. P (p.outer_gens ++ p.gens)) here → Each (λ c. P c.outer_gens)
    (flat_map (under s) here)
under_around P s here h =
    each_under (λ p. P (p.outer_gens ++ p.gens)) (λ c. P c.outer_gens) (under s)
    (λ p k. placed_around P p.tag (p.outer_gens ++ p.gens) (both p.outer_conds p.conds)
    (get_or (bags_of p.body) s no_comp) k) here h

module _ (S : List TableShape) (info : ℕ → Scoping) (tags : List ℕ) (A : TypeTree) (cs : Comps)
    (outers inners : List Layout) where
  abbrev elements : List TypeTree
  elements = element_types (bag A)

  abbrev all : List (List PlacedComp)
  all = levels A cs

  -- what is known of a comprehension whose elements have the type B, of itself
  pub record CompOwn (inner : Layout) (B : TypeTree) (c : PlacedComp) : Type 0 where
    pub good : StrandGood info tags c
    pub fits : FitsBody c.body B
    pub room : Fits inner (scope_key S (shaped c))
    pub keyed : 0 < slots B → AreKeyed S c.gens

  -- and of the generators around it
  pub record CompFine (outer inner : Layout) (B : TypeTree) (c : PlacedComp) : Type 0 where
    pub good : StrandGood info tags c
    pub fits : FitsBody c.body B
    pub around : Fits outer (key_columns S c.outer_gens)
    pub room : Fits inner (scope_key S (shaped c))
    pub keyed : 0 < slots B → AreKeyed S (c.outer_gens ++ c.gens)

  -- at a path
  abbrev pub AtPath : TypeTree → ℕ → Type 0
  AtPath B n = (element_of elements n ≡ B) × Each (CompFine (layout_at outers n)
      (layout_at inners n) B) (get_or all n [])

  -- At each path inside a part of an element of the path q, of which n is the first: the rows stand
  -- in bags that the rows of q name.
  abbrev mutual
    pub PathsIn : TypeTree → (q n : ℕ) → Type 0
    PathsIn int q n = Unit {0}
    PathsIn bool q n = Unit {0}
    PathsIn text q n = Unit {0}
    PathsIn (rec fs) q n = PathsFields fs q n
    PathsIn (bag a) q n = (layout_at outers n ≡ layout_at inners q) × AtPath a n
        × PathsIn a n (suc n)
    PathsIn (fun a b) q n = Unit {0}

    pub PathsFields : FieldTypes → (q n : ℕ) → Type 0
    PathsFields none q n = Unit {0}
    PathsFields (field l a fs) q n = PathsIn a q n × PathsFields fs q (n + bags a)

  fine_each : (outer inner : Layout) (B : TypeTree) (here : List PlacedComp)
      → Each (CompOwn inner B) here → Each (λ c. Fits outer (key_columns S c.outer_gens)) here
      → (0 < slots B → Each (λ c. AreKeyed S c.outer_gens) here)
      → Each (CompFine outer inner B) here
  fine_each outer inner B [] o a k = tt
  fine_each outer inner B (c ∷ here) o a k = (
    record {
      good = o.0.good;
      fits = o.0.fits;
      around = a.0;
      room = o.0.room;
      keyed = λ u. each_join (λ g. is_none (table_key S g.table) ≡ false) c.outer_gens c.gens
          (k u).0 (o.0.keyed u);
    },
    fine_each outer inner B here o.1 a.1 (λ u. (k u).1),
  )

  abbrev home_layout : Home → Layout
  home_layout home = layout_at inners home.0

  module _ (own : (n : ℕ) → n < suc (bags A) → Each (CompOwn (layout_at inners n)
      (element_of elements n)) (get_or all n [])) (rule : outers ≡ no_layout
      ∷ map home_layout (homes_in A 0 0 1)) where
    mutual
      paths_in : (D : TypeTree) (q s n : ℕ) (here : List PlacedComp) (ob oa : List Layout) → outers
          ≡ ob ++ (map home_layout (homes_in D q s n) ++ oa) → length ob ≡ n
          → (lb la : List (List PlacedComp)) → all ≡ lb ++ (levels_in D s here ++ la) → length lb
          ≡ n
          → TypesIn elements D n → n + bags D ≤ suc (bags A)
          → Each (λ p. Fits (layout_at inners q) (scope_key S (shaped p))) here
          → (0 < slots D → Each (λ p. AreKeyed S (p.outer_gens ++ p.gens)) here) → PathsIn D q n
      paths_in int q s n here ob oa eo lo lb la el ll t b r k = tt
      paths_in bool q s n here ob oa eo lo lb la el ll t b r k = tt
      paths_in text q s n here ob oa eo lo lb la el ll t b r k = tt
      paths_in (rec fs) q s n here ob oa eo lo lb la el ll t b r k
          = paths_fields fs q s n here ob oa eo lo lb la el ll t b r k
      paths_in (bag a) q s n here ob oa eo lo lb la el ll t b r k =
          let next : List PlacedComp = flat_map (under s) here in
          let below : List Layout = map home_layout (homes_in a n 0 (suc n)) in
          let home : layout_at outers n ≡ layout_at inners q
          = found outers ob (below ++ oa) (layout_at inners q) no_layout n eo lo in
          let level : get_or all n [] ≡ next = found all lb
          (levels_in a 0 next ++ la) next [] n el ll in
          let mine : Each (CompOwn (layout_at inners n) a) next
          = subst (λ z. Each (CompOwn (layout_at inners n) z) next) t.0
          (subst (λ (l : List PlacedComp). Each (CompOwn (layout_at inners n)
          (element_of elements n)) l) level (own n (omega (arith, b)))) in
          let around : Each (λ c. Fits (layout_at outers n) (key_columns S c.outer_gens)) next
          = under_around (λ gens. Fits (layout_at outers n) (key_columns S gens)) s here
          (subst (λ (z : Layout). Each (λ p. Fits z (scope_key S (shaped p))) here)
          (sym home) r) in
          let keyed : Each (λ c. AreKeyed S c.outer_gens) next
          = under_around (λ gens. AreKeyed S gens) s here (k (omega arith)) in
          let fine : Each (CompFine (layout_at outers n) (layout_at inners n) a) next
          = fine_each (layout_at outers n) (layout_at inners n) a next mine around
          (λ u. keyed) in
          let long : length (ob ++ layout_at inners q ∷ []) ≡ suc n
          = length-append ob (layout_at inners q ∷ []) ∙ omega (arith, lo) in
          let deep : length (lb ++ next ∷ []) ≡ suc n = length-append lb (next ∷ [])
          ∙ omega (arith, ll) in (
            home,
            (
              t.0,
              subst (λ (l : List PlacedComp). Each (CompFine (layout_at outers n)
                  (layout_at inners n) a) l) (sym level) fine,
            ),
            paths_in a n 0 (suc n) next (ob ++ layout_at inners q ∷ []) oa
                (eo ∙ sym (append_assoc ob (layout_at inners q ∷ []) (below ++ oa))) long
                (lb ++ next ∷ []) la (el ∙ sym (append_assoc lb (next ∷ [])
                (levels_in a 0 next ++ la))) deep t.1 (omega (arith, b))
                (each_map (CompFine (layout_at outers n) (layout_at inners n) a)
                (λ p. Fits (layout_at inners n) (scope_key S (shaped p))) (λ p f. f.room) next fine)
                (λ u. each_map (CompFine (layout_at outers n) (layout_at inners n) a)
                (λ p. AreKeyed S (p.outer_gens ++ p.gens)) (λ p f. f.keyed u) next fine),
          )
      paths_in (fun a c) q s n here ob oa eo lo lb la el ll t b r k = tt

      paths_fields : (fs : FieldTypes) (q s n : ℕ) (here : List PlacedComp) (ob oa : List Layout)
          → outers ≡ ob ++ (map home_layout (homes_fields fs q s n) ++ oa) → length ob ≡ n
          → (lb la : List (List PlacedComp)) → all ≡ lb ++ (levels_fields fs s here ++ la)
          → length lb ≡ n
          → TypesFields elements fs n → n + bags_in fs ≤ suc (bags A)
          → Each (λ p. Fits (layout_at inners q) (scope_key S (shaped p))) here
          → (0 < slots_in fs → Each (λ p. AreKeyed S (p.outer_gens ++ p.gens)) here)
          → PathsFields fs q n
      paths_fields none q s n here ob oa eo lo lb la el ll t b r k = tt
      paths_fields (field j a fs) q s n here ob oa eo lo lb la el ll t b r k =
          let first : List Layout = map home_layout (homes_in a q s n) in
          let rest : List Layout = map home_layout (homes_fields fs q (s + slots a) (n + bags a)) in
          let one : List (List PlacedComp) = levels_in a s here in
          let more : List (List PlacedComp) = levels_fields fs (s + slots a) here in
          let eo1 : outers ≡ ob ++ (first ++ (rest ++ oa)) = eo
          ∙ ap (λ (l : List Layout). ob ++ (l ++ oa))
          (map-append home_layout (homes_in a q s n)
          (homes_fields fs q (s + slots a) (n + bags a)))
          ∙ ap (λ (l : List Layout). ob ++ l) (append_assoc first rest oa) in
          let el1 : all ≡ lb ++ (one ++ (more ++ la)) = el
          ∙ ap (λ (l : List (List PlacedComp)). lb ++ l) (append_assoc one more la) in
          let long : length (ob ++ first) ≡ n + bags a = length-append ob first
          ∙ ap₂ (λ x y. x + y) lo (length_map home_layout (homes_in a q s n)
          ∙ homes_long a q s n) in
          let deep : length (lb ++ one) ≡ n + bags a = length-append lb one
          ∙ ap₂ (λ x y. x + y) ll (levels_long a s here) in (
            paths_in a q s n here ob (rest ++ oa) eo1 lo lb (more ++ la) el1 ll t.0
                (omega (arith, b)) r (λ u. k (omega (arith, u))),
            paths_fields fs q (s + slots a) (n + bags a) here (ob ++ first) oa
                (eo1 ∙ sym (append_assoc ob first (rest ++ oa))) long (lb ++ one) la
                (el1 ∙ sym (append_assoc lb one (more ++ la))) deep t.1 (omega (arith, b)) r
                (λ u. k (omega (arith, u))),
          )

    -- at the empty path and at each other
    pub paths_whole : AtPath A 0 × PathsIn A 0 1
    paths_whole =
        let here : List PlacedComp = placed 0 [] no_cond cs in
        let types : TypesIn elements (bag A) 0 = types_stand (bag A) elements 0 [] []
        (sym (append-nil elements)) refl in
        let outer : Layout = layout_at outers 0 in
        let inner : Layout = layout_at inners 0 in
        let mine : Each (CompOwn inner A) here = own 0 (omega arith) in
        let around : Each (λ c. Fits outer (key_columns S c.outer_gens)) here
        = placed_around (λ gens. Fits outer (key_columns S gens)) 0 [] no_cond cs
        (λ t. omega arith) in
        let keyed : Each (λ c. AreKeyed S c.outer_gens) here
        = placed_around (λ gens. AreKeyed S gens) 0 [] no_cond cs tt in
        let fine : Each (CompFine outer inner A) here = fine_each outer inner A here mine around
        (λ u. keyed) in
        let homes : List Layout = map home_layout (homes_in A 0 0 1) in
        let deep : List (List PlacedComp) = levels_in A 0 here in (
          (types.0, fine),
          paths_in A 0 0 1 here (no_layout ∷ []) [] (rule
              ∙ ap (λ (l : List Layout). no_layout ∷ l) (sym (append-nil homes))) refl
              (here ∷ []) [] (ap (λ (l : List (List PlacedComp)). here ∷ l)
              (sym (append-nil deep))) refl types.1 (omega arith)
              (each_map (CompFine outer inner A) (λ p. Fits inner (scope_key S (shaped p)))
              (λ p f. f.room) here fine) (λ u. each_map (CompFine outer inner A)
              (λ p. AreKeyed S (p.outer_gens ++ p.gens)) (λ p f. f.keyed u) here fine),
        )
