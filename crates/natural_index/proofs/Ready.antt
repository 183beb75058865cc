-- What is known of the comprehensions of a well-formed form at a path, before they become SELECTs.
use Rattle.std.proofs.Common.{◌≡◌, ℕ, zero, suc, ◌+◌, ◌<◌, List, [], ◌∷◌, map, refl, sym, ap, ◌∙◌}
use Rattle.std.proofs.Common.{subst, arith, get_or, length}
use Rattle.std.specs.List.{AllByRecursion as Each}
use Rattle.nq_model.specs.Types.{TypeTree, bag}
use Rattle.nq_model.specs.declared.table.ColumnType.TheVariants.{Int, Bool as Truth, Text}
use Rattle.nq_model.specs.declared.table.Schema.{Schema}
use Rattle.nq_model.specs.declared.table.TableShape.{TableShape}
use Rattle.nq_model.proofs.Bags.{reordered_sym}
use Rattle.nq_model.proofs.Canonical.{reordered_sorted}
use Rattle.nq_model.proofs.Numberings.{each_map, each_reordered}
use Rattle.nq_ir.specs.Among.{Among, first, later}
use Rattle.nq_ir.specs.Meanings.{EachBoth}
use Rattle.nq_ir.specs.Parts.{bags, element_types}
use Rattle.nq_ir.specs.Paths.{paths, element_at}
use Rattle.nq_ir.specs.Spots.{PlacedComp, StrandTree, placed, shaped, by_tag, strands_at, levels, levels_in}
use Rattle.nq_ir.specs.Trees.{FormTree, Comps, no_comp, comp, no_cond}
use Rattle.nq_ir.specs.WellFormed.{IsWellFormed}
use Rattle.nq_ir.specs.declared.base.Gen.{Gen}
use Rattle.nq_ir.specs.declared.path.Step.{Step}
use Rattle.nq_ir.proofs.Distinct.{each_among, among_map}
use Rattle.nq_ir.proofs.Paths.{proper, shred, elements_are, paths_count}
use Rattle.stitcher.specs.Linked.{Home, homes_in}
use Rattle.stitcher.specs.Schemes.{element_of}
use Rattle.stitcher.proofs.Homes.{homes_long, homes_before}
use Rattle.flatten.proofs.LetForms.{FineStrand, fine_here, at_levels}
use Rattle.natural_keys.specs.declared.layout.Layout.{Layout}
use Rattle.natural_keys.specs.Layouts.{key_columns, scope_key, layout_of, layout_at, no_layout}
use Rattle.natural_keys.specs.Layouts.{strands_by_path, inner_layouts, outer_layouts}
use Rattle.natural_keys.proofs.LayoutFacts.{most_fits}
use Rattle.natural_index.proofs.Rooms.{Around, Housed, StandFrom, housed}
use Rattle.natural_index.proofs.Typed.{FitsIn}

pub get_mapped : {A B : Type 0} (f : A → B) (xs : List A) (q : ℕ) (d : A) (e : B) → q < length xs
    → get_or (map f xs) q e ≡ f (get_or xs q d)
get_mapped f [] q d e h = absurd (omega (arith, h))
get_mapped f (x ∷ xs) zero d e h = refl
get_mapped f (x ∷ xs) (suc q) d e h = get_mapped f xs q d e (omega (arith, h))

get_among : {A : Type 0} (xs : List A) (q : ℕ) (d : A) → q < length xs → Among (get_or xs q d) xs
get_among [] q d h = absurd (omega (arith, h))
get_among (x ∷ xs) zero d h = first
get_among (x ∷ xs) (suc q) d h = later (get_among xs q d (omega (arith, h)))

pub each_of : {A : Type 0} (P : A → Type 0) (xs : List A) → ((x : A) → Among x xs → P x) → Each P xs
each_of P [] f = tt
each_of P (x ∷ xs) f = (f x first, each_of P xs (λ y m. f y (later m)))

pub long : {A B : Type 0} (f : A → B) (xs : List A) → length (map f xs) ≡ length xs
long f [] = refl
long f (x ∷ xs) = ap suc (long f xs)

both_at : {A B : Type 0} (P : A → B → Type 0) (xs : List A) (ys : List B) (q : ℕ) (d : A) (e : B)
    → EachBoth P xs ys → q < length xs → P (get_or xs q d) (get_or ys q e)
both_at P [] ys q d e h l = absurd (omega (arith, l))
both_at P (x ∷ xs) [] q d e h l = absurd h
both_at P (x ∷ xs) (y ∷ ys) zero d e h l = h.0
both_at P (x ∷ xs) (y ∷ ys) (suc q) d e h l = both_at P xs ys q d e h.1 (omega (arith, l))

-- a comprehension whose elements have the type, with room in these layouts for the keys around and
-- in scope
pub record Ready (S : List TableShape) (outer inner : Layout) (a : TypeTree)
    (d : StrandTree) : Type 0 where
  pub fine : FineStrand S a d
  pub around : FitsIn outer (key_columns S d.outer_gens)
  pub own : FitsIn inner (scope_key S d)

room : (S : List TableShape) (ds : List StrandTree) {d : StrandTree} → Among d ds
    → FitsIn (layout_of S ds) (scope_key S d)
room S ds m = record {
  ints = most_fits S Int m;
  bools = most_fits S Truth m;
  texts = most_fits S Text m;
}

no_room : FitsIn no_layout []
no_room = record { ints = omega arith; bools = omega arith; texts = omega arith }

placed_top : (cs : Comps) → Each (λ c. c.outer_gens ≡ []) (placed 0 [] no_cond cs)
placed_top no_comp = tt
placed_top (comp t gens conds b cs) = (refl, placed_top cs)

module _ (schema : Schema) (form : FormTree) (w : IsWellFormed schema.tables form) where
  abbrev S : List TableShape
  S = schema.tables

  abbrev a : TypeTree
  a = form.element

  abbrev ps : List (List Step)
  ps = paths (bag a)

  abbrev sort : List PlacedComp → List StrandTree
  sort l = by_tag (map shaped l)

  abbrev level : ℕ → List PlacedComp
  level q = get_or (levels a form.comps) q []

  pub paths_long : length ps ≡ bags (bag a)
  paths_long = paths_count (bag a)

  levels_count : length (levels a form.comps) ≡ length ps
  levels_count = sym (ap length (at_levels schema form w)) ∙ long (shred a form.comps) ps

  -- what stands at a path
  strands_get : (q : ℕ) → q < length ps → get_or (strands_by_path form) q []
      ≡ strands_at a form.comps (get_or ps q [])
  strands_get q h = get_mapped (strands_at a form.comps) ps q [] [] h

  level_get : (q : ℕ) → q < length ps → level q ≡ shred a form.comps (get_or ps q [])
  level_get q h = ap (λ (l : List (List PlacedComp)). get_or l q []) (sym (at_levels schema form w))
      ∙ get_mapped (shred a form.comps) ps q [] [] h

  sorted_get : (q : ℕ) → q < length ps → get_or (strands_by_path form) q [] ≡ sort (level q)
  sorted_get q h = strands_get q h ∙ ap sort (sym (level_get q h))

  pub element_get : (q : ℕ) → q < length ps → element_of (element_types (bag a)) q
      ≡ element_at (bag a) (get_or ps q [])
  element_get q h = ap (λ (l : List TypeTree). element_of l q)
      (sym (elements_are a (proper a w.labels_rise))) ∙ get_mapped (element_at (bag a)) ps q [] _ h

  fine_get : (q : ℕ) → q < length ps → Each (FineStrand S (element_of (element_types (bag a)) q))
      (get_or (strands_by_path form) q [])
  fine_get q h =
      subst (λ (z : List StrandTree). Each (FineStrand S (element_of (element_types (bag a)) q)) z)
      (sym (strands_get q h))
      (subst (λ (z : TypeTree). Each (FineStrand S z) (strands_at a form.comps (get_or ps q [])))
      (sym (element_get q h))
      (fine_here schema form w (get_or ps q []) (get_among ps q [] h)))

  inner_get : (q : ℕ) → q < length ps → layout_at (inner_layouts S form) q
      ≡ layout_of S (get_or (strands_by_path form) q [])
  inner_get q h = get_mapped (layout_of S) (strands_by_path form) q [] no_layout
      (subst (λ n. q < n) (sym (long (strands_at a form.comps) ps)) h)

  own_get : (q : ℕ) → q < length ps → Each (λ d. FitsIn (layout_at (inner_layouts S form) q)
      (scope_key S d)) (get_or (strands_by_path form) q [])
  own_get q h =
      subst (λ (z : Layout). Each (λ d. FitsIn z (scope_key S d))
      (get_or (strands_by_path form) q [])) (sym (inner_get q h))
      (each_of (λ d. FitsIn (layout_of S (get_or (strands_by_path form) q [])) (scope_key S d))
      (get_or (strands_by_path form) q []) (λ d m. room S
      (get_or (strands_by_path form) q []) m))

  -- what holds of all comprehensions at a path holds in the order of their tags, and back
  to_sorted : (P : StrandTree → Type 0) (l : List PlacedComp) → Each P (map shaped l)
      → Each P (sort l)
  to_sorted P l e = each_reordered P (map shaped l) (sort l) (reordered_sorted _ (map shaped l)) e

  from_sorted : (P : StrandTree → Type 0) (l : List PlacedComp) → Each P (sort l)
      → Each P (map shaped l)
  from_sorted P l e = each_reordered P (sort l) (map shaped l)
      (reordered_sym (map shaped l) (sort l) (reordered_sorted _ (map shaped l))) e

  mapped : (P : StrandTree → Type 0) (l : List PlacedComp) → Each (λ c. P (shaped c)) l
      → Each P (map shaped l)
  mapped P [] e = tt
  mapped P (c ∷ l) e = (e.0, mapped P l e.1)

  -- one that is around another has room in the layout of its path
  around_room : (h : ℕ) → h < length ps → (c : PlacedComp) → Around (level h) c
      → FitsIn (layout_at (inner_layouts S form) h) (key_columns S c.outer_gens)
  around_room h l c o =
      let all : Each (λ d. FitsIn (layout_at (inner_layouts S form) h) (scope_key S d))
      (map shaped (level h)) =
      from_sorted (λ d. FitsIn (layout_at (inner_layouts S form) h) (scope_key S d)) (level h)
      (subst (λ (z : List StrandTree). Each (λ d. FitsIn (layout_at (inner_layouts S form) h)
      (scope_key S d)) z) (sorted_get h l) (own_get h l)) in
      let one : FitsIn (layout_at (inner_layouts S form) h) (scope_key S (shaped o.of))
      = each_among (λ d. FitsIn (layout_at (inner_layouts S form) h) (scope_key S d))
      (among_map shaped o.among) all in
      subst (λ (z : List Gen). FitsIn (layout_at (inner_layouts S form) h) (key_columns S z))
      (sym o.gens) one

  abbrev here : List PlacedComp
  here = placed 0 [] no_cond form.comps

  abbrev inner : List (List PlacedComp)
  inner = levels_in a 0 here

  abbrev Room : ℕ → StrandTree → Type 0
  Room q d = FitsIn (layout_at (outer_layouts S form) q) (key_columns S d.outer_gens)

  stand : StandFrom level 1 inner
  stand k h = let z : 1 + k ≡ suc k = omega arith in ap level z

  types_count : length (element_types (bag a)) ≡ length ps
  types_count = sym (ap length (elements_are a (proper a w.labels_rise)))
      ∙ long (element_at (bag a)) ps

  -- each has room for the keys around it in the layout around
  outer_get : (q : ℕ) → q < length ps → Each (Room q) (get_or (strands_by_path form) q [])
  outer_get zero h =
      let top : Each (λ c. Room 0 (shaped c)) here = each_map (λ c. c.outer_gens ≡ [])
      (λ c. Room 0 (shaped c)) (λ c e. subst (λ (z : List Gen). FitsIn no_layout
      (key_columns S z)) (sym e) no_room) here (placed_top form.comps) in
      subst (λ (z : List StrandTree). Each (Room 0) z) (sym (sorted_get 0 h))
      (to_sorted (Room 0) here (mapped (Room 0) here top))
  outer_get (suc j) h =
      let homes : List Home = homes_in a 0 0 1 in
      let home : Home = get_or homes j (0, 0) in
      let within : j < length homes = (let e : length homes ≡ bags a = homes_long a 0 0 1 in let f : length ps ≡ suc (bags a) = paths_long in omega (arith, e, f, h)) in
      let before = homes_before a (suc j) (omega arith) (subst (λ n. suc j < n)
      (sym types_count) h) in
      let known : home.0 < length ps = (let b : home.0 < suc j = before.0 in omega (arith, b, h)) in
      let same : layout_at (outer_layouts S form) (suc j) ≡ layout_at (inner_layouts S form) home.0
      = get_mapped (λ (z : Home). layout_at (inner_layouts S form) z.0) homes j
      (0, 0) no_layout within in
      let housed_here : Each (Around (level home.0)) (get_or inner j [])
      = both_at (Housed level) homes inner j (0, 0) []
      (housed level a 0 0 1 here refl stand) within in
      let rooms : Each (λ c. Room (suc j) (shaped c)) (get_or inner j [])
      = each_map (Around (level home.0)) (λ c. Room (suc j) (shaped c))
      (λ c o. subst (λ (z : Layout). FitsIn z (key_columns S c.outer_gens)) (sym same)
      (around_room home.0 known c o)) (get_or inner j []) housed_here in
      subst (λ (z : List StrandTree). Each (Room (suc j)) z) (sym (sorted_get (suc j) h))
      (to_sorted (Room (suc j)) (get_or inner j []) (mapped (Room (suc j))
      (get_or inner j []) rooms))

  abbrev pub ReadyAt : ℕ → StrandTree → Type 0
  ReadyAt q d = Ready S (layout_at (outer_layouts S form) q) (layout_at (inner_layouts S form) q)
      (element_of (element_types (bag a)) q) d

  pub ready : (q : ℕ) → q < length ps → Each (ReadyAt q) (get_or (strands_by_path form) q [])
  ready q h = three (get_or (strands_by_path form) q []) (fine_get q h) (outer_get q h)
      (own_get q h)
    where
      three : (ds : List StrandTree) → Each (FineStrand S (element_of (element_types (bag a)) q)) ds
          → Each (Room q) ds → Each (λ d. FitsIn (layout_at (inner_layouts S form) q)
          (scope_key S d)) ds → Each (ReadyAt q) ds
      three [] f r o = tt
      three (d ∷ ds) f r o = (record { fine = f.0; around = r.0; own = o.0 }, three ds f.1 r.1 o.1)
