-- Answers that the let forms of a form allow are linked.
use Rattle.std.proofs.Common.{◌≡◌, ◌≢◌, ℕ, ℤ, pos, zero, suc, ◌+◌, ◌-◌, ◌<◌, ◌≤◌, List, [], ◌∷◌, ◌++◌, map, refl, sym, ap, ap₂, ◌∙◌, subst, Bool, true, false, length, arith, flat_map, get_or, ⊎_elim, length-append, ◌&&◌, nat_eq}
use Rattle.std.proofs.Math.ListN.{get_or-append}
use Rattle.std.proofs.Math.Seq.{get_or-append_right}
use Rattle.std.proofs.lemmas.Bool.{cases_lt}
use Rattle.std.proofs.lemmas.Bool.Decides.{Decides-eqb, Decides-int_eq}
use Rattle.std.specs.List.{AllByRecursion as Each}
use Rattle.std.specs.Ordering.{int_eq, nat_cmp}
use Rattle.nq_model.proofs.Bags.{reordered_sym}
use Rattle.nq_model.proofs.Canonical.{reordered_sorted}
use Rattle.nq_model.proofs.Numberings.{each_map, each_pick, each_reordered, reordered_map}
use Rattle.nq_model.specs.Bags.{Pick, Reordered, here, there}
use Rattle.nq_model.specs.Numberings.{count_from}
use Rattle.nq_model.specs.Operators.{int_of}
use Rattle.nq_model.specs.Orders.{AreDistinct}
use Rattle.nq_model.specs.Tables.{IsProperSchema}
use Rattle.nq_model.specs.Types.{TypeTree, FieldTypes, int, bool, text, rec, bag, fun, none, field}
use Rattle.nq_model.specs.declared.table.Cell.{Cell}
use Rattle.nq_model.specs.declared.table.Schema.{Schema}
use Rattle.nq_ir.specs.declared.base.Gen.{Gen}
use Rattle.nq_ir.specs.declared.path.Step.{Step}
use Rattle.nq_ir.specs.Lets.{FlatRow, FormGives, insert_lets, AllGive}
use Rattle.nq_ir.specs.Meanings.{Tables, EachBoth}
use Rattle.nq_ir.specs.Parts.{slots, bags, bags_in, element_types}
use Rattle.nq_ir.specs.Paths.{paths, element_at}
use Rattle.nq_ir.specs.Shredded.{shredded}
use Rattle.nq_ir.specs.Spots.{PlacedComp, StrandTree, shaped, placed, under, bags_of, both, levels, levels_in, levels_fields, strands, strands_at, by_tag}
use Rattle.nq_ir.specs.Trees.{Comps, no_comp, comp, Conds, no_cond, FormTree}
use Rattle.nq_ir.specs.WellFormed.{IsWellFormed, comps_numbers, comps_tags, column_names}
use Rattle.nq_ir.proofs.Allowed.{StrandFine, levels_ok}
use Rattle.nq_ir.proofs.Distinct.{Among, first, later, Distinct, distinct, each_among, each_join, among_left, among_right, among_map}
use Rattle.nq_ir.proofs.Legible.{among_reordered, among_cases}
use Rattle.nq_ir.proofs.Levels.{levels_apart}
use Rattle.nq_ir.proofs.Nested.{map_of_map}
use Rattle.nq_ir.proofs.Scopes.{Scoping, look, all_scopes, all_tags}
use Rattle.nq_ir.proofs.Stored.{columns_differ}
use Rattle.nq_ir.proofs.Whole.{tags_apart, strands_at_paths}
use Rattle.shred_types.specs.Columns.{row_cells}
use Rattle.shred_types.proofs.Places.{row_slot}
use Rattle.stitcher.specs.FlatNumbers.{flat_numbers, AreLaidOut}
use Rattle.stitcher.specs.Linked.{Home, homes, homes_in, homes_fields, home_of, row_at, IsGiven, HasLinks, IsLinked}
use Rattle.stitcher.specs.Schemes.{AnswerRows, element_of}
use Rattle.stitcher.proofs.Homes.{homes_long, homes_before}
use Rattle.stitcher.proofs.Laid.{types_length}
use Rattle.stitcher.proofs.Linked.{links_linked}
use Rattle.nq_compile.proofs.Spots.{Spread, form_spread, inner_at, indexes, IsAround, count}

-- lists of differing elements
distinct_pick : {A : Type 0} {y : A} {ys rest : List A} → Pick y ys rest → AreDistinct ys → Each (λ z. y ≢ z) rest × AreDistinct rest
distinct_pick here d = d
distinct_pick {y = y} (there {z = z} p) d =
    let r = distinct_pick p d.1 in
    let e = each_pick (λ w. z ≢ w) p d.0 in
    (((λ s. e.0 (sym s)), r.0), (e.1, r.1))

distinct_reordered : {A : Type 0} (xs ys : List A) → Reordered xs ys → AreDistinct ys → AreDistinct xs
distinct_reordered [] ys r d = tt
distinct_reordered (x ∷ xs) ys r d =
    let e = distinct_pick r.2 d in
    let own : Each (λ z. r.0 ≢ z) xs = each_reordered (λ z. r.0 ≢ z) r.1 xs (reordered_sym xs r.1 r.4) e.0 in
    (each_map (λ z. r.0 ≢ z) (λ z. x ≢ z) (λ z n s. n (sym r.3 ∙ s)) xs own, distinct_reordered xs r.1 r.4 e.1)

distinct_join : {A : Type 0} (xs ys : List A) → AreDistinct xs → AreDistinct ys → Each (λ x. Each (λ y. x ≢ y) ys) xs → AreDistinct (xs ++ ys)
distinct_join [] ys d e h = e
distinct_join (x ∷ xs) ys d e h = (each_join (λ y. x ≢ y) xs ys d.0 h.0, distinct_join xs ys d.1 e h.1)

distinct_at : {A : Type 0} (xs : List A) (z : A) (j k : ℕ) → AreDistinct xs → j < k → k < length xs → get_or xs j z ≡ get_or xs k z → ⊥
distinct_at [] z j k d l h e = absurd (omega (arith, h))
distinct_at (x ∷ xs) z j zero d l h e = absurd (omega (arith, l))
distinct_at (x ∷ xs) z zero (suc k) d l h e = got xs k (omega (arith, h)) d.0 e
  where
    got : (ys : List _) (i : ℕ) → i < length ys → Each (λ y. x ≢ y) ys → x ≡ get_or ys i z → ⊥
    got [] i b h s = absurd (omega (arith, b))
    got (y ∷ ys) zero b h s = h.0 s
    got (y ∷ ys) (suc i) b h s = got ys i (omega (arith, b)) h.1 s
distinct_at (x ∷ xs) z (suc j) (suc k) d l h e = distinct_at xs z j k d.1 (omega (arith, l)) (omega (arith, h)) e

-- the same of numbers
apart_numbers : (n : ℕ) (ns : List ℕ) → Each (λ m. nat_eq n m ≡ false) ns → Each (λ m. n ≢ m) ns
apart_numbers n ns e = each_map (λ m. nat_eq n m ≡ false) (λ m. n ≢ m) (λ m f s. let t : true ≡ false = sym ((Decides-eqb n m).1 s) ∙ f in cc) ns e

all_distinct : (ns : List ℕ) → Distinct ns → AreDistinct ns
all_distinct [] d = tt
all_distinct (n ∷ ns) d = (apart_numbers n ns d.0, all_distinct ns d.1)

distinct_numbers : (ms ns : List ℕ) → Reordered ms ns → Distinct ms → Distinct ns
distinct_numbers ms ns r d = distinct ns (distinct_reordered ns ms (reordered_sym ms ns r) (all_distinct ms d))

-- the numbers of one tag
tagged : (t a n : ℕ) → Each (λ (i : ℕ × ℕ). (i.0 ≡ t) × (a ≤ i.1)) (map (λ n. (t, n)) (count_from a n))
tagged t a zero = tt
tagged t a (suc n) = (
  (refl, omega arith),
  each_map (λ (i : ℕ × ℕ). (i.0 ≡ t) × (suc a ≤ i.1)) (λ i. (i.0 ≡ t) × (a ≤ i.1)) (λ i h. (h.0, omega (arith, h.1))) (map (λ n. (t, n)) (count_from (suc a) n)) (tagged t (suc a) n),
)

tagged_distinct : (t a n : ℕ) → AreDistinct {A = ℕ × ℕ} (map (λ n. (t, n)) (count_from a n))
tagged_distinct t a zero = tt
tagged_distinct t a (suc n) = (
  each_map (λ (i : ℕ × ℕ). (i.0 ≡ t) × (suc a ≤ i.1)) (λ (i : ℕ × ℕ). ◌≢◌ {A = ℕ × ℕ} (t, a) i) (λ i h s. let e : a ≡ i.1 = ap (λ (z : ℕ × ℕ). z.1) s in omega (arith, e, h.1)) (map (λ n. (t, n)) (count_from (suc a) n)) (tagged t (suc a) n),
  tagged_distinct t (suc a) n,
)

count_among : (a n j : ℕ) → j < n → Among (a + j) (count_from a n)
count_among a zero j h = absurd (omega (arith, h))
count_among a (suc n) zero h =
    let e : a ≡ a + 0 = omega arith in
    subst (λ m. Among m (a ∷ count_from (suc a) n)) e first
count_among a (suc n) (suc j) h =
    let e : suc a + j ≡ a + suc j = omega arith in
    later (subst (λ m. Among m (count_from (suc a) n)) e (count_among (suc a) n j (omega (arith, h))))

flat_among : {A B : Type 0} (f : A → List B) (x : B) (y : A) (xs : List A) → Among y xs → Among x (f y) → Among x (flat_map f xs)
flat_among f x y [] m b = elim m [ ]
flat_among f x y (z ∷ xs) first b = among_left (flat_map f xs) b
flat_among f x y (z ∷ xs) (later m) b = among_right (f z) (flat_among f x y xs m b)

among_place : {A : Type 0} {x : A} {xs : List A} → Among x xs → (z : A) → (k : ℕ) × (k < length xs) × (get_or xs k z ≡ x)
among_place first z = (0, omega arith, refl)
among_place (later m) z = let r = among_place m z in (suc r.0, omega (arith, r.1), r.2)

among_unmapped : {A B : Type 0} (f : A → B) {y : B} (xs : List A) → Among y (map f xs) → (x : A) × Among x xs × (y ≡ f x)
among_unmapped f [] m = elim m [ ]
among_unmapped f (x ∷ xs) m = ⊎_elim (λ e. (x, first, e)) (λ n. let r = among_unmapped f xs n in (r.0, later r.1, r.2)) (among_cases m)

map_long : {A B : Type 0} (f : A → B) (xs : List A) → length (map f xs) ≡ length xs
map_long f [] = refl
map_long f (x ∷ xs) = ap suc (map_long f xs)

got_map : {A B : Type 0} (f : A → B) (xs : List A) (k : ℕ) (d : B) (z : A) → k < length xs → get_or (map f xs) k d ≡ f (get_or xs k z)
got_map f [] k d z h = absurd (omega (arith, h))
got_map f (x ∷ xs) zero d z h = refl
got_map f (x ∷ xs) (suc k) d z h = got_map f xs k d z (omega (arith, h))

each_got : {A : Type 0} (P : A → Type 0) (xs : List A) (k : ℕ) (z : A) → k < length xs → Each P xs → P (get_or xs k z)
each_got P [] k z h e = absurd (omega (arith, h))
each_got P (x ∷ xs) zero z h e = e.0
each_got P (x ∷ xs) (suc k) z h e = each_got P xs k z (omega (arith, h)) e.1

got_mapped : {A B : Type 0} (f : List A → List B) → f [] ≡ [] → (xs : List (List A)) (k : ℕ) → get_or (map f xs) k [] ≡ f (get_or xs k [])
got_mapped f e [] k = sym e
got_mapped f e (x ∷ xs) zero = refl
got_mapped f e (x ∷ xs) (suc k) = got_mapped f e xs k

-- a comprehension inside another one has it as its parent
placed_parent : (p : ℕ) (og : List Gen) (oc : Conds) (cs : Comps) → Each (λ (c : PlacedComp). c.parent ≡ p) (placed p og oc cs)
placed_parent p og oc no_comp = tt
placed_parent p og oc (comp t gens conds b cs) = (refl, placed_parent p og oc cs)

abbrev tag_of : PlacedComp → ℕ
tag_of d = d.tag

under_parent : (s : ℕ) (above : List PlacedComp) → Each (λ (c : PlacedComp). Among c.parent (map tag_of above)) (flat_map (under s) above)
under_parent s [] = tt
under_parent s (d ∷ above) =
    each_join (λ (c : PlacedComp). Among c.parent (map tag_of (d ∷ above))) (under s d) (flat_map (under s) above)
    (each_map (λ (c : PlacedComp). c.parent ≡ d.tag) (λ c. Among c.parent (map tag_of (d ∷ above))) (λ c e. subst (λ t. Among t (map tag_of (d ∷ above))) (sym e) first) (under s d) (placed_parent d.tag (d.outer_gens ++ d.gens) (both d.outer_conds d.conds) (get_or (bags_of d.body) s no_comp)))
    (each_map (λ (c : PlacedComp). Among c.parent (map tag_of above)) (λ c. Among c.parent (map tag_of (d ∷ above))) (λ c m. later m) (flat_map (under s) above) (under_parent s above))

mutual
  levels_long : (a : TypeTree) (s : ℕ) (above : List PlacedComp) → length (levels_in a s above) ≡ bags a
  levels_long int s above = refl
  levels_long bool s above = refl
  levels_long text s above = refl
  levels_long (rec fs) s above = levels_fields_long fs s above
  levels_long (bag a) s above = ap suc (levels_long a 0 (flat_map (under s) above))
  levels_long (fun a b) s above = refl

  levels_fields_long : (fs : FieldTypes) (s : ℕ) (above : List PlacedComp) → length (levels_fields fs s above) ≡ bags_in fs
  levels_fields_long none s above = refl
  levels_fields_long (field l a fs) s above =
      length-append (levels_in a s above) (levels_fields fs (s + slots a) above) ∙ ap₂ (λ x y. x + y) (levels_long a s above) (levels_fields_long fs (s + slots a) above)

-- the comprehensions at a path are those inside the ones at its home
module _ (all : List (List PlacedComp)) where
  abbrev Holds : List (List PlacedComp) → ℕ → ℕ → Type 0
  Holds own n w = (k : ℕ) → k < w → get_or all (n + k) [] ≡ get_or own k []

  abbrev IsUnder : ℕ → Home → Type 0
  IsUnder n home = get_or all n [] ≡ flat_map (under home.1) (get_or all home.0 [])

  holds_left : (xs ys : List (List PlacedComp)) (n w v : ℕ) → length xs ≡ w → Holds (xs ++ ys) n (w + v) → Holds xs n w
  holds_left xs ys n w v e h k b = h k (omega (arith, b)) ∙ get_or-append xs ys [] k (omega (arith, b, e))

  holds_right : (xs ys : List (List PlacedComp)) (n w v : ℕ) → length xs ≡ w → Holds (xs ++ ys) n (w + v) → Holds ys (n + w) v
  holds_right xs ys n w v e h k b =
      let at : n + w + k ≡ n + (w + k) = omega arith in
      let back : w + k - length xs ≡ k = omega (arith, e) in
      ap (λ m. get_or all m []) at ∙ h (w + k) (omega (arith, b)) ∙ get_or-append_right xs ys (w + k) [] (omega (arith, e)) ∙ ap (λ m. get_or ys m []) back

  mutual
    under_homes : (a : TypeTree) (q s n k : ℕ) (above : List PlacedComp) → get_or all q [] ≡ above → Holds (levels_in a s above) n (bags a) → k < bags a → IsUnder (n + k) (get_or (homes_in a q s n) k (0, 0))
    under_homes int q s n k above e h b = absurd (omega (arith, b))
    under_homes bool q s n k above e h b = absurd (omega (arith, b))
    under_homes text q s n k above e h b = absurd (omega (arith, b))
    under_homes (rec fs) q s n k above e h b = under_homes_fields fs q s n k above e h b
    under_homes (bag a) q s n zero above e h b = h 0 (omega arith) ∙ ap (flat_map (under s)) (sym e)
    under_homes (bag a) q s n (suc k) above e h b =
        let here_is : get_or all n [] ≡ flat_map (under s) above = (let z : n ≡ n + 0 = omega arith in ap (λ m. get_or all m []) z ∙ h 0 (omega arith)) in
        let at : suc n + k ≡ n + suc k = omega arith in
        subst (λ m. IsUnder m (get_or (homes_in a n 0 (suc n)) k (0, 0))) at
        (under_homes a n 0 (suc n) k (flat_map (under s) above) here_is (λ i c. let z : suc n + i ≡ n + suc i = omega arith in ap (λ m. get_or all m []) z ∙ h (suc i) (omega (arith, c))) (omega (arith, b)))
    under_homes (fun a c) q s n k above e h b = absurd (omega (arith, b))

    under_homes_fields : (fs : FieldTypes) (q s n k : ℕ) (above : List PlacedComp) → get_or all q [] ≡ above → Holds (levels_fields fs s above) n (bags_in fs) → k < bags_in fs → IsUnder (n + k) (get_or (homes_fields fs q s n) k (0, 0))
    under_homes_fields none q s n k above e h b = absurd (omega (arith, b))
    under_homes_fields (field l a fs) q s n k above e h b =
        let own = homes_in a q s n in
        let others = homes_fields fs q (s + slots a) (n + bags a) in
        let mine = levels_in a s above in
        let rest = levels_fields fs (s + slots a) above in
        ⊎_elim
        (λ u. subst (λ z. IsUnder (n + k) z) (sym (get_or-append own others (0, 0) k (omega (arith, u, homes_long a q s n)))) (under_homes a q s n k above e (holds_left mine rest n (bags a) (bags_in fs) (levels_long a s above) h) u))
        (λ u.
        let at : n + bags a + (k - bags a) ≡ n + k = omega (arith, u) in
        let back : k - length own ≡ k - bags a = ap (λ m. k - m) (homes_long a q s n) in
        let got : get_or (own ++ others) k (0, 0) ≡ get_or others (k - bags a) (0, 0) = get_or-append_right own others k (0, 0) (omega (arith, u, homes_long a q s n)) ∙ ap (λ m. get_or others m (0, 0)) back in
        subst (λ z. IsUnder (n + k) z) (sym got) (subst (λ m. IsUnder m (get_or others (k - bags a) (0, 0))) at (under_homes_fields fs q (s + slots a) (n + bags a) (k - bags a) above e (holds_right mine rest n (bags a) (bags_in fs) (levels_long a s above) h) (omega (arith, u, b)))))
        (cases_lt k (bags a))

levels_under : (a : TypeTree) (cs : Comps) (k : ℕ) → k < bags a → IsUnder (levels a cs) (suc k) (home_of (homes (bag a)) (suc k))
levels_under a cs k b =
    let at : 1 + k ≡ suc k = omega arith in
    subst (λ m. IsUnder (levels a cs) m (home_of (homes (bag a)) (suc k))) at
    (under_homes (levels a cs) a 0 0 1 k (placed 0 [] no_cond cs) refl (λ i c. let z : 1 + i ≡ suc i = omega arith in ap (λ m. get_or (levels a cs) m []) z) b)

-- the spots of strands of differing tags have differing indexes
module _ (N : ℕ → ℕ) where
  abbrev own_indexes : StrandTree → List (ℕ × ℕ)
  own_indexes c = map (λ n. (c.tag, n)) (count_from 1 (N c.tag))

  other_tags : (t : ℕ) (cs : List StrandTree) → Each (λ m. nat_eq t m ≡ false) (map (λ c. c.tag) cs) → Each (λ (i : ℕ × ℕ). t ≢ i.0) (flat_map own_indexes cs)
  other_tags t [] h = tt
  other_tags t (c ∷ cs) h =
      each_join (λ (i : ℕ × ℕ). t ≢ i.0) (own_indexes c) (flat_map own_indexes cs)
      (each_map (λ (i : ℕ × ℕ). (i.0 ≡ c.tag) × (1 ≤ i.1)) (λ i. t ≢ i.0) (λ i k s. let e : true ≡ false = sym ((Decides-eqb t c.tag).1 (s ∙ k.0)) ∙ h.0 in cc) (own_indexes c) (tagged c.tag 1 (N c.tag)))
      (other_tags t cs h.1)

  indexes_distinct : (cs : List StrandTree) → Distinct (map (λ c. c.tag) cs) → AreDistinct (flat_map own_indexes cs)
  indexes_distinct [] d = tt
  indexes_distinct (c ∷ cs) d =
      distinct_join (own_indexes c) (flat_map own_indexes cs) (tagged_distinct c.tag 1 (N c.tag)) (indexes_distinct cs d.1)
      (each_map (λ (i : ℕ × ℕ). (i.0 ≡ c.tag) × (1 ≤ i.1)) (λ i. Each (λ j. i ≢ j) (flat_map own_indexes cs))
      (λ i k. each_map (λ (j : ℕ × ℕ). c.tag ≢ j.0) (λ j. i ≢ j) (λ j n s. n (sym k.0 ∙ ap (λ (z : ℕ × ℕ). z.0) s)) (flat_map own_indexes cs) (other_tags c.tag cs d.0))
      (own_indexes c) (tagged c.tag 1 (N c.tag)))

-- a tag and a number as integers
abbrev as_ints : ℕ × ℕ → ℤ × ℤ
as_ints i = (pos i.0, pos i.1)

abbrev same_ints : ℤ × ℤ → ℤ × ℤ → Bool
same_ints i j = int_eq i.0 j.0 && int_eq i.1 j.1

both_true : (a b : Bool) → (a && b) ≡ true → (a ≡ true) × (b ≡ true)
both_true true true e = (refl, refl)
both_true true false e = (refl, e)
both_true false b e = (e, absurd (let n : false ≡ true = e in cc))

same_self : (i : ℤ × ℤ) → same_ints i i ≡ true
same_self i = ap₂ (λ (x y : Bool). x && y) ((Decides-int_eq i.0 i.0).1 refl) ((Decides-int_eq i.1 i.1).1 refl)

others_differ : (i j : ℕ × ℕ) → (i ≡ j → ⊥) → same_ints (as_ints i) (as_ints j) ≡ false
others_differ i j n = go (same_ints (as_ints i) (as_ints j)) refl
  where
    go : (b : Bool) → same_ints (as_ints i) (as_ints j) ≡ b → b ≡ false
    go false e = refl
    go true e =
        let t = both_true (int_eq (pos i.0) (pos j.0)) (int_eq (pos i.1) (pos j.1)) e in
        let a : i.0 ≡ j.0 = (let p : pos i.0 ≡ pos j.0 = (Decides-int_eq (pos i.0) (pos j.0)).0 t.0 in cc) in
        let b : i.1 ≡ j.1 = (let p : pos i.1 ≡ pos j.1 = (Decides-int_eq (pos i.1) (pos j.1)).0 t.1 in cc) in
        absurd (n (ap₂ {C = ℕ × ℕ} (λ x y. (x, y)) a b))

no_row : FlatRow
no_row = record { outer = (0, 0); leaf_cells = []; inners = [] }

module _ (schema : Schema) (form : FormTree) (well : IsWellFormed schema.tables form) (proper : IsProperSchema schema) (ts : Tables) where
  abbrev A : TypeTree
  A = form.element

  abbrev cs : Comps
  cs = form.comps

  abbrev info : ℕ → Scoping
  info = look (all_scopes cs)

  abbrev tags : List ℕ
  tags = all_tags cs

  abbrev cols : List ℕ → List (List ℕ)
  cols = column_names schema.tables

  abbrev SpreadAt : TypeTree → List StrandTree → List FlatRow → Type 0
  SpreadAt B level rows = Spread cols ts info refl tags (slots B) level rows

  abbrev Gave : List StrandTree → List FlatRow → Type 0
  Gave level rows = (p : List Step) × (B : TypeTree) × FormGives cols ts (insert_lets (record { path = p; element = B; parts = level })) rows

  abbrev LevelOk : TypeTree → List StrandTree → Type 0
  LevelOk B level = Each (StrandFine info tags B) level

  oks : EachBoth LevelOk (element_types (bag A)) (strands A cs)
  oks = levels_ok schema.tables (columns_differ schema proper) A cs well.typed (tags_apart schema form well) (distinct (comps_numbers cs) well.numbers_differ)

  given_mapped : (ps : List (List Step)) (rs : List (List FlatRow)) → EachBoth (λ p r. FormGives cols ts (insert_lets (shredded form p)) r) ps rs → EachBoth Gave (map (strands_at A cs) ps) rs
  given_mapped [] rs h = h
  given_mapped (p ∷ ps) [] h = absurd h
  given_mapped (p ∷ ps) (r ∷ rs) h = ((p, element_at (bag A) p, h.0), given_mapped ps rs h.1)

  at_path : (Bs : List TypeTree) (ls : List (List StrandTree)) (rs : List (List FlatRow)) → EachBoth LevelOk Bs ls → EachBoth Gave (map by_tag ls) rs → (n : ℕ) → n < length Bs → SpreadAt (get_or Bs n int) (by_tag (get_or ls n [])) (get_or rs n [])
  at_path [] ls rs h g n b = absurd (omega (arith, b))
  at_path (B ∷ Bs) [] rs h g n b = absurd h
  at_path (B ∷ Bs) (l ∷ ls) [] h g n b = absurd g
  at_path (B ∷ Bs) (l ∷ ls) (r ∷ rs) h g zero b = form_spread cols ts info refl tags B l r g.0.0 g.0.1 h.0 g.0.2
  at_path (B ∷ Bs) (l ∷ ls) (r ∷ rs) h g (suc n) b = at_path Bs ls rs h.1 g.1 n (omega (arith, b))

  -- the strands at a path, and their tags
  abbrev here_at : ℕ → List StrandTree
  here_at q = get_or (strands A cs) q []

  abbrev placed_at : ℕ → List PlacedComp
  placed_at q = get_or (levels A cs) q []

  strands_here : (q : ℕ) → here_at q ≡ map shaped (placed_at q)
  strands_here q = got_mapped (map shaped) refl (levels A cs) q

  sorted_here : (q : ℕ) → Reordered (here_at q) (by_tag (here_at q))
  sorted_here q = reordered_sorted (λ (d e : StrandTree). nat_cmp d.tag e.tag) (here_at q)

  tags_here : (q : ℕ) → map (λ c. c.tag) (here_at q) ≡ map tag_of (placed_at q)
  tags_here q = ap (map (λ c. c.tag)) (strands_here q) ∙ map_of_map (λ (c : StrandTree). c.tag) shaped (placed_at q)

  each_level : (P : List PlacedComp → Type 0) (ls : List (List PlacedComp)) (q : ℕ) → P [] → Each P ls → P (get_or ls q [])
  each_level P [] q n e = n
  each_level P (l ∷ ls) zero n e = e.0
  each_level P (l ∷ ls) (suc q) n e = each_level P ls q n e.1

  distinct_here : (q : ℕ) → Distinct (map (λ c. c.tag) (here_at q))
  distinct_here q =
      subst Distinct (sym (tags_here q)) (each_level (λ l. Distinct (map tag_of l)) (levels A cs) q tt (levels_apart (λ l. Distinct (map tag_of l)) (λ l d. d) A cs (distinct (comps_tags cs) well.tags_differ)))

  sorted_distinct : (q : ℕ) → Distinct (map (λ c. c.tag) (by_tag (here_at q)))
  sorted_distinct q = distinct_numbers (map (λ c. c.tag) (here_at q)) (map (λ c. c.tag) (by_tag (here_at q))) (reordered_map (λ (c : StrandTree). c.tag) (here_at q) (by_tag (here_at q)) (sorted_here q)) (distinct_here q)

  -- the parent of a strand at a path is a strand at its home
  parent_here : (k : ℕ) → k < bags A → (c : StrandTree) → Among c (here_at (suc k)) → Among c.parent (map (λ d. d.tag) (here_at (home_of (homes (bag A)) (suc k)).0))
  parent_here k b c m =
      let home = home_of (homes (bag A)) (suc k) in
      let d = among_unmapped shaped (placed_at (suc k)) (subst (λ (l : List StrandTree). Among c l) (strands_here (suc k)) m) in
      let inside : Among d.0 (flat_map (under home.1) (placed_at home.0)) = subst (λ (l : List PlacedComp). Among d.0 l) (levels_under A cs k b) d.1 in
      let parent : Among d.0.parent (map tag_of (placed_at home.0)) = each_among (λ (z : PlacedComp). Among z.parent (map tag_of (placed_at home.0))) inside (under_parent home.1 (placed_at home.0)) in
      let same : c.parent ≡ d.0.parent = ap (λ (z : StrandTree). z.parent) d.2 in
      subst (λ t. Among t (map (λ d. d.tag) (here_at home.0))) (sym same) (subst (λ (l : List ℕ). Among d.0.parent l) (sym (tags_here home.0)) parent)

  top_parent : (c : StrandTree) → Among c (here_at 0) → c.parent ≡ 0
  top_parent c m =
      let d = among_unmapped shaped (placed_at 0) m in
      ap (λ (z : StrandTree). z.parent) d.2 ∙ each_among (λ (z : PlacedComp). z.parent ≡ 0) d.1 (placed_parent 0 [] no_cond cs)

  module _ (rows : List (List FlatRow)) (ans : List AnswerRows) (gives : AllGive cols ts form rows) (laid : AreLaidOut (element_types (bag A)) rows ans) where
    abbrev elements : List TypeTree
    elements = element_types (bag A)

    abbrev rows_at : ℕ → List FlatRow
    rows_at q = get_or rows q []

    spread : (q : ℕ) → q < length elements → SpreadAt (element_of elements q) (by_tag (here_at q)) (rows_at q)
    spread =
        let given : EachBoth Gave (map by_tag (strands A cs)) rows = subst (λ (z : List (List StrandTree)). EachBoth Gave z rows) (strands_at_paths schema form well) (given_mapped (paths (bag A)) rows gives) in
        at_path elements (strands A cs) rows oks given

    -- the rows of an answer
    long : (q : ℕ) → length (get_or ans q []) ≡ length (rows_at q)
    long q = ap length (laid q) ∙ map_long (row_cells (element_of elements q)) (rows_at q)

    row_is : (q k : ℕ) → k < length (rows_at q) → row_at ans q k ≡ row_cells (element_of elements q) (get_or (rows_at q) k no_row)
    row_is q k b = ap (λ (l : AnswerRows). get_or l k []) (laid q) ∙ got_map (row_cells (element_of elements q)) (rows_at q) k [] no_row b

    outer_is : (q k : ℕ) → k < length (rows_at q) → (flat_numbers elements).outer q (row_at ans q k) ≡ as_ints (get_or (rows_at q) k no_row).outer
    outer_is q k b = ap (λ (r : List Cell). (flat_numbers elements).outer q r) (row_is q k b)

    inner_is : (q s k : ℕ) → s < slots (element_of elements q) → k < length (rows_at q) → (flat_numbers elements).inner q s (row_at ans q k) ≡ as_ints (inner_at s (get_or (rows_at q) k no_row))
    inner_is q s k l b =
        let f = row_slot (element_of elements q) (get_or (rows_at q) k no_row) s l in
        ap (λ (r : List Cell). (flat_numbers elements).inner q s r) (row_is q k b) ∙ ap₂ {C = ℤ × ℤ} (λ (x y : Cell). (int_of x, int_of y)) f.0 f.1

    -- the bag under an index of a spot at a home is given there
    index_given : (q s : ℕ) (i : ℕ × ℕ) → q < length elements → s < slots (element_of elements q) → Among i.0 (map (λ d. d.tag) (here_at q)) → (j : ℕ) → j < count cols ts info refl tags i.0 → i.1 ≡ suc j
        → (k : ℕ) × (k < length (get_or ans q [])) × (same_ints ((flat_numbers elements).inner q s (row_at ans q k)) (as_ints i) ≡ true)
    index_given q s i b l m j c e =
        let N : ℕ → ℕ = count cols ts info refl tags in
        let d = among_unmapped (λ (z : StrandTree). z.tag) (here_at q) m in
        let sorted : Among d.0 (by_tag (here_at q)) = among_reordered d.0 (here_at q) (by_tag (here_at q)) d.1 (sorted_here q) in
        let number : Among (suc j) (count_from 1 (N d.0.tag)) = (let z : 1 + j ≡ suc j = omega arith in subst (λ n. Among n (count_from 1 (N d.0.tag))) z (count_among 1 (N d.0.tag) j (subst (λ t. j < N t) d.2 c))) in
        let own : Among {A = ℕ × ℕ} (d.0.tag, suc j) (own_indexes N d.0) = among_map (λ n. (d.0.tag, n)) number in
        let all : Among {A = ℕ × ℕ} (d.0.tag, suc j) (flat_map (own_indexes N) (by_tag (here_at q))) = flat_among (own_indexes N) (d.0.tag, suc j) d.0 (by_tag (here_at q)) sorted own in
        let given : Among {A = ℕ × ℕ} (d.0.tag, suc j) (map (inner_at s) (rows_at q)) = among_reordered (d.0.tag, suc j) (flat_map (own_indexes N) (by_tag (here_at q))) (map (inner_at s) (rows_at q)) all (reordered_sym (map (inner_at s) (rows_at q)) (flat_map (own_indexes N) (by_tag (here_at q))) ((spread q b).inners s l)) in
        let at = among_place given (0, 0) in
        let inside : at.0 < length (rows_at q) = omega (arith, at.1, map_long (inner_at s) (rows_at q)) in
        let same : inner_at s (get_or (rows_at q) at.0 no_row) ≡ i = sym (got_map (inner_at s) (rows_at q) at.0 (0, 0) no_row inside) ∙ at.2 ∙ ap₂ {C = ℕ × ℕ} (λ x y. (x, y)) (sym d.2) (sym e) in (
          at.0,
          omega (arith, inside, long q),
          ap (λ z. same_ints z (as_ints i)) (inner_is q s at.0 l inside ∙ ap as_ints same) ∙ same_self (as_ints i),
        )

    outer_given : (q k : ℕ) → q < length elements → k < length (rows_at q) → IsGiven (flat_numbers elements) (homes (bag A)) ans q (as_ints (get_or (rows_at q) k no_row).outer)
    outer_given zero k b l =
        let r = get_or (rows_at 0) k no_row in
        let around : IsAround cols ts info refl tags (by_tag (here_at 0)) r.outer = each_got (λ (r : FlatRow). IsAround cols ts info refl tags (by_tag (here_at 0)) r.outer) (rows_at 0) k no_row l (spread 0 b).outers in
        let c : Among around.0 (here_at 0) = among_reordered around.0 (by_tag (here_at 0)) (here_at 0) around.1 (reordered_sym (here_at 0) (by_tag (here_at 0)) (sorted_here 0)) in
        let parent : around.0.parent ≡ 0 = top_parent around.0 c in
        let few : around.2 < 1 = subst (λ t. around.2 < count cols ts info refl tags t) parent around.3 in
        let one : around.2 ≡ 0 = omega (arith, few) in
        let is : r.outer ≡ (0, 1) = around.4 ∙ ap₂ {C = ℕ × ℕ} (λ x y. (x, suc y)) parent one in
        ap (λ z. same_ints (pos 0, pos 1) (as_ints z)) is ∙ same_self (pos 0, pos 1)
    outer_given (suc m) k b l =
        let r = get_or (rows_at (suc m)) k no_row in
        let home = home_of (homes (bag A)) (suc m) in
        let before = homes_before A (suc m) (omega arith) b in
        let around : IsAround cols ts info refl tags (by_tag (here_at (suc m))) r.outer = each_got (λ (r : FlatRow). IsAround cols ts info refl tags (by_tag (here_at (suc m))) r.outer) (rows_at (suc m)) k no_row l (spread (suc m) b).outers in
        let c : Among around.0 (here_at (suc m)) = among_reordered around.0 (by_tag (here_at (suc m))) (here_at (suc m)) around.1 (reordered_sym (here_at (suc m)) (by_tag (here_at (suc m))) (sorted_here (suc m))) in
        let parent = parent_here m (omega (arith, b, types_length A)) around.0 c in
        subst (λ z. IsGiven (flat_numbers elements) (homes (bag A)) ans (suc m) (as_ints z)) (sym around.4)
        (index_given home.0 home.1 (around.0.parent, suc around.2) (omega (arith, before.0, b)) before.1 parent around.2 around.3 refl)

    has_links : HasLinks (flat_numbers elements) (homes (bag A)) ans
    has_links = record {
      given = λ q k b l.
          let inside : k < length (rows_at q) = omega (arith, l, long q) in
          subst (λ z. IsGiven (flat_numbers elements) (homes (bag A)) ans q z) (sym (outer_is q k inside)) (outer_given q k b inside);
      once = λ q s j k slot l h.
          let there : k < length (rows_at q) = omega (arith, h, long q) in
          let here_too : j < length (rows_at q) = omega (arith, l, there) in
          let indexes_apart : AreDistinct (map (inner_at s) (rows_at q)) = distinct_reordered (map (inner_at s) (rows_at q)) (indexes cols ts info refl tags (by_tag (here_at q))) ((spread q slot.0).inners s slot.1) (indexes_distinct (count cols ts info refl tags) (by_tag (here_at q)) (sorted_distinct q)) in
          let differ : inner_at s (get_or (rows_at q) j no_row) ≡ inner_at s (get_or (rows_at q) k no_row) → ⊥ = λ e.
          distinct_at (map (inner_at s) (rows_at q)) (0, 0) j k indexes_apart l (omega (arith, there, map_long (inner_at s) (rows_at q)))
          (got_map (inner_at s) (rows_at q) j (0, 0) no_row here_too ∙ e ∙ sym (got_map (inner_at s) (rows_at q) k (0, 0) no_row there)) in
          ap₂ (λ x y. same_ints x y) (inner_is q s j slot.1 here_too) (inner_is q s k slot.1 there)
          ∙ others_differ (inner_at s (get_or (rows_at q) j no_row)) (inner_at s (get_or (rows_at q) k no_row)) differ;
    }

-- what the let forms allow, laid out in answers, is linked
pub lets_linked : (schema : Schema) (form : FormTree) (ts : Tables) (rows : List (List FlatRow)) (ans : List AnswerRows) → IsProperSchema schema → IsWellFormed schema.tables form → AllGive (column_names schema.tables) ts form rows → AreLaidOut (element_types (bag form.element)) rows ans → IsLinked (bag form.element) ans
lets_linked schema form ts rows ans proper well gives laid = links_linked (bag form.element) ans (has_links schema form well proper ts rows ans gives laid)
