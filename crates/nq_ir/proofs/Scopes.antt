-- What scoping and numbers that differ give of each comprehension of a form.
use Rattle.std.proofs.Common.{◌≡◌, ℕ, List, [], ◌∷◌, ◌++◌, map, refl, sym, ap, ap₂, ◌∙◌, subst, Bool, true, false, cond, nat_eq, append_assoc, ⊎_elim}
use Rattle.std.specs.Prelude.{Some}
use Rattle.std.proofs.lemmas.Bool.Decides.{Decides-eqb}
use Rattle.std.proofs.lemmas.List.{map-append}
use Rattle.nq_ir.proofs.Distinct.{Among, Apart, Distinct, Sub, among_left, among_map, among_right, distinct_apart, distinct_sub, each_among, each_join, each_sub, first, later, sub_append, sub_before, sub_left, sub_refl, sub_right}
use Rattle.nq_ir.proofs.Equal.{nat_same}
use Rattle.nq_ir.proofs.Insert.{Around}
use Rattle.nq_ir.proofs.Legible.{among_cases}
use Rattle.nq_ir.proofs.Levels.{AllBody, AllComps, AllFields}
use Rattle.nq_ir.proofs.Nested.{Avoids, AvoidsAll, AvoidsTests}
use Rattle.nq_model.specs.NamedRows.{Label}
use Rattle.nq_ir.specs.Spots.{PlacedComp, both, shaped}
use Rattle.nq_ir.specs.Trees.{BaseTree, Bodies, BodyTree, Comps, Conds, Tests, and_cond, bag_body, binary, choose, column, comp, empty, total, literal, no_body, no_comp, no_cond, no_test, plain_body, rec_body, test, unary, with_body}
use Rattle.nq_ir.specs.WellFormed.{BaseHas, BodiesHave, BodyHas, CompsHave, CondsHave, TestsHave, base_numbers, bodies_numbers, bodies_tags, body_numbers, body_tags, column_type_in, comps_numbers, comps_tags, conds_numbers, gen_columns, numbers, table_columns, tests_numbers}
use Rattle.nq_ir.specs.declared.base.Gen.{Gen}
use Rattle.nq_model.proofs.Numberings.{each_map}
use Rattle.nq_model.specs.Types.{field, FieldTypes, TypeTree, bag, bool, fun, int, none, rec, text}
use Rattle.nq_model.specs.declared.table.ColumnType.{ColumnType}
use Rattle.nq_model.specs.declared.table.ColumnType.TheVariants.{Bool as BoolColumn, Int as IntColumn}
use Rattle.nq_model.specs.declared.table.TableShape.{TableShape}
use Rattle.std.specs.List.{AllByRecursion as Each}

-- each cell_under inside names one of these generators
abbrev mutual
  Within : List ℕ → BaseTree → Type 0
  Within V (literal c) = Unit {0}
  Within V (column g l) = Among g V
  Within V (unary o b) = Within V b
  Within V (binary o a b) = Within V a × Within V b
  Within V (choose t a b) = Within V t × Within V a × Within V b
  Within V (empty xs) = WithinTests V xs
  Within V (total g gens conds b) = WithinAll V conds × Within V b

  WithinAll : List ℕ → Conds → Type 0
  WithinAll V no_cond = Unit {0}
  WithinAll V (and_cond b bs) = Within V b × WithinAll V bs

  WithinTests : List ℕ → Tests → Type 0
  WithinTests V no_test = Unit {0}
  WithinTests V (test gens conds xs) = WithinAll V conds × WithinTests V xs

mutual
  within_avoids : (V ns : List ℕ) → Apart V ns → (b : BaseTree) → Within V b → Avoids ns b
  within_avoids V ns a (literal c) h = tt
  within_avoids V ns a (column g l) h = each_among (λ x. Each (λ y. nat_eq x y ≡ false) ns) h a
  within_avoids V ns a (unary o b) h = within_avoids V ns a b h
  within_avoids V ns a (binary o x b) h = (within_avoids V ns a x h.0, within_avoids V ns a b h.1)
  within_avoids V ns a (choose t x b) h = (within_avoids V ns a t h.0, within_avoids V ns a x h.1, within_avoids V ns a b h.2)
  within_avoids V ns a (empty xs) h = within_avoids_tests V ns a xs h
  within_avoids V ns a (total g gens conds b) h = (within_avoids_all V ns a conds h.0, within_avoids V ns a b h.1)

  within_avoids_all : (V ns : List ℕ) → Apart V ns → (bs : Conds) → WithinAll V bs → AvoidsAll ns bs
  within_avoids_all V ns a no_cond h = tt
  within_avoids_all V ns a (and_cond b bs) h = (within_avoids V ns a b h.0, within_avoids_all V ns a bs h.1)

  within_avoids_tests : (V ns : List ℕ) → Apart V ns → (xs : Tests) → WithinTests V xs → AvoidsTests ns xs
  within_avoids_tests V ns a no_test h = tt
  within_avoids_tests V ns a (test gens conds xs) h = (within_avoids_all V ns a conds h.0, within_avoids_tests V ns a xs h.1)

abbrev pub Inside : List ℕ → List ℕ → Type 0
Inside V W = (n : ℕ) → Among n V → Among n W

column_known : (S : (List TableShape)) (sc : List Gen) (g : ℕ) (l : Label) (T : ColumnType) → column_type_in l (gen_columns S sc g) ≡ Some T → Among g (numbers sc)
column_known S [] g l T h = absurd (cc)
column_known S (k ∷ sc) g l T h = go (nat_eq g k.number) refl h (column_known S sc g l T)
  where
    go : (b : Bool) → nat_eq g k.number ≡ b → column_type_in l (cond b (table_columns S k.table) (gen_columns S sc g)) ≡ Some T → (column_type_in l (gen_columns S sc g) ≡ Some T → Among g (numbers sc)) → Among g (numbers (k ∷ sc))
    go true e h f = subst (λ n. Among g (n ∷ numbers sc)) ((Decides-eqb g k.number).0 e) first
    go false e h f = later (f h)

pub inside_append : (xs ys W : List ℕ) → Inside xs W → Inside ys W → Inside (xs ++ ys) W
inside_append [] ys W f g n m = g n m
inside_append (x ∷ xs) ys W f g n m =
    ⊎_elim (λ e. f n (subst (λ z. Among n (z ∷ xs)) e first)) (λ k. inside_append xs ys W (λ j i. f j (later i)) g n k) (among_cases m)

pub numbers_append : (gs hs : List Gen) → numbers (gs ++ hs) ≡ numbers gs ++ numbers hs
numbers_append gs hs = map-append (λ g. g.number) gs hs

mutual
  within_typed : (S : (List TableShape)) (sc : List Gen) (V : List ℕ) (b : BaseTree) (T : ColumnType) → BaseHas S sc b T → Inside (numbers sc) V → Inside (base_numbers b) V → Within V b
  within_typed S sc V (literal c) T h i j = tt
  within_typed S sc V (column g l) T h i j = i g (column_known S sc g l T h)
  within_typed S sc V (unary o b) T h i j = within_typed S sc V b h.0 h.1 i j
  within_typed S sc V (binary o a b) T h i j = (within_typed S sc V a h.0 h.2 i (λ n m. j n (among_left (base_numbers b) m)), within_typed S sc V b h.1 h.3 i (λ n m. j n (among_right (base_numbers a) m)))
  within_typed S sc V (choose t a b) T h i j = (within_typed S sc V t BoolColumn h.0 i (λ n m. j n (among_left (base_numbers a ++ base_numbers b) m)), within_typed S sc V a T h.1 i (λ n m. j n (among_right (base_numbers t) (among_left (base_numbers b) m))), within_typed S sc V b T h.2 i (λ n m. j n (among_right (base_numbers t) (among_right (base_numbers a) m))))
  within_typed S sc V (empty xs) T h i j = within_typed_tests S sc V xs h.1 i j
  within_typed S sc V (total g gens conds b) T h i j =
      let inner : Inside (numbers (gens ++ sc)) V = subst (λ (z : List ℕ). Inside z V) (sym (numbers_append gens sc)) (inside_append (numbers gens) (numbers sc) V (λ n m. j n (among_left (conds_numbers conds ++ base_numbers b) m)) i) in
      (within_typed_all S (gens ++ sc) V conds h.2 inner (λ n m. j n (among_right (numbers gens) (among_left (base_numbers b) m))), within_typed S (gens ++ sc) V b IntColumn h.3 inner (λ n m. j n (among_right (numbers gens) (among_right (conds_numbers conds) m))))

  within_typed_all : (S : (List TableShape)) (sc : List Gen) (V : List ℕ) (bs : Conds) → CondsHave S sc bs → Inside (numbers sc) V → Inside (conds_numbers bs) V → WithinAll V bs
  within_typed_all S sc V no_cond h i j = tt
  within_typed_all S sc V (and_cond b bs) h i j = (within_typed S sc V b BoolColumn h.0 i (λ n m. j n (among_left (conds_numbers bs) m)), within_typed_all S sc V bs h.1 i (λ n m. j n (among_right (base_numbers b) m)))

  within_typed_tests : (S : (List TableShape)) (sc : List Gen) (V : List ℕ) (xs : Tests) → TestsHave S sc xs → Inside (numbers sc) V → Inside (tests_numbers xs) V → WithinTests V xs
  within_typed_tests S sc V no_test h i j = tt
  within_typed_tests S sc V (test gens conds xs) h i j = (
    within_typed_all S (gens ++ sc) V conds h.1 (subst (λ (z : List ℕ). Inside z V) (sym (numbers_append gens sc)) (inside_append (numbers gens) (numbers sc) V (λ n m. j n (among_left (conds_numbers conds ++ tests_numbers xs) m)) i)) (λ n m. j n (among_right (numbers gens) (among_left (tests_numbers xs) m))),
    within_typed_tests S sc V xs h.2 i (λ n m. j n (among_right (numbers gens) (among_right (conds_numbers conds) m))),
  )

mutual
  within_more : (V W : List ℕ) → Inside V W → (b : BaseTree) → Within V b → Within W b
  within_more V W i (literal c) h = tt
  within_more V W i (column g l) h = i g h
  within_more V W i (unary o b) h = within_more V W i b h
  within_more V W i (binary o a b) h = (within_more V W i a h.0, within_more V W i b h.1)
  within_more V W i (choose t a b) h = (within_more V W i t h.0, within_more V W i a h.1, within_more V W i b h.2)
  within_more V W i (empty xs) h = within_more_tests V W i xs h
  within_more V W i (total g gens conds b) h = (within_more_all V W i conds h.0, within_more V W i b h.1)

  within_more_all : (V W : List ℕ) → Inside V W → (bs : Conds) → WithinAll V bs → WithinAll W bs
  within_more_all V W i no_cond h = tt
  within_more_all V W i (and_cond b bs) h = (within_more V W i b h.0, within_more_all V W i bs h.1)

  within_more_tests : (V W : List ℕ) → Inside V W → (xs : Tests) → WithinTests V xs → WithinTests W xs
  within_more_tests V W i no_test h = tt
  within_more_tests V W i (test gens conds xs) h = (within_more_all V W i conds h.0, within_more_tests V W i xs h.1)

within_both : (V : List ℕ) (xs ys : Conds) → WithinAll V xs → WithinAll V ys → WithinAll V (both xs ys)
within_both V no_cond ys h k = k
within_both V (and_cond x xs) ys h k = (h.0, within_both V xs ys h.1 k)

pub distinct_join : (xs ys : List ℕ) → Distinct xs → Distinct ys → Apart xs ys → Distinct (xs ++ ys)
distinct_join [] ys d e a = e
distinct_join (x ∷ xs) ys d e a = (each_join (λ m. nat_eq x m ≡ false) xs ys d.0 a.0, distinct_join xs ys d.1 e a.1)

-- tags with the generators and conditions in scope
abbrev pub Scoping : Type 0
Scoping = List Gen × Conds

abbrev mutual
  pub scopes : List Gen → Conds → Comps → List (ℕ × Scoping)
  scopes og oc no_comp = []
  scopes og oc (comp t gens conds b cs) = (t, (og ++ gens, both oc conds)) ∷ (scopes_body (og ++ gens) (both oc conds) b ++ scopes og oc cs)

  pub scopes_body : List Gen → Conds → BodyTree → List (ℕ × Scoping)
  scopes_body og oc (plain_body b) = []
  scopes_body og oc (rec_body fs) = scopes_fields og oc fs
  scopes_body og oc (bag_body ty cs) = scopes og oc cs

  pub scopes_fields : List Gen → Conds → Bodies → List (ℕ × Scoping)
  scopes_fields og oc no_body = []
  scopes_fields og oc (with_body l b fs) = scopes_body og oc b ++ scopes_fields og oc fs

abbrev pub tag_of : ℕ × Scoping → ℕ
tag_of x = x.0

mutual
  scopes_tags : (og : List Gen) (oc : Conds) (cs : Comps) → map tag_of (scopes og oc cs) ≡ comps_tags cs
  scopes_tags og oc no_comp = refl
  scopes_tags og oc (comp t gens conds b cs) =
      ap (λ (z : List ℕ). t ∷ z) (map-append tag_of (scopes_body (og ++ gens) (both oc conds) b) (scopes og oc cs) ∙ ap₂ (λ (x y : List ℕ). x ++ y) (scopes_body_tags (og ++ gens) (both oc conds) b) (scopes_tags og oc cs))

  scopes_body_tags : (og : List Gen) (oc : Conds) (b : BodyTree) → map tag_of (scopes_body og oc b) ≡ body_tags b
  scopes_body_tags og oc (plain_body b) = refl
  scopes_body_tags og oc (rec_body fs) = scopes_fields_tags og oc fs
  scopes_body_tags og oc (bag_body ty cs) = scopes_tags og oc cs

  scopes_fields_tags : (og : List Gen) (oc : Conds) (fs : Bodies) → map tag_of (scopes_fields og oc fs) ≡ bodies_tags fs
  scopes_fields_tags og oc no_body = refl
  scopes_fields_tags og oc (with_body l b fs) = map-append tag_of (scopes_body og oc b) (scopes_fields og oc fs) ∙ ap₂ (λ (x y : List ℕ). x ++ y) (scopes_body_tags og oc b) (scopes_fields_tags og oc fs)

abbrev pub look : List (ℕ × Scoping) → ℕ → Scoping
look [] t = ([], no_cond)
look (x ∷ xs) t = cond (nat_eq t x.0) x.1 (look xs t)

look_among : (L : List (ℕ × Scoping)) (t : ℕ) (s : Scoping) → Distinct (map tag_of L) → Among {A = ℕ × Scoping} (t, s) L → look L t ≡ s
look_among [] t s d m = elim m [ ]
look_among (x ∷ xs) t s d m = ⊎_elim at_first (λ k. at_later k (look_among xs t s d.1 k)) (among_cases m)
  where
    at_first : ◌≡◌ {A = ℕ × Scoping} (t, s) x → cond (nat_eq t x.0) x.1 (look xs t) ≡ s
    at_first e = ap (λ b. cond b x.1 (look xs t)) (nat_same t x.0 (ap (λ z. z.0) e)) ∙ ap (λ (z : ℕ × Scoping). z.1) (sym e)

    at_later : Among {A = ℕ × Scoping} (t, s) xs → look xs t ≡ s → cond (nat_eq t x.0) x.1 (look xs t) ≡ s
    at_later k f = ap (λ b. cond b x.1 (look xs t)) (flipped (each_among (λ m. nat_eq x.0 m ≡ false) (among_map tag_of k) d.0)) ∙ f
      where
        flipped : nat_eq x.0 t ≡ false → nat_eq t x.0 ≡ false
        flipped e = go2 (nat_eq t x.0) refl
          where
            go2 : (b : Bool) → nat_eq t x.0 ≡ b → b ≡ false
            go2 true f = let s : t ≡ x.0 = (Decides-eqb t x.0).0 f in let w : true ≡ false = sym (nat_same x.0 t (sym s)) ∙ e in w
            go2 false f = refl

pub each_look : (P : Scoping → Type 0) (L : List (ℕ × Scoping)) → P ([], no_cond) → Each (λ x. P x.1) L → (t : ℕ) → P (look L t)
each_look P [] d e t = d
each_look P (x ∷ xs) d e t = go (nat_eq t x.0) (each_look P xs d e.1 t)
  where
    go : (b : Bool) → P (look xs t) → P (cond b x.1 (look xs t))
    go true h = e.0
    go false h = h

-- what is known of a comprehension
pub record StrandGood (info : ℕ → Scoping) (tags : List ℕ) (c : PlacedComp) : Type 0 where
  pub around : Around info (shaped c)
  pub own_gens : (info c.tag).0 ≡ c.outer_gens ++ c.gens
  pub own_conds : (info c.tag).1 ≡ both c.outer_conds c.conds
  pub among : Among c.tag tags
  pub avoids : AvoidsAll (numbers c.gens) c.outer_conds
  pub differ : Distinct (numbers (c.outer_gens ++ c.gens))

-- what holds around
record Context (info : ℕ → Scoping) (p : ℕ) (og : List Gen) (oc : Conds) (seen : List ℕ) : Type 0 where
  info_gens : (info p).0 ≡ og
  info_conds : (info p).1 ≡ oc
  gens_seen : Inside (numbers og) seen
  conds_seen : WithinAll seen oc
  differ : Distinct (numbers og)

pub from_inside : (V W N : List ℕ) → Inside V W → Apart W N → Apart V N
from_inside [] W N i a = tt
from_inside (v ∷ V) W N i a = (each_among (λ x. Each (λ y. nat_eq x y ≡ false) N) (i v first) a, from_inside V W N (λ n m. i n (later m)) a)

module _ (S : (List TableShape)) (L : List (ℕ × Scoping)) (differ : Distinct (map tag_of L)) where
  known_in : (og : List Gen) (oc : Conds) (t : ℕ) → Among {A = ℕ × Scoping} (t, (og, oc)) L → look L t ≡ (og, oc)
  known_in og oc t m = look_among L t (og, oc) differ m

  mutual
    good_comps : (p : ℕ) (og : List Gen) (oc : Conds) (seen : List ℕ) (cs : Comps) (A : TypeTree) → Context (look L) p og oc seen → ((x : ℕ × Scoping) → Among x (scopes og oc cs) → Among x L) → Distinct (seen ++ comps_numbers cs) → CompsHave S og cs A → AllComps (StrandGood (look L) (map tag_of L)) p og oc cs
    good_comps p og oc seen no_comp A c i d h = tt
    good_comps p og oc seen (comp t gens conds b cs) A c i d h =
        let G = numbers gens in
        let C = conds_numbers conds in
        let B = body_numbers b in
        let R = comps_numbers cs in
        let more : List ℕ = G ++ (C ++ (B ++ R)) in
        let gens2 = og ++ gens in
        let conds2 = both oc conds in
        let seen2 = seen ++ (G ++ C) in
        let is : Among {A = ℕ × Scoping} (t, (gens2, conds2)) L = i (t, (gens2, conds2)) first in
        let own : look L t ≡ (gens2, conds2) = known_in gens2 conds2 t is in
        let away : Apart seen more = distinct_apart seen more d in
        let away_gens : Apart seen G = each_map (λ v. Each (λ n. nat_eq v n ≡ false) more) (λ v. Each (λ n. nat_eq v n ≡ false) G) (λ v e. each_sub (λ n. nat_eq v n ≡ false) (sub_left G (C ++ (B ++ R))) e) seen away in
        let own_distinct : Distinct G = distinct_sub (sub_before seen (sub_left G (C ++ (B ++ R)))) d in
        let og_away : Apart (numbers og) G = from_inside (numbers og) seen G c.gens_seen away_gens in
        let joined : Distinct (numbers gens2) = subst Distinct (sym (numbers_append og gens)) (distinct_join (numbers og) G c.differ own_distinct og_away) in
        let inside2 : Inside (numbers gens2) seen2 = subst (λ (z : List ℕ). Inside z seen2) (sym (numbers_append og gens)) (inside_append (numbers og) G seen2 (λ n m. among_left (G ++ C) (c.gens_seen n m)) (λ n m. among_right seen (among_left C m))) in
        let conds_in : WithinAll seen2 conds2 = within_both seen2 oc conds (within_more_all seen seen2 (λ n m. among_left (G ++ C) m) oc c.conds_seen) (within_typed_all S gens2 seen2 conds h.1 inside2 (λ n m. among_right seen (among_right G m))) in
        let inner : Context (look L) t gens2 conds2 seen2 = record {
          info_gens = ap (λ (z : Scoping). z.0) own;
          info_conds = ap (λ (z : Scoping). z.1) own;
          gens_seen = inside2;
          conds_seen = conds_in;
          differ = joined;
        } in
        let d2 : Distinct (seen2 ++ B) = distinct_sub (subst (λ (z : List ℕ). Sub z (seen ++ more)) (sym (append_assoc seen (G ++ C) B)) (sub_append (sub_refl seen) (subst (λ (z : List ℕ). Sub z more) (sym (append_assoc G C B)) (sub_append (sub_refl G) (sub_append (sub_refl C) (sub_left B R)))))) d in
        let d3 : Distinct (seen ++ R) = distinct_sub (sub_append (sub_refl seen) (sub_before G (sub_before C (sub_right B R)))) d in (
          record {
            around = (c.info_gens, c.info_conds);
            own_gens = ap (λ (z : Scoping). z.0) own;
            own_conds = ap (λ (z : Scoping). z.1) own;
            among = among_map tag_of is;
            avoids = within_avoids_all seen G away_gens oc c.conds_seen;
            differ = joined;
          },
          good_body t gens2 conds2 seen2 b A inner (λ x m. i x (later (among_left (scopes og oc cs) m))) d2 h.2,
          good_comps p og oc seen cs A c (λ x m. i x (later (among_right (scopes_body gens2 conds2 b) m))) d3 h.3,
        )

    good_body : (p : ℕ) (og : List Gen) (oc : Conds) (seen : List ℕ) (b : BodyTree) (A : TypeTree) → Context (look L) p og oc seen → ((x : ℕ × Scoping) → Among x (scopes_body og oc b) → Among x L) → Distinct (seen ++ body_numbers b) → BodyHas S og b A → AllBody (StrandGood (look L) (map tag_of L)) p og oc b
    good_body p og oc seen (plain_body b) A c i d h = tt
    good_body p og oc seen (rec_body fs) int c i d h = absurd h
    good_body p og oc seen (rec_body fs) bool c i d h = absurd h
    good_body p og oc seen (rec_body fs) text c i d h = absurd h
    good_body p og oc seen (rec_body fs) (rec gs) c i d h = good_fields p og oc seen fs gs c i d h
    good_body p og oc seen (rec_body fs) (bag A) c i d h = absurd h
    good_body p og oc seen (rec_body fs) (fun A B) c i d h = absurd h
    good_body p og oc seen (bag_body ty cs) int c i d h = absurd h
    good_body p og oc seen (bag_body ty cs) bool c i d h = absurd h
    good_body p og oc seen (bag_body ty cs) text c i d h = absurd h
    good_body p og oc seen (bag_body ty cs) (rec gs) c i d h = absurd h
    good_body p og oc seen (bag_body ty cs) (bag A) c i d h = good_comps p og oc seen cs A c i d h.1
    good_body p og oc seen (bag_body ty cs) (fun A B) c i d h = absurd h

    good_fields : (p : ℕ) (og : List Gen) (oc : Conds) (seen : List ℕ) (fs : Bodies) (gs : FieldTypes) → Context (look L) p og oc seen → ((x : ℕ × Scoping) → Among x (scopes_fields og oc fs) → Among x L) → Distinct (seen ++ bodies_numbers fs) → BodiesHave S og fs gs → AllFields (StrandGood (look L) (map tag_of L)) p og oc fs
    good_fields p og oc seen no_body gs c i d h = tt
    good_fields p og oc seen (with_body l b fs) none c i d h = absurd h
    good_fields p og oc seen (with_body l b fs) (field k A gs) c i d h = (
      good_body p og oc seen b A c (λ x m. i x (among_left (scopes_fields og oc fs) m)) (distinct_sub (sub_append (sub_refl seen) (sub_left (body_numbers b) (bodies_numbers fs))) d) h.1,
      good_fields p og oc seen fs gs c (λ x m. i x (among_right (scopes_body og oc b) m)) (distinct_sub (sub_append (sub_refl seen) (sub_right (body_numbers b) (bodies_numbers fs))) d) h.2,
    )

-- the scopes of a form by tag, the top's first
abbrev pub all_scopes : Comps → List (ℕ × Scoping)
all_scopes cs = (0, ([], no_cond)) ∷ scopes [] no_cond cs

abbrev pub all_tags : Comps → List ℕ
all_tags cs = map tag_of (all_scopes cs)

pub strands_good : (S : (List TableShape)) (A : TypeTree) (cs : Comps) → CompsHave S [] cs A → Distinct (0 ∷ comps_tags cs) → Distinct (comps_numbers cs) → AllComps (StrandGood (look (all_scopes cs)) (all_tags cs)) 0 [] no_cond cs
strands_good S A cs has_type tags generators =
    good_comps S (all_scopes cs) (subst Distinct (ap (λ (z : List ℕ). 0 ∷ z) (sym (scopes_tags [] no_cond cs))) tags) 0 [] no_cond [] cs A (record {
      info_gens = refl;
      info_conds = refl;
      gens_seen = λ n m. m;
      conds_seen = tt;
      differ = tt;
    }) (λ x m. later m) generators has_type

mutual
  scopes_each : (P : PlacedComp → Type 0) (Q : ℕ × Scoping → Type 0) → ((d : PlacedComp) → P d → Q (d.tag, (d.outer_gens ++ d.gens, both d.outer_conds d.conds))) → (p : ℕ) (og : List Gen) (oc : Conds) (cs : Comps) → AllComps P p og oc cs → Each Q (scopes og oc cs)
  scopes_each P Q f p og oc no_comp h = tt
  scopes_each P Q f p og oc (comp t gens conds b cs) h =
      (f (record { parent = p; outer_gens = og; outer_conds = oc; tag = t; gens = gens; conds = conds; body = b }) h.0, each_join Q (scopes_body (og ++ gens) (both oc conds) b) (scopes og oc cs) (scopes_body_each P Q f t (og ++ gens) (both oc conds) b h.1) (scopes_each P Q f p og oc cs h.2))

  scopes_body_each : (P : PlacedComp → Type 0) (Q : ℕ × Scoping → Type 0) → ((d : PlacedComp) → P d → Q (d.tag, (d.outer_gens ++ d.gens, both d.outer_conds d.conds))) → (p : ℕ) (og : List Gen) (oc : Conds) (b : BodyTree) → AllBody P p og oc b → Each Q (scopes_body og oc b)
  scopes_body_each P Q f p og oc (plain_body b) h = tt
  scopes_body_each P Q f p og oc (rec_body fs) h = scopes_fields_each P Q f p og oc fs h
  scopes_body_each P Q f p og oc (bag_body ty cs) h = scopes_each P Q f p og oc cs h

  scopes_fields_each : (P : PlacedComp → Type 0) (Q : ℕ × Scoping → Type 0) → ((d : PlacedComp) → P d → Q (d.tag, (d.outer_gens ++ d.gens, both d.outer_conds d.conds))) → (p : ℕ) (og : List Gen) (oc : Conds) (fs : Bodies) → AllFields P p og oc fs → Each Q (scopes_fields og oc fs)
  scopes_fields_each P Q f p og oc no_body h = tt
  scopes_fields_each P Q f p og oc (with_body l b fs) h = each_join Q (scopes_body og oc b) (scopes_fields og oc fs) (scopes_body_each P Q f p og oc b h.0) (scopes_fields_each P Q f p og oc fs h.1)

-- the generators in scope differ, for each tag
pub scopes_differ : (S : (List TableShape)) (A : TypeTree) (cs : Comps) → CompsHave S [] cs A → Distinct (0 ∷ comps_tags cs) → Distinct (comps_numbers cs) → (t : ℕ) → Distinct (numbers (look (all_scopes cs) t).0)
scopes_differ S A cs has_type tags generators t =
    each_look (λ z. Distinct (numbers z.0)) (all_scopes cs) tt (tt, scopes_each (StrandGood (look (all_scopes cs)) (all_tags cs)) (λ x. Distinct (numbers x.1.0)) (λ d g. g.differ) 0 [] no_cond cs (strands_good S A cs has_type tags generators)) t
