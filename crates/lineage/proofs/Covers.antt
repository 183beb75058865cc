-- A well-formed form covers itself: the bodies at a place have what each of them needs.
use Rattle.std.proofs.Common.{◌≡◌, ◌≢◌, ℕ, ◌<◌, ◌≤◌, ◌^◌, List, [], ◌∷◌, ◌++◌, refl, sym, ◌∙◌}
use Rattle.std.proofs.Common.{subst, Bool, true, false, cond, flat_map, length, arith, eqb, ◌||◌}
use Rattle.std.specs.List.{list_any, IsDistinct}
use Rattle.std.proofs.lemmas.Bool.Decides.{Decides-eqb}
use Rattle.std.proofs.lemmas.Map.Steps.{length-le_from_distinct_below}
use Rattle.nq_model.proofs.Numberings.{length_map}
use Rattle.std.specs.List.{AllByRecursion as Each}
use Rattle.std.specs.Str.{bytes_eq}
use Rattle.nq_ir.proofs.Distinct.{Distinct, distinct, distinct_sub, sub_left, sub_right, each_left}
use Rattle.nq_ir.proofs.Distinct.{each_right, each_join, among_left, among_right}
use Rattle.nq_ir.proofs.Equal.{bytes_same, bytes_differ, not_below_self}
use Rattle.nq_ir.specs.Among.{Among, first, later}
use Rattle.nq_ir.specs.Trees.{BodyTree, plain_body, rec_body, bag_body, Bodies, no_body, with_body}
use Rattle.nq_ir.specs.Trees.{Comps, no_comp, comp, FormTree}
use Rattle.nq_ir.specs.WellFormed.{BodyHas, BodiesHave, CompsHave, IsNumber, IsWellFormed, numbers}
use Rattle.nq_ir.specs.WellFormed.{conds_numbers, body_numbers, bodies_numbers, comps_numbers}
use Rattle.nq_ir.specs.declared.base.Gen.{Gen}
use Rattle.nq_model.specs.NamedRows.{Label}
use Rattle.nq_model.specs.Orders.{label_cmp, AreRising}
use Rattle.nq_model.specs.Proper.{labels_of, IsOrdered, AreOrdered}
use Rattle.nq_model.specs.Types.{TypeTree, int, bool, text, rec, bag, fun, FieldTypes, none, field}
use Rattle.nq_model.specs.declared.table.TableShape.{TableShape}
use Rattle.std.specs.declared.cmp.Ordering.TheVariants.{Less}
use Rattle.lineage.specs.Places.{comps_in, own_tags, own_bodies, most_gens, tags_in, inside, width}
use Rattle.lineage.specs.Places.{field_body, body_under, under}

-- the bodies that stand at a body's place have its tags, as many generators, and its parts
abbrev mutual
  pub Covers : List BodyTree → BodyTree → Type 0
  Covers here (plain_body b) = Unit {0}
  Covers here (rec_body fs) = CoversFields here fs
  Covers here (bag_body e cs) = CoversComps (tags_in here) (width here) (inside here) cs

  pub CoversFields : List BodyTree → Bodies → Type 0
  CoversFields here no_body = Unit {0}
  CoversFields here (with_body l b fs) = Covers (under l here) b × CoversFields here fs

  pub CoversComps : List ℕ → ℕ → List BodyTree → Comps → Type 0
  CoversComps tags n here no_comp = Unit {0}
  CoversComps tags n here (comp t gens conds b cs) =
      Among t tags × (length gens ≤ n) × Covers here b × CoversComps tags n here cs

-- each field's body is found under its label
abbrev AllFound : Bodies → Bodies → Type 0
AllFound fs no_body = Unit {0}
AllFound fs (with_body l b gs) = Among b (field_body l fs) × AllFound fs gs

less_apart : (l m : Label) → label_cmp l m ≡ Less → m ≢ l
less_apart l m h e = not_below_self l (subst (λ (x : Label). label_cmp l x ≡ Less) e h)

-- what some parts of a list have
flat_among : {A B : Type 0} (f : A → List B) {x : A} {y : B} (xs : List A) → Among x xs
    → Among y (f x) → Among y (flat_map f xs)
flat_among f [] k m = elim k [ ]
flat_among f (x ∷ xs) first m = among_left (flat_map f xs) m
flat_among f (z ∷ xs) (later k) m = among_right (f z) (flat_among f xs k m)

width_most : (here : List BodyTree) {b : BodyTree} → Among b here
    → most_gens (comps_in b) ≤ width here
width_most [] m = elim m [ ]
width_most (b ∷ here) first = omega arith
width_most (c ∷ here) (later m) = omega (arith, width_most here m)

module _ (S : List TableShape) where
  fields_found : (sc : List Gen) (fs : Bodies) (gs : FieldTypes) → BodiesHave S sc fs gs
      → AreRising (labels_of gs) → AllFound fs fs
  fields_found sc no_body gs h r = tt
  fields_found sc (with_body l b fs) none h r = absurd h
  fields_found sc (with_body l b fs) (field k a gs) h r = (
    subst (λ t. Among b (cond t (b ∷ []) (field_body l fs))) (sym (bytes_same l l refl)) first,
    over fs gs h.2 r.0 (fields_found sc fs gs h.2 r.1),
  )
    where
      over : (hs : Bodies) (ks : FieldTypes) → BodiesHave S sc hs ks
          → Each (λ m. label_cmp k m ≡ Less) (labels_of ks) → AllFound fs hs
          → AllFound (with_body l b fs) hs
      over no_body ks p q f = tt
      over (with_body m c hs) none p q f = absurd p
      over (with_body m c hs) (field n d ks) p q f = (
        subst (λ t. Among c (cond t (b ∷ []) (field_body m fs)))
            (sym (bytes_differ m l (λ e. less_apart k n q.0 (sym p.0 ∙ e ∙ h.0)))) f.0,
        over hs ks p.2 q.1 f.1,
      )

  mutual
    covers : (sc : List Gen) (here : List BodyTree) (b : BodyTree) (a : TypeTree) → BodyHas S sc b a
        → IsOrdered a → Among b here → Covers here b
    covers sc here (plain_body b) a h o m = tt
    covers sc here (rec_body fs) int h o m = absurd h
    covers sc here (rec_body fs) bool h o m = absurd h
    covers sc here (rec_body fs) text h o m = absurd h
    covers sc here (rec_body fs) (rec gs) h o m =
        covers_fields sc here fs fs gs h o.1 m (fields_found sc fs gs h o.0)
    covers sc here (rec_body fs) (bag a) h o m = absurd h
    covers sc here (rec_body fs) (fun a b) h o m = absurd h
    covers sc here (bag_body e cs) int h o m = absurd h
    covers sc here (bag_body e cs) bool h o m = absurd h
    covers sc here (bag_body e cs) text h o m = absurd h
    covers sc here (bag_body e cs) (rec gs) h o m = absurd h
    covers sc here (bag_body e cs) (bag a) h o m =
        covers_comps sc (tags_in here) (width here) (inside here) cs a h.1 o
        (λ t k. flat_among (λ x. own_tags (comps_in x)) here m k) (width_most here m)
        (λ b k. flat_among (λ x. own_bodies (comps_in x)) here m k)
    covers sc here (bag_body e cs) (fun a b) h o m = absurd h

    covers_fields : (sc : List Gen) (here : List BodyTree) (whole fs : Bodies) (gs : FieldTypes)
        → BodiesHave S sc fs gs → AreOrdered gs → Among (rec_body whole) here → AllFound whole fs
        → CoversFields here fs
    covers_fields sc here whole no_body gs h o m f = tt
    covers_fields sc here whole (with_body l b fs) none h o m f = absurd h
    covers_fields sc here whole (with_body l b fs) (field k a gs) h o m f = (
      covers sc (under l here) b a h.1 o.0 (flat_among (body_under l) here m f.0),
      covers_fields sc here whole fs gs h.2 o.1 m f.1,
    )

    pub covers_comps : (sc : List Gen) (tags : List ℕ) (n : ℕ) (here : List BodyTree) (cs : Comps)
        (a : TypeTree) → CompsHave S sc cs a → IsOrdered a
        → ((t : ℕ) → Among t (own_tags cs) → Among t tags) → most_gens cs ≤ n
        → ((b : BodyTree) → Among b (own_bodies cs) → Among b here) → CoversComps tags n here cs
    covers_comps sc tags n here no_comp a h o t l m = tt
    covers_comps sc tags n here (comp u gens conds b cs) a h o t l m = (
      t u first,
      omega arith,
      covers (sc ++ gens) here b a h.2 o (m b first),
      covers_comps sc tags n here cs a h.3 o (λ v k. t v (later k)) (omega arith)
          (λ c k. m c (later k)),
    )

-- no comprehension has 2^64 generators
abbrev mutual
  pub Narrow : BodyTree → Type 0
  Narrow (plain_body b) = Unit {0}
  Narrow (rec_body fs) = NarrowFields fs
  Narrow (bag_body e cs) = NarrowComps cs

  pub NarrowFields : Bodies → Type 0
  NarrowFields no_body = Unit {0}
  NarrowFields (with_body l b fs) = Narrow b × NarrowFields fs

  pub NarrowComps : Comps → Type 0
  NarrowComps no_comp = Unit {0}
  NarrowComps (comp t gens conds b cs) = (length gens < 2 ^ 64) × Narrow b × NarrowComps cs

-- different numbers below 2^63 are no more than that
number_below : (xs : List ℕ) → Each IsNumber xs → (q : ℕ) → list_any (eqb q) xs ≡ true → q < 2 ^ 63
number_below [] h q e = absurd (cc)
number_below (x ∷ xs) h q e = go (eqb q x) refl (number_below xs h.1 q) e
  where
    go : (t : Bool) → eqb q x ≡ t → (list_any (eqb q) xs ≡ true → q < 2 ^ 63)
        → (t || list_any (eqb q) xs) ≡ true → q < 2 ^ 63
    go true k f l = subst (λ z. z < 2 ^ 63) (sym ((Decides-eqb q x).0 k)) h.0.1
    go false k f l = f l

as_keys : (xs : List ℕ) → Distinct xs → IsDistinct eqb xs
unfolding IsDistinct
as_keys [] d = tt
as_keys (x ∷ xs) d = (d.0, as_keys xs d.1)

gens_few : (gens : List Gen) → Distinct (numbers gens) → Each IsNumber (numbers gens)
    → length gens < 2 ^ 64
gens_few gens d h =
    let few : length (numbers gens) ≤ 2 ^ 63 = length-le_from_distinct_below (numbers gens) (2 ^ 63)
    (as_keys (numbers gens) d) (number_below (numbers gens) h) in
    let same : length (numbers gens) ≡ length gens = length_map (λ (g : Gen). g.number) gens in
    omega (arith, few, same)

mutual
  narrow : (b : BodyTree) → Distinct (body_numbers b) → Each IsNumber (body_numbers b) → Narrow b
  narrow (plain_body b) d h = tt
  narrow (rec_body fs) d h = narrow_fields fs d h
  narrow (bag_body e cs) d h = narrow_comps cs d h

  narrow_fields : (fs : Bodies) → Distinct (bodies_numbers fs) → Each IsNumber (bodies_numbers fs)
      → NarrowFields fs
  narrow_fields no_body d h = tt
  narrow_fields (with_body l b fs) d h =
      let xs = body_numbers b in
      let ys = bodies_numbers fs in (
        narrow b (distinct_sub (sub_left xs ys) d) (each_left IsNumber xs ys h),
        narrow_fields fs (distinct_sub (sub_right xs ys) d) (each_right IsNumber xs ys h),
      )

  pub narrow_comps : (cs : Comps) → Distinct (comps_numbers cs) → Each IsNumber (comps_numbers cs)
      → NarrowComps cs
  narrow_comps no_comp d h = tt
  narrow_comps (comp t gens conds b cs) d h =
      let own = numbers gens in
      let us = conds_numbers conds in
      let vs = body_numbers b in
      let ws = comps_numbers cs in
      let inner = distinct_sub (sub_right us (vs ++ ws))
      (distinct_sub (sub_right own (us ++ (vs ++ ws))) d) in
      let fit = each_right IsNumber us (vs ++ ws) (each_right IsNumber own (us ++ (vs ++ ws)) h) in (
        gens_few gens (distinct_sub (sub_left own (us ++ (vs ++ ws))) d)
            (each_left IsNumber own (us ++ (vs ++ ws)) h),
        narrow b (distinct_sub (sub_left vs ws) inner) (each_left IsNumber vs ws fit),
        narrow_comps cs (distinct_sub (sub_right vs ws) inner) (each_right IsNumber vs ws fit),
      )

pub form_narrow : (S : List TableShape) (form : FormTree) → IsWellFormed S form
    → NarrowComps form.comps
form_narrow S form w =
    narrow_comps form.comps (distinct (comps_numbers form.comps) w.numbers_differ) w.numbers_fit

-- and so at each place
pub most_narrow : (cs : Comps) → NarrowComps cs → most_gens cs < 2 ^ 64
most_narrow no_comp h = omega arith
most_narrow (comp t gens conds b cs) h = omega (arith, h.0, most_narrow cs h.2)

pub bodies_narrow : (cs : Comps) → NarrowComps cs → Each Narrow (own_bodies cs)
bodies_narrow no_comp h = tt
bodies_narrow (comp t gens conds b cs) h = (h.1, bodies_narrow cs h.2)

in_narrow : (b : BodyTree) → Narrow b → NarrowComps (comps_in b)
in_narrow (plain_body b) h = tt
in_narrow (rec_body fs) h = tt
in_narrow (bag_body e cs) h = h

pub width_narrow : (here : List BodyTree) → Each Narrow here → width here < 2 ^ 64
width_narrow [] h = omega arith
width_narrow (b ∷ here) h =
    omega (arith, most_narrow (comps_in b) (in_narrow b h.0), width_narrow here h.1)

pub inside_narrow : (here : List BodyTree) → Each Narrow here → Each Narrow (inside here)
inside_narrow [] h = tt
inside_narrow (b ∷ here) h =
    each_join Narrow (own_bodies (comps_in b)) (inside here)
    (bodies_narrow (comps_in b) (in_narrow b h.0)) (inside_narrow here h.1)

field_narrow : (l : Label) (fs : Bodies) → NarrowFields fs → Each Narrow (field_body l fs)
field_narrow l no_body h = tt
field_narrow l (with_body k b fs) h = go (bytes_eq l k) (field_narrow l fs h.1)
  where
    go : (t : Bool) → Each Narrow (field_body l fs)
        → Each Narrow (cond t (b ∷ []) (field_body l fs))
    go true e = (h.0, tt)
    go false e = e

body_narrow : (l : Label) (b : BodyTree) → Narrow b → Each Narrow (body_under l b)
body_narrow l (plain_body b) h = tt
body_narrow l (rec_body fs) h = field_narrow l fs h
body_narrow l (bag_body e cs) h = tt

pub under_narrow : (l : Label) (here : List BodyTree) → Each Narrow here
    → Each Narrow (under l here)
under_narrow l [] h = tt
under_narrow l (b ∷ here) h =
    each_join Narrow (body_under l b) (under l here) (body_narrow l b h.0) (under_narrow l here h.1)
