-- The spots of a form build its meaning.
use Rattle.std.proofs.Common.{◌≡◌, ℕ, zero, suc, ◌+◌, List, [], ◌∷◌, ◌++◌, map, refl, sym, ap, ap₂, ◌∙◌, subst, Bool, true, false, cond, length, arith, filter, flat_map, nat_eq, get_or, append_assoc, append-nil, length-append}
use Rattle.std.proofs.lemmas.List.Elements.{filter-append}
use Rattle.std.proofs.lemmas.List.{map-append}
use Rattle.std.proofs.Math.Seq.{get_or-append_seam}
use Rattle.nq_ir.proofs.Fits.{FitsBody, FitsComps, FitsFields}
use Rattle.nq_ir.specs.Building.{built, element, element_fields}
use Rattle.nq_model.specs.NamedRows.{no_cell}
use Rattle.nq_ir.specs.Meanings.{Env, Tables, bodies_meaning, body_meaning, comps_meaning, kept, value}
use Rattle.nq_ir.specs.Parts.{bags, bags_in, leaves, leaves_in, slots, slots_in}
use Rattle.nq_ir.specs.Spots.{Child, PlacedComp, StrandTree, TagsDiffer, bags_of, bags_of_fields, both, children_of, levels, levels_fields, levels_in, placed, shape_leaves, shape_leaves_in, shape_of, shape_of_fields, shaped, spots, strands, top_spot, under}
use Rattle.nq_ir.specs.Trees.{BaseTree, Bodies, BodyTree, Comps, Conds, bag_body, comp, literal, no_body, no_comp, no_cond, plain_body, rec_body, with_body}
use Rattle.nq_ir.specs.declared.base.Gen.{Gen}
use Rattle.nq_model.specs.Types.{FieldTypes, TypeTree, bag, bool, field, fun, int, none, rec, text}
use Rattle.nq_model.specs.Values.{Fields, Nested, bag_of, base}
use Rattle.std.specs.List.{AllByRecursion as Each}

abbrev pub leaves_of : BodyTree → List BaseTree
leaves_of b = shape_leaves (shape_of b)

abbrev pub leaves_of_fields : Bodies → List BaseTree
leaves_of_fields fs = shape_leaves_in (shape_of_fields fs)

-- a comprehension with a choice of rows
pub record Seen : Type 0 where
  pub of : PlacedComp
  pub rows : Env

abbrev pub child_of : Seen → Child
child_of c = record { of = shaped c.of; rows = c.rows }

filter_shaped : (t : ℕ) (xs : List PlacedComp) → filter (λ d. nat_eq d.parent t) (map shaped xs) ≡ map shaped (filter (λ d. nat_eq d.parent t) xs)
filter_shaped t [] = refl
filter_shaped t (x ∷ xs) = go (nat_eq x.parent t) (filter_shaped t xs)
  where
    go : (b : Bool) → filter (λ d. nat_eq d.parent t) (map shaped xs) ≡ map shaped (filter (λ d. nat_eq d.parent t) xs) → cond b (shaped x ∷ filter (λ d. nat_eq d.parent t) (map shaped xs)) (filter (λ d. nat_eq d.parent t) (map shaped xs)) ≡ map shaped (cond b (x ∷ filter (λ d. nat_eq d.parent t) xs) (filter (λ d. nat_eq d.parent t) xs))
    go true h = ap (λ (l : List StrandTree). shaped x ∷ l) h
    go false h = h

pub get_or_map : {A B : Type 0} (f : A → B) (xs : List A) (n : ℕ) (d : A) → get_or (map f xs) n (f d) ≡ f (get_or xs n d)
get_or_map f [] n d = refl
get_or_map f (x ∷ xs) zero d = refl
get_or_map f (x ∷ xs) (suc n) d = get_or_map f xs n d

each_append_left : {A : Type 0} (P : A → Type 0) (xs ys : List A) → Each P (xs ++ ys) → Each P xs
each_append_left P [] ys e = tt
each_append_left P (x ∷ xs) ys e = (e.0, each_append_left P xs ys e.1)

pub each_filter : {A : Type 0} (P : A → Type 0) (p : A → Bool) (xs : List A) → Each P xs → Each P (filter p xs)
each_filter P p [] e = tt
each_filter P p (x ∷ xs) e = go (p x) (each_filter P p xs e.1)
  where
    go : (b : Bool) → Each P (filter p xs) → Each P (cond b (x ∷ filter p xs) (filter p xs))
    go true h = (e.0, h)
    go false h = h

either_nil : {A : Type 0} (b : Bool) → ◌≡◌ {A = List A} [] (cond b [] [])
either_nil true = refl
either_nil false = refl

-- all of these have the one parent
filter_strands : (t p : ℕ) (og : List Gen) (oc : Conds) (cs : Comps) → filter (λ d. nat_eq d.parent t) (placed p og oc cs) ≡ cond (nat_eq p t) (placed p og oc cs) []
filter_strands t p og oc no_comp = either_nil (nat_eq p t)
filter_strands t p og oc (comp u gens conds b cs) = go (nat_eq p t) (filter_strands t p og oc cs)
  where
    go : (k : Bool) → filter (λ d. nat_eq d.parent t) (placed p og oc cs) ≡ cond k (placed p og oc cs) [] → cond k (record { parent = p; outer_gens = og; outer_conds = oc; tag = u; gens = gens; conds = conds; body = b } ∷ filter (λ d. nat_eq d.parent t) (placed p og oc cs)) (filter (λ d. nat_eq d.parent t) (placed p og oc cs)) ≡ cond k (record { parent = p; outer_gens = og; outer_conds = oc; tag = u; gens = gens; conds = conds; body = b } ∷ placed p og oc cs) []
    go true h = ap (λ (l : List PlacedComp). record { parent = p; outer_gens = og; outer_conds = oc; tag = u; gens = gens; conds = conds; body = b } ∷ l) h
    go false h = h

-- the strands whose parent has the tag t are those under the strands with the tag t
pub filter_under : (t s : ℕ) (here : List PlacedComp) → filter (λ d. nat_eq d.parent t) (flat_map (under s) here) ≡ flat_map (under s) (filter (λ d. nat_eq d.tag t) here)
filter_under t s [] = refl
filter_under t s (d ∷ here) =
    filter-append (λ c. nat_eq c.parent t) (under s d) (flat_map (under s) here) ∙ go (nat_eq d.tag t) (filter_strands t d.tag (d.outer_gens ++ d.gens) (both d.outer_conds d.conds) (get_or (bags_of d.body) s no_comp)) (filter_under t s here)
  where
    go : (k : Bool) → filter (λ c. nat_eq c.parent t) (under s d) ≡ cond k (under s d) [] → filter (λ c. nat_eq c.parent t) (flat_map (under s) here) ≡ flat_map (under s) (filter (λ c. nat_eq c.tag t) here) → filter (λ c. nat_eq c.parent t) (under s d) ++ filter (λ c. nat_eq c.parent t) (flat_map (under s) here) ≡ flat_map (under s) (cond k (d ∷ filter (λ c. nat_eq c.tag t) here) (filter (λ c. nat_eq c.tag t) here))
    go true h i = ap₂ (λ (a b : List PlacedComp). a ++ b) h i
    go false h i = ap₂ (λ (a b : List PlacedComp). a ++ b) h i

-- the comprehensions at each path inside an element are found in the list, and their tags differ
abbrev mutual
  StandsIn : List (List PlacedComp) → TypeTree → (s n : ℕ) → List PlacedComp → Type 0
  StandsIn all int s n here = Unit {0}
  StandsIn all bool s n here = Unit {0}
  StandsIn all text s n here = Unit {0}
  StandsIn all (rec fs) s n here = StandsFields all fs s n here
  StandsIn all (bag A) s n here = (get_or all n [] ≡ flat_map (under s) here) × TagsDiffer (flat_map (under s) here) × StandsIn all A 0 (suc n) (flat_map (under s) here)
  StandsIn all (fun A B) s n here = Unit {0}

  StandsFields : List (List PlacedComp) → FieldTypes → (s n : ℕ) → List PlacedComp → Type 0
  StandsFields all none s n here = Unit {0}
  StandsFields all (field k A fs) s n here = StandsIn all A s n here × StandsFields all fs (s + slots A) (n + bags A) here

pub found : {A : Type 0} (xs ys zs : List A) (y d : A) (n : ℕ) → xs ≡ ys ++ y ∷ zs → length ys ≡ n → get_or xs n d ≡ y
found xs ys zs y d n e h =
    ap (λ (l : List _). get_or l n d) e ∙ subst (λ m. get_or (ys ++ y ∷ zs) m d ≡ y) h (get_or-append_seam ys y zs d)

mutual
  levels_length : (A : TypeTree) (s : ℕ) (here : List PlacedComp) → length (levels_in A s here) ≡ bags A
  levels_length int s here = refl
  levels_length bool s here = refl
  levels_length text s here = refl
  levels_length (rec fs) s here = levels_fields_length fs s here
  levels_length (bag A) s here = ap suc (levels_length A 0 (flat_map (under s) here))
  levels_length (fun A B) s here = refl

  levels_fields_length : (fs : FieldTypes) (s : ℕ) (here : List PlacedComp) → length (levels_fields fs s here) ≡ bags_in fs
  levels_fields_length none s here = refl
  levels_fields_length (field k A fs) s here = length-append (levels_in A s here) (levels_fields fs (s + slots A) here) ∙ ap₂ (λ a b. a + b) (levels_length A s here) (levels_fields_length fs (s + slots A) here)

each_append_right : {A : Type 0} (P : A → Type 0) (xs ys : List A) → Each P (xs ++ ys) → Each P ys
each_append_right P [] ys e = e
each_append_right P (x ∷ xs) ys e = each_append_right P xs ys e.1

mutual
  stands_in : (A : TypeTree) (all : List (List PlacedComp)) (s n : ℕ) (here : List PlacedComp) (before after : List (List PlacedComp)) → all ≡ before ++ (levels_in A s here ++ after) → length before ≡ n → Each TagsDiffer (levels_in A s here) → StandsIn all A s n here
  stands_in int all s n here before after e h t = tt
  stands_in bool all s n here before after e h t = tt
  stands_in text all s n here before after e h t = tt
  stands_in (rec fs) all s n here before after e h t = stands_fields fs all s n here before after e h t
  stands_in (bag A) all s n here before after e h t =
      let x = flat_map (under s) here in
      (found all before (levels_in A 0 x ++ after) x [] n e h, t.0, stands_in A all 0 (suc n) x (before ++ x ∷ []) after (e ∙ sym (append_assoc before (x ∷ []) (levels_in A 0 x ++ after))) (omega (arith, length-append before (x ∷ []), h)) t.1)
  stands_in (fun A B) all s n here before after e h t = tt

  stands_fields : (fs : FieldTypes) (all : List (List PlacedComp)) (s n : ℕ) (here : List PlacedComp) (before after : List (List PlacedComp)) → all ≡ before ++ (levels_fields fs s here ++ after) → length before ≡ n → Each TagsDiffer (levels_fields fs s here) → StandsFields all fs s n here
  stands_fields none all s n here before after e h t = tt
  stands_fields (field k A fs) all s n here before after e h t =
      let one = levels_in A s here in
      let rest = levels_fields fs (s + slots A) here in
      let e1 : all ≡ before ++ (one ++ (rest ++ after)) = e ∙ ap (λ (l : List (List PlacedComp)). before ++ l) (append_assoc one rest after) in (
        stands_in A all s n here before (rest ++ after) e1 h (each_append_left TagsDiffer one rest t),
        stands_fields fs all (s + slots A) (n + bags A) here (before ++ one) after (e1 ∙ sym (append_assoc before one (rest ++ after))) (omega (arith, length-append before one, levels_length A s here, h)) (each_append_right TagsDiffer one rest t),
      )

mutual
  pub fits_leaves : (b : BodyTree) (A : TypeTree) → FitsBody b A → length (leaves_of b) ≡ leaves A
  fits_leaves (plain_body x) int f = refl
  fits_leaves (plain_body x) bool f = refl
  fits_leaves (plain_body x) text f = refl
  fits_leaves (plain_body x) (rec gs) f = absurd f
  fits_leaves (plain_body x) (bag A) f = absurd f
  fits_leaves (plain_body x) (fun A B) f = absurd f
  fits_leaves (rec_body fs) int f = absurd f
  fits_leaves (rec_body fs) bool f = absurd f
  fits_leaves (rec_body fs) text f = absurd f
  fits_leaves (rec_body fs) (rec gs) f = fits_fields_leaves fs gs f
  fits_leaves (rec_body fs) (bag A) f = absurd f
  fits_leaves (rec_body fs) (fun A B) f = absurd f
  fits_leaves (bag_body ty cs) int f = absurd f
  fits_leaves (bag_body ty cs) bool f = absurd f
  fits_leaves (bag_body ty cs) text f = absurd f
  fits_leaves (bag_body ty cs) (rec gs) f = absurd f
  fits_leaves (bag_body ty cs) (bag A) f = refl
  fits_leaves (bag_body ty cs) (fun A B) f = absurd f

  fits_fields_leaves : (fs : Bodies) (gs : FieldTypes) → FitsFields fs gs → length (leaves_of_fields fs) ≡ leaves_in gs
  fits_fields_leaves no_body none f = refl
  fits_fields_leaves no_body (field k A gs) f = absurd f
  fits_fields_leaves (with_body l b fs) none f = absurd f
  fits_fields_leaves (with_body l b fs) (field k A gs) f = length-append (leaves_of b) (leaves_of_fields fs) ∙ ap₂ (λ m n. m + n) (fits_leaves b A f.1) (fits_fields_leaves fs gs f.2)

mutual
  pub fits_bags : (b : BodyTree) (A : TypeTree) → FitsBody b A → length (bags_of b) ≡ slots A
  fits_bags (plain_body x) int f = refl
  fits_bags (plain_body x) bool f = refl
  fits_bags (plain_body x) text f = refl
  fits_bags (plain_body x) (rec gs) f = absurd f
  fits_bags (plain_body x) (bag A) f = absurd f
  fits_bags (plain_body x) (fun A B) f = absurd f
  fits_bags (rec_body fs) int f = absurd f
  fits_bags (rec_body fs) bool f = absurd f
  fits_bags (rec_body fs) text f = absurd f
  fits_bags (rec_body fs) (rec gs) f = fits_fields_bags fs gs f
  fits_bags (rec_body fs) (bag A) f = absurd f
  fits_bags (rec_body fs) (fun A B) f = absurd f
  fits_bags (bag_body ty cs) int f = absurd f
  fits_bags (bag_body ty cs) bool f = absurd f
  fits_bags (bag_body ty cs) text f = absurd f
  fits_bags (bag_body ty cs) (rec gs) f = absurd f
  fits_bags (bag_body ty cs) (bag A) f = refl
  fits_bags (bag_body ty cs) (fun A B) f = absurd f

  fits_fields_bags : (fs : Bodies) (gs : FieldTypes) → FitsFields fs gs → length (bags_of_fields fs) ≡ slots_in gs
  fits_fields_bags no_body none f = refl
  fits_fields_bags no_body (field k A gs) f = absurd f
  fits_fields_bags (with_body l b fs) none f = absurd f
  fits_fields_bags (with_body l b fs) (field k A gs) f = length-append (bags_of b) (bags_of_fields fs) ∙ ap₂ (λ m n. m + n) (fits_bags b A f.1) (fits_fields_bags fs gs f.2)

module _ (ts : Tables) where
  one_strand : (f : Child → Nested) (d : PlacedComp) (es : List Env) → ((e : Env) → f (record { of = shaped d; rows = e }) ≡ body_meaning ts d.body e) → map f (map (λ e. record { of = shaped d; rows = e }) es) ≡ map (λ e. body_meaning ts d.body e) es
  one_strand f d [] h = refl
  one_strand f d (e ∷ es) h = ap₂ (λ x (l : List Nested). x ∷ l) (h e) (one_strand f d es h)

  comps_list : (A : TypeTree) (f : Child → Nested) (env : Env) (G : PlacedComp → Type 0) (p : ℕ) (og : List Gen) (oc : Conds) (cs : Comps) → Each G (placed p og oc cs) → FitsComps cs A → ((c : Seen) → G c.of → FitsBody c.of.body A → f (child_of c) ≡ body_meaning ts c.of.body c.rows) → map f (flat_map (children_of ts env) (map shaped (placed p og oc cs))) ≡ comps_meaning ts cs env
  comps_list A f env G p og oc no_comp g fit h = refl
  comps_list A f env G p og oc (comp t gens conds b cs) g fit h =
      let d : PlacedComp = record { parent = p; outer_gens = og; outer_conds = oc; tag = t; gens = gens; conds = conds; body = b } in
      map-append f (children_of ts env (shaped d)) (flat_map (children_of ts env) (map shaped (placed p og oc cs)))
      ∙ ap₂ (λ (x y : List Nested). x ++ y) (one_strand f d (kept ts gens conds env) (λ e. h (record { of = d; rows = e }) g.0 fit.0)) (comps_list A f env G p og oc cs g.1 fit.1 h)

-- only d has its tag
abbrev Alone : List PlacedComp → PlacedComp → Type 0
Alone here d = filter (λ c. nat_eq c.tag d.tag) here ≡ d ∷ []

-- the rows under an own spot are those of the bag that stands at its slot
under_own : (all : List (List PlacedComp)) (s n : ℕ) (here : List PlacedComp) (c : PlacedComp) (cs : Comps) → get_or all n [] ≡ flat_map (under s) here → Alone here c → get_or (bags_of c.body) s no_comp ≡ cs → filter (λ d. nat_eq d.parent c.tag) (get_or all n []) ≡ placed c.tag (c.outer_gens ++ c.gens) (both c.outer_conds c.conds) cs
under_own all s n here c cs at alone slot =
    ap (λ (l : List PlacedComp). filter (λ d. nat_eq d.parent c.tag) l) at
    ∙ filter_under c.tag s here
    ∙ ap (λ (l : List PlacedComp). flat_map (under s) l) alone
    ∙ append-nil (under s c)
    ∙ ap (λ z. placed c.tag (c.outer_gens ++ c.gens) (both c.outer_conds c.conds) z) slot

-- the same for the strands
under_shaped : (all : List (List PlacedComp)) (s n : ℕ) (here : List PlacedComp) (c : PlacedComp) (cs : Comps) → get_or all n [] ≡ flat_map (under s) here → Alone here c → get_or (bags_of c.body) s no_comp ≡ cs → filter (λ d. nat_eq d.parent c.tag) (get_or (map (map shaped) all) n []) ≡ map shaped (placed c.tag (c.outer_gens ++ c.gens) (both c.outer_conds c.conds) cs)
under_shaped all s n here c cs at alone slot =
    ap (λ (l : List StrandTree). filter (λ d. nat_eq d.parent c.tag) l) (get_or_map (map shaped) all n [])
    ∙ filter_shaped c.tag (get_or all n [])
    ∙ ap (λ (l : List PlacedComp). map shaped l) (under_own all s n here c cs at alone slot)

module _ (ts : Tables) (all : List (List PlacedComp)) where
  mutual
    element_mean : (A : TypeTree) (q l s n : ℕ) (c : Seen) (here : List PlacedComp) (b : BodyTree) (lb la : List BaseTree) (sb sa : List Comps) → StandsIn all A s n here → Alone here c.of → leaves_of c.of.body ≡ lb ++ (leaves_of b ++ la) → length lb ≡ l → bags_of c.of.body ≡ sb ++ (bags_of b ++ sa) → length sb ≡ s → FitsBody b A → element (spots ts (map (map shaped) all)) A q l s n (child_of c) ≡ body_meaning ts b c.rows
    element_mean int q l s n c here (plain_body x) lb la sb sa st al e el f fl fit = ap (λ z. base (value ts z c.rows)) (found (leaves_of c.of.body) lb la x (literal no_cell) l e el)
    element_mean int q l s n c here (rec_body fs) lb la sb sa st al e el f fl fit = absurd fit
    element_mean int q l s n c here (bag_body ty cs) lb la sb sa st al e el f fl fit = absurd fit
    element_mean bool q l s n c here (plain_body x) lb la sb sa st al e el f fl fit = ap (λ z. base (value ts z c.rows)) (found (leaves_of c.of.body) lb la x (literal no_cell) l e el)
    element_mean bool q l s n c here (rec_body fs) lb la sb sa st al e el f fl fit = absurd fit
    element_mean bool q l s n c here (bag_body ty cs) lb la sb sa st al e el f fl fit = absurd fit
    element_mean text q l s n c here (plain_body x) lb la sb sa st al e el f fl fit = ap (λ z. base (value ts z c.rows)) (found (leaves_of c.of.body) lb la x (literal no_cell) l e el)
    element_mean text q l s n c here (rec_body fs) lb la sb sa st al e el f fl fit = absurd fit
    element_mean text q l s n c here (bag_body ty cs) lb la sb sa st al e el f fl fit = absurd fit
    element_mean (rec gs) q l s n c here (plain_body x) lb la sb sa st al e el f fl fit = absurd fit
    element_mean (rec gs) q l s n c here (rec_body fs) lb la sb sa st al e el f fl fit = ap Nested.rec (fields_mean gs q l s n c here fs lb la sb sa st al e el f fl fit)
    element_mean (rec gs) q l s n c here (bag_body ty cs) lb la sb sa st al e el f fl fit = absurd fit
    element_mean (bag A) q l s n c here (plain_body x) lb la sb sa st al e el f fl fit = absurd fit
    element_mean (bag A) q l s n c here (rec_body fs) lb la sb sa st al e el f fl fit = absurd fit
    element_mean (bag A) q l s n c here (bag_body ty cs) lb la sb sa st al e el f fl fit =
        let under_it = under_own all s n here c.of cs st.0 al (found (bags_of c.of.body) sb sa cs no_comp s f fl) in
        let g : Child → Nested = λ r. element (spots ts (map (map shaped) all)) A n 0 0 (suc n) r in
        let x = flat_map (under s) here in
        let own : Each (Alone x) (placed c.of.tag (c.of.outer_gens ++ c.of.gens) (both c.of.outer_conds c.of.conds) cs) = subst (λ (l : List PlacedComp). Each (Alone x) l) under_it (subst (λ (l : List PlacedComp). Each (Alone x) (filter (λ d. nat_eq d.parent c.of.tag) l)) (sym st.0) (each_filter (Alone x) (λ d. nat_eq d.parent c.of.tag) x st.1)) in
        ap (λ (l : List StrandTree). bag_of (map g (flat_map (children_of ts c.rows) l))) (under_shaped all s n here c.of cs st.0 al (found (bags_of c.of.body) sb sa cs no_comp s f fl))
        ∙ ap bag_of (comps_list ts A g c.rows (Alone x) c.of.tag (c.of.outer_gens ++ c.of.gens) (both c.of.outer_conds c.of.conds) cs own fit (λ d a k. element_mean A n 0 0 (suc n) d x d.of.body [] [] [] [] st.2 a (sym (append-nil (leaves_of d.of.body))) refl (sym (append-nil (bags_of d.of.body))) refl k))
    element_mean (fun A B) q l s n c here (plain_body x) lb la sb sa st al e el f fl fit = absurd fit
    element_mean (fun A B) q l s n c here (rec_body fs) lb la sb sa st al e el f fl fit = absurd fit
    element_mean (fun A B) q l s n c here (bag_body ty cs) lb la sb sa st al e el f fl fit = absurd fit

    fields_mean : (gs : FieldTypes) (q l s n : ℕ) (c : Seen) (here : List PlacedComp) (fs : Bodies) (lb la : List BaseTree) (sb sa : List Comps) → StandsFields all gs s n here → Alone here c.of → leaves_of c.of.body ≡ lb ++ (leaves_of_fields fs ++ la) → length lb ≡ l → bags_of c.of.body ≡ sb ++ (bags_of_fields fs ++ sa) → length sb ≡ s → FitsFields fs gs → element_fields (spots ts (map (map shaped) all)) gs q l s n (child_of c) ≡ bodies_meaning ts fs c.rows
    fields_mean none q l s n c here no_body lb la sb sa st al e el f fl fit = refl
    fields_mean none q l s n c here (with_body k b fs) lb la sb sa st al e el f fl fit = absurd fit
    fields_mean (field k A gs) q l s n c here no_body lb la sb sa st al e el f fl fit = absurd fit
    fields_mean (field k A gs) q l s n c here (with_body j b fs) lb la sb sa st al e el f fl fit =
        let e1 : leaves_of c.of.body ≡ lb ++ (leaves_of b ++ (leaves_of_fields fs ++ la)) = e ∙ ap (λ (x : List BaseTree). lb ++ x) (append_assoc (leaves_of b) (leaves_of_fields fs) la) in
        let f1 : bags_of c.of.body ≡ sb ++ (bags_of b ++ (bags_of_fields fs ++ sa)) = f ∙ ap (λ (x : List Comps). sb ++ x) (append_assoc (bags_of b) (bags_of_fields fs) sa) in
        let head : element (spots ts (map (map shaped) all)) A q l s n (child_of c) ≡ body_meaning ts b c.rows = element_mean A q l s n c here b lb (leaves_of_fields fs ++ la) sb (bags_of_fields fs ++ sa) st.0 al e1 el f1 fl fit.1 in
        let tail : element_fields (spots ts (map (map shaped) all)) gs q (l + leaves A) (s + slots A) (n + bags A) (child_of c) ≡ bodies_meaning ts fs c.rows = fields_mean gs q (l + leaves A) (s + slots A) (n + bags A) c here fs (lb ++ leaves_of b) la (sb ++ bags_of b) sa st.1 al (e1 ∙ sym (append_assoc lb (leaves_of b) (leaves_of_fields fs ++ la))) (length-append lb (leaves_of b) ∙ ap₂ (λ x y. x + y) el (fits_leaves b A fit.1)) (f1 ∙ sym (append_assoc sb (bags_of b) (bags_of_fields fs ++ sa))) (length-append sb (bags_of b) ∙ ap₂ (λ x y. x + y) fl (fits_bags b A fit.1)) fit.2 in
        ap₂ (λ v r. Fields.field k v r) head tail ∙ ap (λ z. Fields.field z (body_meaning ts b c.rows) (bodies_meaning ts fs c.rows)) (sym fit.0)

-- the spots of a form, from the top, build its meaning
pub spots_mean : (ts : Tables) (A : TypeTree) (cs : Comps) → FitsComps cs A → Each TagsDiffer (levels A cs) → built (spots ts (strands A cs)) A 0 top_spot ≡ comps_meaning ts cs []
spots_mean ts A cs fit t =
    let all = levels A cs in
    let x = placed 0 [] no_cond cs in
    let st : StandsIn all A 0 1 x = stands_in A all 0 1 x (x ∷ []) [] (ap (λ (l : List (List PlacedComp)). x ∷ l) (sym (append-nil (levels_in A 0 x)))) refl t.1 in
    let g : Child → Nested = λ r. element (spots ts (map (map shaped) all)) A 0 0 0 1 r in
    ap (λ (l : List StrandTree). map g (flat_map (children_of ts []) l)) (filter_shaped 0 x)
    ∙ ap (λ (l : List PlacedComp). map g (flat_map (children_of ts []) (map shaped l))) (filter_strands 0 0 [] no_cond cs)
    ∙ comps_list ts A g [] (Alone x) 0 [] no_cond cs t.0 fit (λ d a k. element_mean ts all A 0 0 0 1 d x d.of.body [] [] [] [] st a (sym (append-nil (leaves_of d.of.body))) refl (sym (append-nil (bags_of d.of.body))) refl k)
