-- What holds of each comprehension of a form holds at each path, and tags that differ in the form differ at each path.
use Rattle.std.proofs.Common.{◌≡◌, ℕ, zero, suc, ◌+◌, List, [], ◌∷◌, ◌++◌, map, refl, sym, ap, ap₂, ◌∙◌, subst, Bool, true, false, cond, filter, flat_map, nat_eq, get_or, append-nil}
use Rattle.std.proofs.lemmas.Grind.{flat_map-append}
use Rattle.std.proofs.lemmas.Bool.Decides.{Decides-eqb}
use Rattle.nq_ir.proofs.Distinct.{Distinct, Sub, distinct_sub, each_join, ends, keeps, skips, sub_append, sub_flat, sub_one}
use Rattle.nq_ir.proofs.Equal.{nat_same}
use Rattle.nq_ir.proofs.Nested.{flat_flat}
use Rattle.nq_ir.specs.Parts.{slots}
use Rattle.nq_ir.specs.Spots.{PlacedComp, TagsDiffer, bags_of, bags_of_fields, both, levels, levels_fields, levels_in, placed, under}
use Rattle.nq_ir.specs.Trees.{Bodies, BodyTree, Comps, Conds, bag_body, comp, no_body, no_comp, no_cond, plain_body, rec_body, with_body}
use Rattle.nq_ir.specs.WellFormed.{bodies_tags, body_tags, comps_tags}
use Rattle.nq_ir.specs.declared.base.Gen.{Gen}
use Rattle.nq_model.proofs.Numberings.{each_map}
use Rattle.nq_model.specs.Types.{FieldTypes, TypeTree, bag, bool, field, fun, int, none, rec, text}
use Rattle.std.specs.List.{AllByRecursion as Each}

-- P holds of each comprehension of these and inside them, as a strand
abbrev mutual
  pub AllComps : (PlacedComp → Type 0) → ℕ → List Gen → Conds → Comps → Type 0
  AllComps P p og oc no_comp = Unit {0}
  AllComps P p og oc (comp t gens conds b cs) =
      P (record { parent = p; outer_gens = og; outer_conds = oc; tag = t; gens = gens; conds = conds; body = b }) × AllBody P t (og ++ gens) (both oc conds) b × AllComps P p og oc cs

  pub AllBody : (PlacedComp → Type 0) → ℕ → List Gen → Conds → BodyTree → Type 0
  AllBody P p og oc (plain_body b) = Unit {0}
  AllBody P p og oc (rec_body fs) = AllFields P p og oc fs
  AllBody P p og oc (bag_body ty cs) = AllComps P p og oc cs

  pub AllFields : (PlacedComp → Type 0) → ℕ → List Gen → Conds → Bodies → Type 0
  AllFields P p og oc no_body = Unit {0}
  AllFields P p og oc (with_body l b fs) = AllBody P p og oc b × AllFields P p og oc fs

-- P of a strand, and of all inside
abbrev AllIn : (PlacedComp → Type 0) → PlacedComp → Type 0
AllIn P d = P d × AllBody P d.tag (d.outer_gens ++ d.gens) (both d.outer_conds d.conds) d.body

strands_all : (P : PlacedComp → Type 0) (p : ℕ) (og : List Gen) (oc : Conds) (cs : Comps) → AllComps P p og oc cs → Each (AllIn P) (placed p og oc cs)
strands_all P p og oc no_comp h = tt
strands_all P p og oc (comp t gens conds b cs) h = ((h.0, h.1), strands_all P p og oc cs h.2)

mutual
  bags_all : (P : PlacedComp → Type 0) (p : ℕ) (og : List Gen) (oc : Conds) (b : BodyTree) → AllBody P p og oc b → Each (AllComps P p og oc) (bags_of b)
  bags_all P p og oc (plain_body b) h = tt
  bags_all P p og oc (rec_body fs) h = bags_all_fields P p og oc fs h
  bags_all P p og oc (bag_body ty cs) h = (h, tt)

  bags_all_fields : (P : PlacedComp → Type 0) (p : ℕ) (og : List Gen) (oc : Conds) (fs : Bodies) → AllFields P p og oc fs → Each (AllComps P p og oc) (bags_of_fields fs)
  bags_all_fields P p og oc no_body h = tt
  bags_all_fields P p og oc (with_body l b fs) h = each_join (AllComps P p og oc) (bags_of b) (bags_of_fields fs) (bags_all P p og oc b h.0) (bags_all_fields P p og oc fs h.1)

each_get : {A : Type 0} (P : A → Type 0) (xs : List A) (s : ℕ) (d : A) → P d → Each P xs → P (get_or xs s d)
each_get P [] s d p e = p
each_get P (x ∷ xs) zero d p e = e.0
each_get P (x ∷ xs) (suc s) d p e = each_get P xs s d p e.1

under_all : (P : PlacedComp → Type 0) (s : ℕ) (here : List PlacedComp) → Each (AllIn P) here → Each (AllIn P) (flat_map (under s) here)
under_all P s [] h = tt
under_all P s (d ∷ here) h =
    each_join (AllIn P) (under s d) (flat_map (under s) here) (strands_all P d.tag (d.outer_gens ++ d.gens) (both d.outer_conds d.conds) (get_or (bags_of d.body) s no_comp) (each_get (AllComps P d.tag (d.outer_gens ++ d.gens) (both d.outer_conds d.conds)) (bags_of d.body) s no_comp tt (bags_all P d.tag (d.outer_gens ++ d.gens) (both d.outer_conds d.conds) d.body h.0.1))) (under_all P s here h.1)

first_of_all : (P : PlacedComp → Type 0) (ds : List PlacedComp) → Each (AllIn P) ds → Each P ds
first_of_all P ds h = each_map (AllIn P) P (λ d k. k.0) ds h

mutual
  levels_in_all : (P : PlacedComp → Type 0) (A : TypeTree) (s : ℕ) (here : List PlacedComp) → Each (AllIn P) here → Each (Each P) (levels_in A s here)
  levels_in_all P int s here h = tt
  levels_in_all P bool s here h = tt
  levels_in_all P text s here h = tt
  levels_in_all P (rec fs) s here h = levels_fields_all P fs s here h
  levels_in_all P (bag A) s here h =
      let u = under_all P s here h in
      (first_of_all P (flat_map (under s) here) u, levels_in_all P A 0 (flat_map (under s) here) u)
  levels_in_all P (fun A B) s here h = tt

  levels_fields_all : (P : PlacedComp → Type 0) (fs : FieldTypes) (s : ℕ) (here : List PlacedComp) → Each (AllIn P) here → Each (Each P) (levels_fields fs s here)
  levels_fields_all P none s here h = tt
  levels_fields_all P (field k A fs) s here h = each_join (Each P) (levels_in A s here) (levels_fields fs (s + slots A) here) (levels_in_all P A s here h) (levels_fields_all P fs (s + slots A) here h)

-- what holds of each comprehension of the form holds at each path
pub levels_all : (P : PlacedComp → Type 0) (A : TypeTree) (cs : Comps) → AllComps P 0 [] no_cond cs → Each (Each P) (levels A cs)
levels_all P A cs h =
    let x = strands_all P 0 [] no_cond cs h in
    (first_of_all P (placed 0 [] no_cond cs) x, levels_in_all P A 0 (placed 0 [] no_cond cs) x)

abbrev strand_tags : PlacedComp → List ℕ
strand_tags d = d.tag ∷ body_tags d.body

mutual
  body_tags_are : (b : BodyTree) → body_tags b ≡ flat_map comps_tags (bags_of b)
  body_tags_are (plain_body b) = refl
  body_tags_are (rec_body fs) = fields_tags_are fs
  body_tags_are (bag_body ty cs) = sym (append-nil (comps_tags cs))

  fields_tags_are : (fs : Bodies) → bodies_tags fs ≡ flat_map comps_tags (bags_of_fields fs)
  fields_tags_are no_body = refl
  fields_tags_are (with_body l b fs) = ap₂ (λ (x y : List ℕ). x ++ y) (body_tags_are b) (fields_tags_are fs) ∙ sym (flat_map-append comps_tags (bags_of b) (bags_of_fields fs))

strands_tags : (p : ℕ) (og : List Gen) (oc : Conds) (cs : Comps) → flat_map strand_tags (placed p og oc cs) ≡ comps_tags cs
strands_tags p og oc no_comp = refl
strands_tags p og oc (comp t gens conds b cs) = ap (λ (z : List ℕ). t ∷ (body_tags b ++ z)) (strands_tags p og oc cs)

under_tags : (s : ℕ) (d : PlacedComp) → Sub (flat_map strand_tags (under s d)) (strand_tags d)
under_tags s d =
    subst (λ (z : List ℕ). Sub z (strand_tags d)) (sym (strands_tags d.tag (d.outer_gens ++ d.gens) (both d.outer_conds d.conds) (get_or (bags_of d.body) s no_comp))) (skips (subst (λ (z : List ℕ). Sub (comps_tags (get_or (bags_of d.body) s no_comp)) z) (sym (body_tags_are d.body)) (sub_one comps_tags (bags_of d.body) s no_comp refl)))

below_tags : (s : ℕ) (here : List PlacedComp) → Sub (flat_map strand_tags (flat_map (under s) here)) (flat_map strand_tags here)
below_tags s here = subst (λ (z : List ℕ). Sub z (flat_map strand_tags here)) (sym (flat_flat strand_tags (under s) here)) (sub_flat (λ d. flat_map strand_tags (under s d)) strand_tags (under_tags s) here)

own_tags : (here : List PlacedComp) → Sub (map (λ d. d.tag) here) (flat_map strand_tags here)
own_tags [] = ends
own_tags (d ∷ here) = sub_append (keeps (sub_none_of (body_tags d.body))) (own_tags here)
  where
    sub_none_of : (xs : List ℕ) → Sub [] xs
    sub_none_of [] = ends
    sub_none_of (x ∷ xs) = skips (sub_none_of xs)

none_with : (t : ℕ) (here : List PlacedComp) → Each (λ m. nat_eq t m ≡ false) (map (λ d. d.tag) here) → filter (λ c. nat_eq c.tag t) here ≡ []
none_with t [] h = refl
none_with t (d ∷ here) h = ap (λ k. cond k (d ∷ filter (λ c. nat_eq c.tag t) here) (filter (λ c. nat_eq c.tag t) here)) (flip t d.tag h.0) ∙ none_with t here h.1
  where
    flip : (g h : ℕ) → nat_eq g h ≡ false → nat_eq h g ≡ false
    flip g h e = go (nat_eq h g) refl
      where
        go : (b : Bool) → nat_eq h g ≡ b → b ≡ false
        go true f = let s : h ≡ g = (Decides-eqb h g).0 f in let w : true ≡ false = sym (nat_same g h (sym s)) ∙ e in w
        go false f = refl

tags_differ : (here : List PlacedComp) → Distinct (map (λ d. d.tag) here) → TagsDiffer here
tags_differ [] h = tt
tags_differ (d ∷ here) h =
    (ap (λ k. cond k (d ∷ filter (λ c. nat_eq c.tag d.tag) here) (filter (λ c. nat_eq c.tag d.tag) here)) (nat_same d.tag d.tag refl) ∙ ap (λ (z : List PlacedComp). d ∷ z) (none_with d.tag here h.0), others here h.0 (tags_differ here h.1))
  where
    others : (ds : List PlacedComp) → Each (λ m. nat_eq d.tag m ≡ false) (map (λ x. x.tag) ds) → Each (λ x. filter (λ c. nat_eq c.tag x.tag) here ≡ x ∷ []) ds → Each (λ x. filter (λ c. nat_eq c.tag x.tag) (d ∷ here) ≡ x ∷ []) ds
    others [] a e = tt
    others (x ∷ ds) a e = (ap (λ k. cond k (d ∷ filter (λ c. nat_eq c.tag x.tag) here) (filter (λ c. nat_eq c.tag x.tag) here)) a.0 ∙ e.0, others ds a.1 e.1)

-- what holds of comprehensions whose tags differ holds at each path
module _ (Q : List PlacedComp → Type 0) (from : (here : List PlacedComp) → Distinct (map (λ d. d.tag) here) → Q here) where
  mutual
    levels_in_apart : (A : TypeTree) (s : ℕ) (here : List PlacedComp) → Distinct (flat_map strand_tags here) → Each Q (levels_in A s here)
    levels_in_apart int s here h = tt
    levels_in_apart bool s here h = tt
    levels_in_apart text s here h = tt
    levels_in_apart (rec fs) s here h = levels_fields_apart fs s here h
    levels_in_apart (bag A) s here h =
        let x = flat_map (under s) here in
        let u : Distinct (flat_map strand_tags x) = distinct_sub (below_tags s here) h in
        (from x (distinct_sub (own_tags x) u), levels_in_apart A 0 x u)
    levels_in_apart (fun A B) s here h = tt

    levels_fields_apart : (fs : FieldTypes) (s : ℕ) (here : List PlacedComp) → Distinct (flat_map strand_tags here) → Each Q (levels_fields fs s here)
    levels_fields_apart none s here h = tt
    levels_fields_apart (field k A fs) s here h = each_join Q (levels_in A s here) (levels_fields fs (s + slots A) here) (levels_in_apart A s here h) (levels_fields_apart fs (s + slots A) here h)

  pub levels_apart : (A : TypeTree) (cs : Comps) → Distinct (comps_tags cs) → Each Q (levels A cs)
  levels_apart A cs h =
      let x = placed 0 [] no_cond cs in
      let u : Distinct (flat_map strand_tags x) = subst Distinct (sym (strands_tags 0 [] no_cond cs)) h in
      (from x (distinct_sub (own_tags x) u), levels_in_apart A 0 x u)

-- tags that differ in the form differ at each path
pub levels_tags : (A : TypeTree) (cs : Comps) → Distinct (comps_tags cs) → Each TagsDiffer (levels A cs)
levels_tags A cs h = levels_apart TagsDiffer tags_differ A cs h
