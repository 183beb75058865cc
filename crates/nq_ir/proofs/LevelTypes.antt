-- The bodies at each path have the path's element type.
use Rattle.std.proofs.Common.{◌≡◌, ℕ, ◌+◌, List, [], ◌∷◌, ◌++◌, map, refl, sym, subst, flat_map, append-nil}
use Rattle.nq_ir.proofs.Fits.{typed_fits}
use Rattle.nq_ir.proofs.Paths.{Fitting, Focus, all_conds, all_gens, bag_type, each_over, each_under, flat_mapped, head_fits, map_back, part_head, part_tail, strands_in, strands_kept, tail_fits, under_is}
use Rattle.nq_model.specs.NamedRows.{Label}
use Rattle.nq_ir.specs.Meanings.{EachBoth}
use Rattle.nq_ir.specs.Parts.{element_types, element_types_in, slots}
use Rattle.nq_ir.specs.Spots.{PlacedComp, bags_of, levels, levels_fields, levels_in, placed, under}
use Rattle.nq_ir.specs.Trees.{BodyTree, Comps, Conds, bag_body, comp, no_body, no_comp, no_cond, plain_body, rec_body, with_body}
use Rattle.nq_ir.specs.WellFormed.{BodyHas, CompsHave}
use Rattle.nq_ir.specs.declared.base.Gen.{Gen}
use Rattle.nq_model.specs.Types.{FieldTypes, TypeTree, bag, bool, field, fun, int, none, rec, text}
use Rattle.nq_model.specs.declared.table.TableShape.{TableShape}
use Rattle.std.specs.List.{AllByRecursion as Each}

pub both_append : {A B : Type 0} (P : A → B → Type 0) (xs us : List A) (ys vs : List B) → EachBoth P xs ys → EachBoth P us vs → EachBoth P (xs ++ us) (ys ++ vs)
both_append P [] us ys vs h k = subst (λ (z : List _). EachBoth P us (z ++ vs)) (sym h) k
both_append P (x ∷ xs) us [] vs h k = absurd h
both_append P (x ∷ xs) us (y ∷ ys) vs h k = (h.0, both_append P xs us ys vs h.1 k)

module _ (S : (List TableShape)) where
  abbrev TypedFocus : TypeTree → Focus → Type 0
  TypedFocus A x = BodyHas S (all_gens x.0) x.1 A

  abbrev pub StrandsTyped : TypeTree → List PlacedComp → Type 0
  StrandsTyped B here = Each (λ c. BodyHas S (c.outer_gens ++ c.gens) c.body B) here

  strands_typed : (A : TypeTree) (t : ℕ) (og : List Gen) (oc : Conds) (cs : Comps) → CompsHave S og cs A → Each (λ c. BodyHas S (c.outer_gens ++ c.gens) c.body A) (placed t og oc cs)
  strands_typed A t og oc no_comp h = tt
  strands_typed A t og oc (comp u gens conds b cs) h = (h.2, strands_typed A t og oc cs h.3)

  bag_typed : (A : TypeTree) (sc : List Gen) (b : BodyTree) (ty : TypeTree) (cs : Comps) → b ≡ bag_body ty cs → BodyHas S sc b (bag A) → CompsHave S sc cs A
  bag_typed A sc b ty cs e h = (subst (λ z. BodyHas S sc z (bag A)) e h).1

  under_typed : (A : TypeTree) (s : ℕ) (x : Focus) → Fitting (bag A) s x × TypedFocus (bag A) x → Each (λ c. BodyHas S (c.outer_gens ++ c.gens) c.body A) (under s x.0)
  under_typed A s x h =
      let u = under_is A s x.0 x.1 h.0 in
      subst (λ z. Each (λ c. BodyHas S (c.outer_gens ++ c.gens) c.body A) (placed x.0.tag (all_gens x.0) (all_conds x.0) z)) (sym u.3) (strands_typed A x.0.tag (all_gens x.0) (all_conds x.0) u.0 (bag_typed A (all_gens x.0) x.1 (bag_type x.1) u.0 u.1 h.1))

  head_typed : (k : Label) (A : TypeTree) (fs : FieldTypes) (d : PlacedComp) (b : BodyTree) → TypedFocus (rec (field k A fs)) (d, b) → TypedFocus A (d, part_head b)
  head_typed k A fs d (plain_body x) h = absurd h
  head_typed k A fs d (rec_body no_body) h = absurd h
  head_typed k A fs d (rec_body (with_body l b gs)) h = h.1
  head_typed k A fs d (bag_body ty cs) h = absurd h

  tail_typed : (k : Label) (A : TypeTree) (fs : FieldTypes) (d : PlacedComp) (b : BodyTree) → TypedFocus (rec (field k A fs)) (d, b) → TypedFocus (rec fs) (d, part_tail b)
  tail_typed k A fs d (plain_body x) h = absurd h
  tail_typed k A fs d (rec_body no_body) h = absurd h
  tail_typed k A fs d (rec_body (with_body l b gs)) h = h.2
  tail_typed k A fs d (bag_body ty cs) h = absurd h

  own_focus : (A : TypeTree) (here : List PlacedComp) → StrandsTyped A here → Each (λ x. Fitting A 0 x × TypedFocus A x) (map (λ (c : PlacedComp). (c, c.body)) here)
  own_focus A here h = each_over (λ (c : PlacedComp). (c, c.body)) (λ c. BodyHas S (c.outer_gens ++ c.gens) c.body A) (λ x. Fitting A 0 x × TypedFocus A x) (λ c k. (record { fits = typed_fits S (c.outer_gens ++ c.gens) c.body A k; before = []; after = []; stands = sym (append-nil (bags_of c.body)); as_many = refl }, k)) here h

  mutual
    levels_in_typed : (A : TypeTree) (s : ℕ) (focus : List Focus) → Each (λ x. Fitting A s x × TypedFocus A x) focus → EachBoth StrandsTyped (element_types A) (levels_in A s (strands_in focus))
    levels_in_typed int s focus f = refl
    levels_in_typed bool s focus f = refl
    levels_in_typed text s focus f = refl
    levels_in_typed (rec fs) s focus f = levels_fields_typed fs s focus f
    levels_in_typed (bag A) s focus f =
        let next = flat_map (under s) (strands_in focus) in
        let own : StrandsTyped A next = subst (λ (l : List PlacedComp). StrandsTyped A l) (sym (flat_mapped (λ (x : Focus). x.0) (under s) focus)) (each_under (λ x. Fitting (bag A) s x × TypedFocus (bag A) x) (λ c. BodyHas S (c.outer_gens ++ c.gens) c.body A) (λ x. under s x.0) (under_typed A s) focus f) in
        (own, subst (λ (l : List PlacedComp). EachBoth StrandsTyped (element_types A) (levels_in A 0 l)) (map_back (λ (c : PlacedComp). c.body) next) (levels_in_typed A 0 (map (λ (c : PlacedComp). (c, c.body)) next) (own_focus A next own)))
    levels_in_typed (fun A B) s focus f = refl

    levels_fields_typed : (fs : FieldTypes) (s : ℕ) (focus : List Focus) → Each (λ x. Fitting (rec fs) s x × TypedFocus (rec fs) x) focus → EachBoth StrandsTyped (element_types_in fs) (levels_fields fs s (strands_in focus))
    levels_fields_typed none s focus f = refl
    levels_fields_typed (field k A fs) s focus f =
        let heads : List Focus = map (λ (x : Focus). (x.0, part_head x.1)) focus in
        let tails : List Focus = map (λ (x : Focus). (x.0, part_tail x.1)) focus in
        let head_fit : Each (λ x. Fitting A s x × TypedFocus A x) heads = each_over (λ (x : Focus). (x.0, part_head x.1)) (λ x. Fitting (rec (field k A fs)) s x × TypedFocus (rec (field k A fs)) x) (λ x. Fitting A s x × TypedFocus A x) (λ x q. (head_fits k A fs s x.0 x.1 q.0, head_typed k A fs x.0 x.1 q.1)) focus f in
        let tail_fit : Each (λ x. Fitting (rec fs) (s + slots A) x × TypedFocus (rec fs) x) tails = each_over (λ (x : Focus). (x.0, part_tail x.1)) (λ x. Fitting (rec (field k A fs)) s x × TypedFocus (rec (field k A fs)) x) (λ x. Fitting (rec fs) (s + slots A) x × TypedFocus (rec fs) x) (λ x q. (tail_fits k A fs s x.0 x.1 q.0, tail_typed k A fs x.0 x.1 q.1)) focus f in
        both_append StrandsTyped (element_types A) (element_types_in fs) (levels_in A s (strands_in focus)) (levels_fields fs (s + slots A) (strands_in focus))
        (subst (λ (l : List PlacedComp). EachBoth StrandsTyped (element_types A) (levels_in A s l)) (strands_kept part_head focus) (levels_in_typed A s heads head_fit))
        (subst (λ (l : List PlacedComp). EachBoth StrandsTyped (element_types_in fs) (levels_fields fs (s + slots A) l)) (strands_kept part_tail focus) (levels_fields_typed fs (s + slots A) tails tail_fit))

  pub levels_typed : (A : TypeTree) (cs : Comps) → CompsHave S [] cs A → EachBoth StrandsTyped (element_types (bag A)) (levels A cs)
  levels_typed A cs h =
      let here = placed 0 [] no_cond cs in
      let own = strands_typed A 0 [] no_cond cs h in
      (own, subst (λ (l : List PlacedComp). EachBoth StrandsTyped (element_types A) (levels_in A 0 l)) (map_back (λ (c : PlacedComp). c.body) here) (levels_in_typed A 0 (map (λ (c : PlacedComp). (c, c.body)) here) (own_focus A here own)))
