-- What the let form of a shredded form of a well-formed form is.
use Rattle.std.proofs.Common.{◌≡◌, ◌≢◌, ℕ, zero, suc, ◌≤◌, List, [], ◌∷◌, map, refl, sym, ap, ◌∙◌, subst, Bool, true, false, cond, nat_eq, arith, bytes_eq}
use Rattle.std.specs.List.{AllByRecursion as Each}
use Rattle.nq_model.proofs.Canonical.{reordered_sorted}
use Rattle.nq_model.proofs.Numberings.{each_map, each_reordered}
use Rattle.nq_model.specs.Bags.{Reordered}
use Rattle.nq_model.specs.Types.{bag}
use Rattle.nq_model.specs.declared.table.Schema.{Schema}
use Rattle.nq_ir.specs.declared.base.Gen.{Gen}
use Rattle.nq_ir.specs.declared.path.Step.{Step}
use Rattle.nq_ir.specs.declared.path.Step.TheVariants.{Down, Field}
use Rattle.nq_ir.specs.Among.{Among, first, later}
use Rattle.nq_ir.specs.Lets.{LetTree, PartTree, Inserts, by_parent, insert_lets, let_around, let_number, lets_after, lets_of, part_from, parts_on, strand_of}
use Rattle.nq_ir.specs.Paths.{paths}
use Rattle.nq_ir.specs.Shredded.{ShreddedTree, IsShreddedOf, IsRising, shredded}
use Rattle.nq_ir.specs.Spots.{PlacedComp, StrandTree, comps_at, comps_below, comps_in, levels, placed, shaped, strands_at}
use Rattle.nq_ir.specs.Trees.{Bodies, BodyTree, Comps, Conds, FormTree, bag_body, comp, no_body, no_comp, no_cond, plain_body, rec_body, with_body}
use Rattle.nq_ir.specs.WellFormed.{IsNumber, IsWellFormed, bodies_tags, body_tags, comps_tags, comps_numbers}
use Rattle.nq_ir.proofs.Allowed.{each_mapped, each_unmapped}
use Rattle.nq_ir.proofs.Ascending.{sorted_rises}
use Rattle.nq_ir.proofs.Distinct.{Distinct, distinct, each_among, each_join, each_left, each_right}
use Rattle.nq_ir.proofs.Fits.{typed_comps_fit}
use Rattle.nq_ir.proofs.Insert.{Around, each_let, lets_known, parents_rise, strands_again}
use Rattle.nq_ir.proofs.Levels.{levels_all, levels_apart}
use Rattle.nq_ir.proofs.Nested.{map_of_map}
use Rattle.nq_ir.proofs.Paths.{proper, shred, shred_levels}
use Rattle.nq_ir.proofs.Scopes.{StrandGood, all_scopes, all_tags, look, strands_good}
use Rattle.nq_ir.proofs.Whole.{tags_apart}

-- what holds of the comprehensions at each path holds at this one
pub level_at : (S : Schema) (form : FormTree) → IsWellFormed S.tables form → (p : List Step) → Among p (paths (bag form.element)) → (Q : List PlacedComp → Type 0) → Each Q (levels form.element form.comps) → Q (shred form.element form.comps p)
level_at S form w p at Q e =
    each_among (λ q. Q (shred form.element form.comps q)) at (each_unmapped (shred form.element form.comps) Q (paths (bag form.element)) (subst (λ (z : List (List PlacedComp)). Each Q z) (sym (shred_levels form.element form.comps (proper form.element w.labels_rise) (typed_comps_fit S.tables [] form.comps form.element w.typed))) e))

-- the parents of the comprehensions below others have their tags
abbrev Positive : ℕ → Type 0
Positive n = 1 ≤ n

mutual
  below_at : (t : ℕ) (og : List Gen) (oc : Conds) (b : BodyTree) (p : List Step) → Positive t → Each Positive (body_tags b) → Each (λ d. Positive d.parent) (comps_at t og oc b p)
  below_at t og oc (plain_body b) p h e = tt
  below_at t og oc (rec_body fs) [] h e = tt
  below_at t og oc (rec_body fs) (Down ∷ p) h e = tt
  below_at t og oc (rec_body fs) (Field l ∷ p) h e = below_in t og oc fs l p h e
  below_at t og oc (bag_body ty cs) [] h e = placed_below t og oc cs h
  below_at t og oc (bag_body ty cs) (Down ∷ p) h e = below_below og oc cs p e
  below_at t og oc (bag_body ty cs) (Field l ∷ p) h e = tt

  below_in : (t : ℕ) (og : List Gen) (oc : Conds) (fs : Bodies) (l : List ℕ) (p : List Step) → Positive t → Each Positive (bodies_tags fs) → Each (λ d. Positive d.parent) (comps_in t og oc fs l p)
  below_in t og oc no_body l p h e = tt
  below_in t og oc (with_body k b fs) l p h e =
      go (bytes_eq l k) (below_at t og oc b p h (each_left Positive (body_tags b) (bodies_tags fs) e)) (below_in t og oc fs l p h (each_right Positive (body_tags b) (bodies_tags fs) e))
    where
      go : (c : Bool) → Each (λ d. Positive d.parent) (comps_at t og oc b p) → Each (λ d. Positive d.parent) (comps_in t og oc fs l p) → Each (λ (d : PlacedComp). Positive d.parent) (cond c (comps_at t og oc b p) (comps_in t og oc fs l p))
      go true x y = x
      go false x y = y

  below_below : (og : List Gen) (oc : Conds) (cs : Comps) (p : List Step) → Each Positive (comps_tags cs) → Each (λ d. Positive d.parent) (comps_below og oc cs p)
  below_below og oc no_comp p e = tt
  below_below og oc (comp t gens conds b cs) p e =
      each_join (λ d. Positive d.parent) (comps_at t _ _ b p) (comps_below og oc cs p) (below_at t _ _ b p e.0 (each_left Positive (body_tags b) (comps_tags cs) e.1)) (below_below og oc cs p (each_right Positive (body_tags b) (comps_tags cs) e.1))

  placed_below : (t : ℕ) (og : List Gen) (oc : Conds) (cs : Comps) → Positive t → Each (λ d. Positive d.parent) (placed t og oc cs)
  placed_below t og oc no_comp h = tt
  placed_below t og oc (comp u gens conds b cs) h = (h, placed_below t og oc cs h)

abbrev AtTop : StrandTree → Type 0
AtTop d = d.parent ≡ 0

placed_top : (cs : Comps) → Each (λ d. d.parent ≡ 0) (placed 0 [] no_cond cs)
placed_top no_comp = tt
placed_top (comp t gens conds b cs) = (refl, placed_top cs)

no_lets : (ds : List StrandTree) → Each AtTop ds → lets_after 0 ds ≡ []
no_lets [] e = refl
no_lets (d ∷ ds) e = ap (λ t. cond (nat_eq t 0) (lets_after 0 ds) (let_around d ∷ lets_after d.parent ds)) e.0 ∙ no_lets ds e.1

from_one : (lets : List LetTree) (ds : List StrandTree) → Each (λ d. Positive d.parent) ds → Each (λ p. 1 ≤ p.from) (parts_on lets ds)
from_one lets [] e = tt
from_one lets (d ∷ ds) e = (one d.parent e.0, from_one lets ds e.1)
  where
    one : (t : ℕ) → Positive t → 1 ≤ let_number lets t
    one zero h = absurd (omega (arith, h))
    one (suc t) h = omega arith

each_parent_among : (ds : List StrandTree) → Each (λ d. Among d.parent (map (λ d. d.parent) ds)) ds
each_parent_among [] = tt
each_parent_among (d ∷ ds) =
    (first, each_map (λ e. Among e.parent (map (λ d. d.parent) ds)) (λ e. Among e.parent (d.parent ∷ map (λ d. d.parent) ds)) (λ e m. later m) ds (each_parent_among ds))

module _ (schema : Schema) (form : FormTree) (w : IsWellFormed schema.tables form) (p : List Step) (at : Among p (paths (bag form.element))) where
  abbrev here : List StrandTree
  here = strands_at form.element form.comps p

  abbrev there : List PlacedComp
  there = shred form.element form.comps p

  mixed : Reordered (map shaped there) here
  mixed = reordered_sorted (λ (d e : StrandTree). _) (map shaped there)

  good : Each (StrandGood (look (all_scopes form.comps)) (all_tags form.comps)) there
  good =
      level_at schema form w p at (λ h. Each (StrandGood (look (all_scopes form.comps)) (all_tags form.comps)) h) (levels_all (StrandGood (look (all_scopes form.comps)) (all_tags form.comps)) form.element form.comps (strands_good schema.tables form.element form.comps w.typed (tags_apart schema form w) (distinct (comps_numbers form.comps) w.numbers_differ)))

  pub around_at : Each (Around (look (all_scopes form.comps))) here
  around_at = each_reordered (Around (look (all_scopes form.comps))) (map shaped there) here mixed (each_mapped shaped (StrandGood (look (all_scopes form.comps)) (all_tags form.comps)) (Around (look (all_scopes form.comps))) (λ c k. k.around) there good)

  pub tags_here : IsRising (map (λ d. d.tag) here)
  tags_here =
      sorted_rises (λ (d : StrandTree). d.tag) (map shaped there) (subst Distinct (sym (map_of_map (λ (d : StrandTree). d.tag) shaped there)) (level_at schema form w p at (λ h. Distinct (map (λ d. d.tag) h)) (levels_apart (λ h. Distinct (map (λ d. d.tag) h)) (λ h d. d) form.element form.comps (distinct (comps_tags form.comps) w.tags_differ))))

  pub good_at : (placed_here : List PlacedComp) × Reordered (map shaped placed_here) here × Each (StrandGood (look (all_scopes form.comps)) (all_tags form.comps)) placed_here
  good_at = (there, mixed, good)

  pub again_at : map (strand_of (lets_of here)) (parts_on (lets_of here) here) ≡ here
  again_at = strands_again (look (all_scopes form.comps)) here refl around_at

  over : (Q : ℕ → Type 0) → Each (λ d. Q d.parent) there → Each (λ d. Q d.parent) here
  over Q e = each_reordered (λ d. Q d.parent) (map shaped there) here mixed (each_mapped shaped (λ d. Q d.parent) (λ d. Q d.parent) (λ c k. k) there e)

  inserts_at : Inserts (shredded form p) (insert_lets (shredded form p))
  inserts_at = record {
    parents_rise = parents_rise here;
    parents_serve = each_let (λ l. Among l.parent (map (λ d. d.parent) here)) here (each_parent_among here);
    lets_known = lets_known here;
    strands = again_at;
    tags_rise = subst IsRising (sym (map_of_map (λ (q : PartTree). q.tag) (λ (d : StrandTree). part_from (let_number (lets_of here) d.parent) d) here)) tags_here;
    at_top = λ e. no_lets (by_parent here) (each_reordered AtTop here (by_parent here) (reordered_sorted (λ (d f : StrandTree). _) here) (over (λ t. t ≡ 0) (subst (λ q. Each (λ d. d.parent ≡ 0) (shred form.element form.comps q)) (sym e) (placed_top form.comps))));
    below = λ n. from_one (lets_of here) here (over Positive (parents p n));
  }
    where
      parents : (q : List Step) → q ≢ [] → Each (λ d. Positive d.parent) (shred form.element form.comps q)
      parents [] n = absurd (n refl)
      parents (Down ∷ q) n = below_below [] no_cond form.comps q (each_map IsNumber Positive (λ m k. k.0) (comps_tags form.comps) w.tags_fit)
      parents (Field l ∷ q) n = tt

-- the let form of a shredded form
pub inserts : (schema : Schema) (s : ShreddedTree) → IsShreddedOf schema s → Inserts s (insert_lets s)
inserts schema s h = subst (λ z. Inserts z (insert_lets z)) (sym h.is) (inserts_at schema h.form h.well_formed s.path h.at_path)
