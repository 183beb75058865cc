-- The key columns in scope of comprehensions, and of those around, find room in the layouts of
-- their paths.
use Rattle.std.proofs.Common.{◌≡◌, ℕ, suc, ◌+◌, ◌-◌, ◌<◌, List, [], ◌∷◌, ◌++◌, flat_map, refl, sym}
use Rattle.std.proofs.Common.{ap, ◌∙◌, subst, arith, get_or, length, length-append}
use Rattle.std.specs.List.{AllByRecursion as Each}
use Rattle.std.proofs.Math.Seq.{get_or-append_right}
use Rattle.std.proofs.Math.ListN.{get_or-append}
use Rattle.nq_model.specs.Types.{TypeTree, int, bool, text, rec, bag, fun, FieldTypes, none, field}
use Rattle.nq_ir.specs.Among.{Among, first, later}
use Rattle.nq_ir.specs.Meanings.{EachBoth}
use Rattle.nq_ir.specs.Parts.{bags, bags_in, slots}
use Rattle.nq_ir.specs.Spots.{PlacedComp, placed, under, levels_in, levels_fields}
use Rattle.nq_ir.specs.Trees.{Comps, no_comp, comp, Conds}
use Rattle.nq_ir.proofs.LevelTypes.{both_append}
use Rattle.nq_ir.proofs.Distinct.{each_join}
use Rattle.stitcher.specs.Linked.{Home, homes_in, homes_fields}

mutual
  pub levels_long : (a : TypeTree) (s : ℕ) (here : List PlacedComp) → length (levels_in a s here)
      ≡ bags a
  levels_long int s here = refl
  levels_long bool s here = refl
  levels_long text s here = refl
  levels_long (rec fs) s here = levels_long_in fs s here
  levels_long (bag a) s here = ap suc (levels_long a 0 (flat_map (under s) here))
  levels_long (fun a b) s here = refl

  levels_long_in : (fs : FieldTypes) (s : ℕ) (here : List PlacedComp)
      → length (levels_fields fs s here) ≡ bags_in fs
  levels_long_in none s here = refl
  levels_long_in (field k a fs) s here =
      let l = length-append (levels_in a s here) (levels_fields fs (s + slots a) here) in
      let i = levels_long a s here in
      let j = levels_long_in fs (s + slots a) here in
      omega (arith, l, i, j)

-- the generators around are all those in scope of one of these
pub record Around (here : List PlacedComp) (c : PlacedComp) : Type 0 where
  pub of : PlacedComp
  pub among : Among of here
  pub gens : c.outer_gens ≡ of.outer_gens ++ of.gens

around_later : (here : List PlacedComp) (d c : PlacedComp) → Around here c → Around (d ∷ here) c
around_later here d c h = record { of = h.of; among = later h.among; gens = h.gens }

each_weaker : {A : Type 0} (P Q : A → Type 0) → ((x : A) → P x → Q x) → (xs : List A) → Each P xs
    → Each Q xs
each_weaker P Q f [] e = tt
each_weaker P Q f (x ∷ xs) e = (f x e.0, each_weaker P Q f xs e.1)

placed_around : (d : PlacedComp) (here : List PlacedComp) (oc : Conds) (cs : Comps) → Among d here
    → Each (Around here) (placed d.tag (d.outer_gens ++ d.gens) oc cs)
placed_around d here oc no_comp m = tt
placed_around d here oc (comp t gens conds b cs) m = (
  record {
    of = d;
    among = m;
    gens = refl;
  },
  placed_around d here oc cs m,
)

under_around : (s : ℕ) (here : List PlacedComp) → Each (Around here) (flat_map (under s) here)
under_around s [] = tt
under_around s (d ∷ here) =
    each_join (Around (d ∷ here)) (under s d) (flat_map (under s) here)
    (placed_around d (d ∷ here) _ _ first)
    (each_weaker (Around here) (Around (d ∷ here)) (around_later here d) (flat_map (under s) here)
    (under_around s here))

-- at each home stands the list of which the comprehensions at the path are under one
module _ (level : ℕ → List PlacedComp) where
  abbrev pub Housed : Home → List PlacedComp → Type 0
  Housed h cs = Each (Around (level h.0)) cs

  -- these lists stand from the path n on
  abbrev pub StandFrom : ℕ → List (List PlacedComp) → Type 0
  StandFrom n ls = (k : ℕ) → k < length ls → level (n + k) ≡ get_or ls k []

  stand_left : (n : ℕ) (ls ms : List (List PlacedComp)) → StandFrom n (ls ++ ms) → StandFrom n ls
  stand_left n ls ms h k l = h k (omega (arith, l, length-append ls ms))
      ∙ get_or-append ls ms [] k l

  stand_right : (n w : ℕ) (ls ms : List (List PlacedComp)) → length ls ≡ w → StandFrom n (ls ++ ms)
      → StandFrom (n + w) ms
  stand_right n w ls ms e h k l =
      let at : n + (w + k) ≡ n + w + k = omega arith in
      let back : w + k - length ls ≡ k = omega (arith, e) in
      ap level (sym at) ∙ h (w + k) (omega (arith, l, e, length-append ls ms))
      ∙ get_or-append_right ls ms (w + k) [] (omega (arith, e)) ∙ ap (λ j. get_or ms j []) back

  mutual
    pub housed : (a : TypeTree) (q s n : ℕ) (here : List PlacedComp) → level q ≡ here
        → StandFrom n (levels_in a s here) → EachBoth Housed (homes_in a q s n) (levels_in a s here)
    housed int q s n here at h = refl
    housed bool q s n here at h = refl
    housed text q s n here at h = refl
    housed (rec fs) q s n here at h = housed_in fs q s n here at h
    housed (bag a) q s n here at h =
        let inner = flat_map (under s) here in
        let own : level n ≡ inner = (let z : n ≡ n + 0 = omega arith in ap level z
        ∙ h 0 (omega arith)) in (
          subst (λ (z : List PlacedComp). Each (Around z) inner) (sym at) (under_around s here),
          housed a n 0 (suc n) inner own (λ k l. let z : suc n + k ≡ n + suc k = omega arith in ap level z ∙ h (suc k) (omega (arith, l))),
        )
    housed (fun a b) q s n here at h = refl

    housed_in : (fs : FieldTypes) (q s n : ℕ) (here : List PlacedComp) → level q ≡ here
        → StandFrom n (levels_fields fs s here) → EachBoth Housed (homes_fields fs q s n)
        (levels_fields fs s here)
    housed_in none q s n here at h = refl
    housed_in (field k a fs) q s n here at h =
        both_append Housed (homes_in a q s n) (homes_fields fs q (s + slots a) (n + bags a))
        (levels_in a s here) (levels_fields fs (s + slots a) here)
        (housed a q s n here at (stand_left n (levels_in a s here)
        (levels_fields fs (s + slots a) here) h))
        (housed_in fs q (s + slots a) (n + bags a) here at
        (stand_right n (bags a) (levels_in a s here) (levels_fields fs (s + slots a) here)
        (levels_long a s here) h))
