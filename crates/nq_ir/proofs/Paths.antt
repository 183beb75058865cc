-- The comprehensions at the paths are the levels.
use Rattle.std.proofs.Common.{◌≡◌, ℕ, suc, ◌+◌, List, [], ◌∷◌, ◌++◌, map, refl, sym, ap, ap₂, ◌∙◌, subst, Bool, true, false, cond, flat_map, get_or, append-nil, append_assoc, length, length-append}
use Rattle.std.specs.Str.{bytes_eq}
use Rattle.std.proofs.lemmas.List.{map-append}
use Rattle.std.proofs.lemmas.Slice.Eq.{bytes_eq-Decides}
use Rattle.std.specs.declared.cmp.Ordering.TheVariants.{Less}
use Rattle.nq_ir.proofs.Distinct.{each_join}
use Rattle.nq_ir.proofs.Equal.{bytes_same, not_below_self}
use Rattle.nq_ir.proofs.Fits.{FitsBody, FitsComps}
use Rattle.nq_ir.proofs.Nested.{flat_flat, map_of_map}
use Rattle.nq_ir.proofs.Spots.{fits_bags, found}
use Rattle.nq_model.specs.NamedRows.{Label}
use Rattle.nq_ir.specs.Parts.{bags, bags_in, element_types, element_types_in, slots}
use Rattle.nq_ir.specs.Paths.{element_at, element_in, paths, paths_in}
use Rattle.nq_ir.specs.Spots.{PlacedComp, bags_of, bags_of_fields, both, comps_at, comps_below, comps_in, levels, levels_fields, levels_in, placed, by_tag, shaped, strands, strands_at, under}
use Rattle.nq_ir.specs.Trees.{BodyTree, Comps, Conds, bag_body, comp, no_body, no_comp, no_cond, plain_body, rec_body, with_body}
use Rattle.nq_ir.specs.declared.base.Gen.{Gen}
use Rattle.nq_ir.specs.declared.path.Step.{Step}
use Rattle.nq_ir.specs.declared.path.Step.TheVariants.{Down, Field as FieldStep}
use Rattle.nq_model.proofs.Numberings.{length_map}
use Rattle.nq_model.specs.Orders.{AreRising, label_cmp}
use Rattle.nq_model.specs.Proper.{IsOrdered, AreOrdered, labels_of}
use Rattle.nq_model.specs.Types.{FieldTypes, TypeTree, bag, bool, field, fun, int, none, rec, text}
use Rattle.std.specs.List.{AllByRecursion as Each}

map_each : {A B : Type 0} (f g : A → B) → ((x : A) → f x ≡ g x) → (xs : List A) → map f xs ≡ map g xs
map_each f g h [] = refl
map_each f g h (x ∷ xs) = ap₂ (λ y (l : List _). y ∷ l) (h x) (map_each f g h xs)

flat_each : {A B : Type 0} (P : A → Type 0) (f g : A → List B) → ((x : A) → P x → f x ≡ g x) → (xs : List A) → Each P xs → flat_map f xs ≡ flat_map g xs
flat_each P f g h [] e = refl
flat_each P f g h (x ∷ xs) e = ap₂ (λ (y z : List _). y ++ z) (h x e.0) (flat_each P f g h xs e.1)

pub flat_mapped : {A B C : Type 0} (g : A → B) (f : B → List C) (xs : List A) → flat_map f (map g xs) ≡ flat_map (λ x. f (g x)) xs
flat_mapped g f [] = refl
flat_mapped g f (x ∷ xs) = ap (λ (l : List _). f (g x) ++ l) (flat_mapped g f xs)

pub each_over : {A B : Type 0} (f : A → B) (P : A → Type 0) (Q : B → Type 0) → ((x : A) → P x → Q (f x)) → (xs : List A) → Each P xs → Each Q (map f xs)
each_over f P Q h [] e = tt
each_over f P Q h (x ∷ xs) e = (h x e.0, each_over f P Q h xs e.1)

pub each_under : {A B : Type 0} (P : A → Type 0) (Q : B → Type 0) (f : A → List B) → ((x : A) → P x → Each Q (f x)) → (xs : List A) → Each P xs → Each Q (flat_map f xs)
each_under P Q f h [] e = tt
each_under P Q f h (x ∷ xs) e = each_join Q (f x) (flat_map f xs) (h x e.0) (each_under P Q f h xs e.1)

pub map_back : {A B : Type 0} (g : A → B) (xs : List A) → map {B = A} (λ (x : A × B). x.0) (map (λ x. (x, g x)) xs) ≡ xs
map_back g [] = refl
map_back g (x ∷ xs) = ap (λ (l : List _). x ∷ l) (map_back g xs)

-- no label stands twice
abbrev pub LabelsDiffer : List Label → Type 0
LabelsDiffer [] = Unit {0}
LabelsDiffer (l ∷ ls) = Each (λ m. bytes_eq m l ≡ false) ls × LabelsDiffer ls

abbrev mutual
  pub Proper : TypeTree → Type 0
  Proper int = Unit {0}
  Proper bool = Unit {0}
  Proper text = Unit {0}
  Proper (rec fs) = LabelsDiffer (labels_of fs) × ProperFields fs
  Proper (bag A) = Proper A
  Proper (fun A B) = Unit {0}

  pub ProperFields : FieldTypes → Type 0
  ProperFields none = Unit {0}
  ProperFields (field l A fs) = Proper A × ProperFields fs

below_all : (l : Label) (ls : List Label) → Each (λ m. label_cmp l m ≡ Less) ls → Each (λ m. bytes_eq m l ≡ false) ls
below_all l [] h = tt
below_all l (m ∷ ls) h = (go (bytes_eq m l) refl, below_all l ls h.1)
  where
    go : (b : Bool) → bytes_eq m l ≡ b → b ≡ false
    go true e =
        let s : m ≡ l = (bytes_eq-Decides m l).0 e in
        let r : label_cmp l l ≡ Less = subst (λ z. label_cmp l z ≡ Less) s h.0 in
        absurd (not_below_self l r)
    go false e = refl

labels_differ : (ls : List Label) → AreRising ls → LabelsDiffer ls
labels_differ [] h = tt
labels_differ (l ∷ ls) h = (below_all l ls h.0, labels_differ ls h.1)

mutual
  pub proper : (A : TypeTree) → IsOrdered A → Proper A
  proper int h = tt
  proper bool h = tt
  proper text h = tt
  proper (rec fs) h = (labels_differ (labels_of fs) h.0, proper_fields fs h.1)
  proper (bag A) h = proper A h
  proper (fun A B) h = tt

  proper_fields : (fs : FieldTypes) → AreOrdered fs → ProperFields fs
  proper_fields none h = tt
  proper_fields (field l A fs) h = (proper A h.0, proper_fields fs h.1)

-- what a function of paths gives under further fields
module _ {X : Type 0} (f g : (List Step) → X) (k : Label) (skip : (l : Label) (p : (List Step)) → bytes_eq l k ≡ false → f (FieldStep l ∷ p) ≡ g (FieldStep l ∷ p)) where
  block_skips : (l : Label) (ps : List (List Step)) → bytes_eq l k ≡ false → map f (map (λ p. FieldStep l ∷ p) ps) ≡ map g (map (λ p. FieldStep l ∷ p) ps)
  block_skips l [] h = refl
  block_skips l (p ∷ ps) h = ap₂ (λ y (z : List X). y ∷ z) (skip l p h) (block_skips l ps h)

  fields_skip : (fs : FieldTypes) → Each (λ m. bytes_eq m k ≡ false) (labels_of fs) → map f (paths_in fs) ≡ map g (paths_in fs)
  fields_skip none h = refl
  fields_skip (field l A fs) h =
      map-append f (map (λ p. FieldStep l ∷ p) (paths A)) (paths_in fs) ∙ ap₂ (λ (y z : List X). y ++ z) (block_skips l (paths A) h.0) (fields_skip fs h.1) ∙ sym (map-append g (map (λ p. FieldStep l ∷ p) (paths A)) (paths_in fs))

-- the element types at the paths, in order
mutual
  types_are : (A : TypeTree) → Proper A → map (element_at A) (paths A) ≡ element_types A
  types_are int h = refl
  types_are bool h = refl
  types_are text h = refl
  types_are (rec fs) h = types_fields_are fs h.0 h.1
  types_are (bag A) h = ap (λ (l : List TypeTree). A ∷ l) (map_of_map (element_at (bag A)) (λ p. Down ∷ p) (paths A) ∙ types_are A h)
  types_are (fun A B) h = refl

  types_fields_are : (fs : FieldTypes) → LabelsDiffer (labels_of fs) → ProperFields fs → map (element_at (rec fs)) (paths_in fs) ≡ element_types_in fs
  types_fields_are none d h = refl
  types_fields_are (field k A fs) d h =
      map-append (element_at (rec (field k A fs))) (map (λ p. FieldStep k ∷ p) (paths A)) (paths_in fs)
      ∙ ap₂ (λ (y z : List TypeTree). y ++ z) (map_of_map (element_at (rec (field k A fs))) (λ p. FieldStep k ∷ p) (paths A) ∙ map_each (λ p. cond (bytes_eq k k) (element_at A p) (element_in fs k p)) (element_at A) (λ p. ap (λ b. cond b (element_at A p) (element_in fs k p)) (bytes_same k k refl)) (paths A) ∙ types_are A h.0) (fields_skip (element_at (rec (field k A fs))) (element_at (rec fs)) k (λ l p e. ap (λ b. cond b (element_at A p) (element_in fs l p)) e) fs d.0 ∙ types_fields_are fs d.1 h.1)

mutual
  pub paths_count : (A : TypeTree) → length (paths A) ≡ bags A
  paths_count int = refl
  paths_count bool = refl
  paths_count text = refl
  paths_count (rec fs) = paths_in_count fs
  paths_count (bag A) = ap suc (length_map (λ p. Down ∷ p) (paths A) ∙ paths_count A)
  paths_count (fun A B) = refl

  paths_in_count : (fs : FieldTypes) → length (paths_in fs) ≡ bags_in fs
  paths_in_count none = refl
  paths_in_count (field l A fs) = length-append (map (λ p. FieldStep l ∷ p) (paths A)) (paths_in fs) ∙ ap₂ (λ m n. m + n) (length_map (λ p. FieldStep l ∷ p) (paths A) ∙ paths_count A) (paths_in_count fs)

abbrev pub all_gens : PlacedComp → List Gen
all_gens d = d.outer_gens ++ d.gens

abbrev pub all_conds : PlacedComp → Conds
all_conds d = both d.outer_conds d.conds

abbrev pub bag_type : BodyTree → TypeTree
bag_type (plain_body b) = int
bag_type (rec_body fs) = int
bag_type (bag_body ty cs) = ty

abbrev pub Focus : Type 0
Focus = PlacedComp × BodyTree

-- the comprehensions at a path of a strand's part
abbrev at_part : Focus → (List Step) → List PlacedComp
at_part x p = comps_at x.0.tag (all_gens x.0) (all_conds x.0) x.1 p

abbrev at_parts : List Focus → (List Step) → List PlacedComp
at_parts focus p = flat_map (λ x. at_part x p) focus

-- a part of the strand's body that fits A, with s inner bags before it
pub record Fitting (A : TypeTree) (s : ℕ) (x : Focus) : Type 0 where
  pub fits : FitsBody x.1 A
  pub before : List Comps
  pub after : List Comps
  pub stands : bags_of x.0.body ≡ before ++ (bags_of x.1 ++ after)
  pub as_many : length before ≡ s

abbrev pub part_head : BodyTree → BodyTree
part_head (plain_body b) = plain_body b
part_head (rec_body no_body) = rec_body no_body
part_head (rec_body (with_body l b fs)) = b
part_head (bag_body ty cs) = bag_body ty cs

abbrev pub part_tail : BodyTree → BodyTree
part_tail (plain_body b) = plain_body b
part_tail (rec_body no_body) = rec_body no_body
part_tail (rec_body (with_body l b fs)) = rec_body fs
part_tail (bag_body ty cs) = bag_body ty cs

below_is : (t : ℕ) (og : List Gen) (oc : Conds) (cs : Comps) (p : (List Step)) → comps_below og oc cs p ≡ flat_map (λ c. at_part (c, c.body) p) (placed t og oc cs)
below_is t og oc no_comp p = refl
below_is t og oc (comp u gens conds b cs) p = ap (λ (z : List PlacedComp). comps_at u (og ++ gens) (both oc conds) b p ++ z) (below_is t og oc cs p)

strands_fit : (A : TypeTree) (t : ℕ) (og : List Gen) (oc : Conds) (cs : Comps) → FitsComps cs A → Each (λ c. FitsBody c.body A) (placed t og oc cs)
strands_fit A t og oc no_comp f = tt
strands_fit A t og oc (comp u gens conds b cs) f = (f.0, strands_fit A t og oc cs f.1)

-- the part is the bag that stands at its slot
pub under_is : (A : TypeTree) (s : ℕ) (d : PlacedComp) (b : BodyTree) → Fitting (bag A) s (d, b) → (cs : Comps) × (b ≡ bag_body (bag_type b) cs) × FitsComps cs A × (get_or (bags_of d.body) s no_comp ≡ cs)
under_is A s d (plain_body x) f = absurd f.fits
under_is A s d (rec_body fs) f = absurd f.fits
under_is A s d (bag_body ty cs) f = (cs, refl, f.fits, found (bags_of d.body) f.before f.after cs no_comp s f.stands f.as_many)

under_here : (A : TypeTree) (s : ℕ) (x : Focus) → Fitting (bag A) s x → at_part x [] ≡ under s x.0
under_here A s x f =
    let u = under_is A s x.0 x.1 f in
    ap (λ b. comps_at x.0.tag (all_gens x.0) (all_conds x.0) b []) u.1 ∙ ap (λ z. placed x.0.tag (all_gens x.0) (all_conds x.0) z) (sym u.3)

under_down : (A : TypeTree) (s : ℕ) (x : Focus) (p : (List Step)) → Fitting (bag A) s x → at_part x (Down ∷ p) ≡ flat_map (λ c. at_part (c, c.body) p) (under s x.0)
under_down A s x p f =
    let u = under_is A s x.0 x.1 f in
    ap (λ b. comps_at x.0.tag (all_gens x.0) (all_conds x.0) b (Down ∷ p)) u.1 ∙ below_is x.0.tag (all_gens x.0) (all_conds x.0) u.0 p ∙ ap (λ z. flat_map (λ c. at_part (c, c.body) p) (placed x.0.tag (all_gens x.0) (all_conds x.0) z)) (sym u.3)

under_fits : (A : TypeTree) (s : ℕ) (x : Focus) → Fitting (bag A) s x → Each (λ c. FitsBody c.body A) (under s x.0)
under_fits A s x f =
    let u = under_is A s x.0 x.1 f in
    subst (λ z. Each (λ c. FitsBody c.body A) (placed x.0.tag (all_gens x.0) (all_conds x.0) z)) (sym u.3) (strands_fit A x.0.tag (all_gens x.0) (all_conds x.0) u.0 u.2)

-- the first field of a record, and its others
pub head_fits : (k : Label) (A : TypeTree) (fs : FieldTypes) (s : ℕ) (d : PlacedComp) (b : BodyTree) → Fitting (rec (field k A fs)) s (d, b) → Fitting A s (d, part_head b)
head_fits k A fs s d (plain_body x) f = absurd f.fits
head_fits k A fs s d (rec_body no_body) f = absurd f.fits
head_fits k A fs s d (rec_body (with_body l b gs)) f = record { fits = f.fits.1; before = f.before; after = bags_of_fields gs ++ f.after; stands = f.stands ∙ ap (λ (z : List Comps). f.before ++ z) (append_assoc (bags_of b) (bags_of_fields gs) f.after); as_many = f.as_many }
head_fits k A fs s d (bag_body ty cs) f = absurd f.fits

pub tail_fits : (k : Label) (A : TypeTree) (fs : FieldTypes) (s : ℕ) (d : PlacedComp) (b : BodyTree) → Fitting (rec (field k A fs)) s (d, b) → Fitting (rec fs) (s + slots A) (d, part_tail b)
tail_fits k A fs s d (plain_body x) f = absurd f.fits
tail_fits k A fs s d (rec_body no_body) f = absurd f.fits
tail_fits k A fs s d (rec_body (with_body l b gs)) f = record { fits = f.fits.2; before = f.before ++ bags_of b; after = f.after; stands = f.stands ∙ ap (λ (z : List Comps). f.before ++ z) (append_assoc (bags_of b) (bags_of_fields gs) f.after) ∙ sym (append_assoc f.before (bags_of b) (bags_of_fields gs ++ f.after)); as_many = length-append f.before (bags_of b) ∙ ap₂ (λ m n. m + n) f.as_many (fits_bags b A f.fits.1) }
tail_fits k A fs s d (bag_body ty cs) f = absurd f.fits

head_at : (k : Label) (A : TypeTree) (fs : FieldTypes) (s : ℕ) (d : PlacedComp) (b : BodyTree) (p : (List Step)) → Fitting (rec (field k A fs)) s (d, b) → at_part (d, b) (FieldStep k ∷ p) ≡ at_part (d, part_head b) p
head_at k A fs s d (plain_body x) p f = absurd f.fits
head_at k A fs s d (rec_body no_body) p f = absurd f.fits
head_at k A fs s d (rec_body (with_body l b gs)) p f = ap (λ z. cond z (at_part (d, b) p) (comps_in d.tag (all_gens d) (all_conds d) gs k p)) (bytes_same k l (sym f.fits.0))
head_at k A fs s d (bag_body ty cs) p f = absurd f.fits

tail_at : (k : Label) (A : TypeTree) (fs : FieldTypes) (s : ℕ) (d : PlacedComp) (b : BodyTree) (l : Label) (p : (List Step)) → bytes_eq l k ≡ false → Fitting (rec (field k A fs)) s (d, b) → at_part (d, b) (FieldStep l ∷ p) ≡ at_part (d, part_tail b) (FieldStep l ∷ p)
tail_at k A fs s d (plain_body x) l p h f = absurd f.fits
tail_at k A fs s d (rec_body no_body) l p h f = absurd f.fits
tail_at k A fs s d (rec_body (with_body j b gs)) l p h f = ap (λ z. cond z (at_part (d, b) p) (comps_in d.tag (all_gens d) (all_conds d) gs l p)) (ap (bytes_eq l) f.fits.0 ∙ h)
tail_at k A fs s d (bag_body ty cs) l p h f = absurd f.fits

abbrev pub strands_in : List Focus → List PlacedComp
strands_in focus = map (λ x. x.0) focus

pub strands_kept : (g : BodyTree → BodyTree) (focus : List Focus) → strands_in (map {B = Focus} (λ x. (x.0, g x.1)) focus) ≡ strands_in focus
strands_kept g [] = refl
strands_kept g (x ∷ focus) = ap (λ (l : List PlacedComp). x.0 ∷ l) (strands_kept g focus)

mutual
  at_levels : (A : TypeTree) (s : ℕ) (focus : List Focus) → Proper A → Each (Fitting A s) focus → map (at_parts focus) (paths A) ≡ levels_in A s (strands_in focus)
  at_levels int s focus h f = refl
  at_levels bool s focus h f = refl
  at_levels text s focus h f = refl
  at_levels (rec fs) s focus h f = at_fields fs s focus h.0 h.1 f
  at_levels (bag A) s focus h f =
      let here = strands_in focus in
      let next = flat_map (under s) here in
      let inner : List Focus = map (λ (c : PlacedComp). (c, c.body)) next in
      let first : at_parts focus [] ≡ next = flat_each (Fitting (bag A) s) (λ x. at_part x []) (λ x. under s x.0) (under_here A s) focus f ∙ sym (flat_mapped (λ (x : Focus). x.0) (under s) focus) in
      let step : (p : (List Step)) → at_parts focus (Down ∷ p) ≡ at_parts inner p = λ p. flat_each (Fitting (bag A) s) (λ x. at_part x (Down ∷ p)) (λ x. flat_map (λ (c : PlacedComp). at_part (c, c.body) p) (under s x.0)) (λ x k. under_down A s x p k) focus f ∙ sym (flat_flat (λ (c : PlacedComp). at_part (c, c.body) p) (λ (x : Focus). under s x.0) focus) ∙ ap (flat_map (λ (c : PlacedComp). at_part (c, c.body) p)) (sym (flat_mapped (λ (x : Focus). x.0) (under s) focus)) ∙ sym (flat_mapped (λ (c : PlacedComp). (c, c.body)) (λ (x : Focus). at_part x p) next) in
      let fit : Each (λ c. FitsBody c.body A) next = subst (λ (l : List PlacedComp). Each (λ c. FitsBody c.body A) l) (sym (flat_mapped (λ (x : Focus). x.0) (under s) focus)) (each_under (Fitting (bag A) s) (λ c. FitsBody c.body A) (λ x. under s x.0) (under_fits A s) focus f) in
      let fits : Each (Fitting A 0) inner = each_over (λ (c : PlacedComp). (c, c.body)) (λ c. FitsBody c.body A) (Fitting A 0) (λ c k. record { fits = k; before = []; after = []; stands = sym (append-nil (bags_of c.body)); as_many = refl }) next fit in
      ap₂ (λ (x : List PlacedComp) (l : List (List PlacedComp)). x ∷ l) first (map_of_map (at_parts focus) (λ p. Down ∷ p) (paths A) ∙ map_each (λ p. at_parts focus (Down ∷ p)) (at_parts inner) step (paths A) ∙ at_levels A 0 inner h fits ∙ ap (levels_in A 0) (map_back (λ (c : PlacedComp). c.body) next))
  at_levels (fun A B) s focus h f = refl

  at_fields : (fs : FieldTypes) (s : ℕ) (focus : List Focus) → LabelsDiffer (labels_of fs) → ProperFields fs → Each (Fitting (rec fs) s) focus → map (at_parts focus) (paths_in fs) ≡ levels_fields fs s (strands_in focus)
  at_fields none s focus d h f = refl
  at_fields (field k A fs) s focus d h f =
      let heads : List Focus = map (λ (x : Focus). (x.0, part_head x.1)) focus in
      let tails : List Focus = map (λ (x : Focus). (x.0, part_tail x.1)) focus in
      let head_fit : Each (Fitting A s) heads = each_over (λ (x : Focus). (x.0, part_head x.1)) (Fitting (rec (field k A fs)) s) (Fitting A s) (λ x q. head_fits k A fs s x.0 x.1 q) focus f in
      let tail_fit : Each (Fitting (rec fs) (s + slots A)) tails = each_over (λ (x : Focus). (x.0, part_tail x.1)) (Fitting (rec (field k A fs)) s) (Fitting (rec fs) (s + slots A)) (λ x q. tail_fits k A fs s x.0 x.1 q) focus f in
      let one : (p : (List Step)) → at_parts focus (FieldStep k ∷ p) ≡ at_parts heads p = λ p. flat_each (Fitting (rec (field k A fs)) s) (λ x. at_part x (FieldStep k ∷ p)) (λ x. at_part (x.0, part_head x.1) p) (λ x q. head_at k A fs s x.0 x.1 p q) focus f ∙ sym (flat_mapped (λ (x : Focus). (x.0, part_head x.1)) (λ (x : Focus). at_part x p) focus) in
      let others : (l : Label) (p : (List Step)) → bytes_eq l k ≡ false → at_parts focus (FieldStep l ∷ p) ≡ at_parts tails (FieldStep l ∷ p) = λ l p e. flat_each (Fitting (rec (field k A fs)) s) (λ x. at_part x (FieldStep l ∷ p)) (λ x. at_part (x.0, part_tail x.1) (FieldStep l ∷ p)) (λ x q. tail_at k A fs s x.0 x.1 l p e q) focus f ∙ sym (flat_mapped (λ (x : Focus). (x.0, part_tail x.1)) (λ (x : Focus). at_part x (FieldStep l ∷ p)) focus) in
      map-append (at_parts focus) (map (λ p. FieldStep k ∷ p) (paths A)) (paths_in fs)
      ∙ ap₂ (λ (x y : List (List PlacedComp)). x ++ y)
      (map_of_map (at_parts focus) (λ p. FieldStep k ∷ p) (paths A) ∙ map_each (λ p. at_parts focus (FieldStep k ∷ p)) (at_parts heads) one (paths A) ∙ at_levels A s heads h.0 head_fit ∙ ap (levels_in A s) (strands_kept part_head focus))
      (fields_skip (at_parts focus) (at_parts tails) k others fs d.0 ∙ at_fields fs (s + slots A) tails d.1 h.1 tail_fit ∙ ap (levels_fields fs (s + slots A)) (strands_kept part_tail focus))

abbrev pub shred : TypeTree → Comps → List Step → List PlacedComp
shred A cs p = comps_at 0 [] no_cond (bag_body A cs) p

-- the shredded forms at the paths of the form's type, in order, are the levels
pub shred_levels : (A : TypeTree) (cs : Comps) → Proper A → FitsComps cs A → map (shred A cs) (paths (bag A)) ≡ levels A cs
shred_levels A cs h f =
    let here = placed 0 [] no_cond cs in
    let inner : List Focus = map (λ (c : PlacedComp). (c, c.body)) here in
    let fits : Each (Fitting A 0) inner = each_over (λ (c : PlacedComp). (c, c.body)) (λ c. FitsBody c.body A) (Fitting A 0) (λ c k. record { fits = k; before = []; after = []; stands = sym (append-nil (bags_of c.body)); as_many = refl }) here (strands_fit A 0 [] no_cond cs f) in
    let step : (p : (List Step)) → shred A cs (Down ∷ p) ≡ at_parts inner p = λ p. below_is 0 [] no_cond cs p ∙ sym (flat_mapped (λ (c : PlacedComp). (c, c.body)) (λ (x : Focus). at_part x p) here) in
    ap (λ (l : List (List PlacedComp)). here ∷ l) (map_of_map (shred A cs) (λ p. Down ∷ p) (paths A) ∙ map_each (λ p. shred A cs (Down ∷ p)) (at_parts inner) step (paths A) ∙ at_levels A 0 inner h fits ∙ ap (levels_in A 0) (map_back (λ (c : PlacedComp). c.body) here))

pub strands_sorted : (A : TypeTree) (cs : Comps) → IsOrdered A → FitsComps cs A → map (strands_at A cs) (paths (bag A)) ≡ map by_tag (strands A cs)
strands_sorted A cs h f =
    sym (map_of_map (λ (here : List PlacedComp). by_tag (map shaped here)) (shred A cs) (paths (bag A)))
    ∙ ap (map (λ (here : List PlacedComp). by_tag (map shaped here))) (shred_levels A cs (proper A h) f)
    ∙ sym (map_of_map by_tag (map shaped) (levels A cs))

-- so are the element types
pub elements_are : (A : TypeTree) → Proper A → map (element_at (bag A)) (paths (bag A)) ≡ element_types (bag A)
elements_are A h = types_are (bag A) h
