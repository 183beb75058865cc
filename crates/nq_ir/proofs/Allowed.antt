-- What the let forms of a well-formed form allow is read by tag and number.
use Rattle.std.proofs.Common.{◌≡◌, ℕ, zero, suc, ◌+◌, ◌<◌, ◌≤◌, List, [], ◌∷◌, ◌++◌, map, refl, sym, ap, ap₂, ◌∙◌, subst, Bool, flat_map, get_or, length, arith, append-nil, append_assoc, length-append}
use Rattle.std.specs.List.{AllByRecursion as Each}
use Rattle.std.specs.Ordering.{nat_cmp}
use Rattle.nq_model.proofs.Bags.{reordered_refl, reordered_sym}
use Rattle.nq_model.proofs.Canonical.{reordered_sorted}
use Rattle.nq_model.proofs.Numberings.{key_ranks, each_map, each_reordered}
use Rattle.nq_model.specs.Bags.{Reordered}
use Rattle.nq_model.specs.Numberings.{Numbers, Ranks, Rises, key_lt, numbered, TellsApart}
use Rattle.nq_model.specs.Proper.{IsOrdered}
use Rattle.nq_model.specs.Types.{TypeTree, FieldTypes, int, bool, text, rec, bag, fun, none, field}
use Rattle.nq_model.specs.Values.{Nested, Same, bag_of}
use Rattle.nq_model.specs.declared.table.Cell.{Cell}
use Rattle.nq_model.specs.declared.table.TableShape.{TableShape}
use Rattle.nq_ir.specs.declared.base.Gen.{Gen}
use Rattle.nq_ir.specs.declared.path.Step.{Step}
use Rattle.nq_ir.specs.Building.{built}
use Rattle.nq_ir.specs.Lets.{LetTree, PartTree, LetRow, Side, FlatRow, flat, Deals, PartsGive, LetGives, FormGives, insert_lets, lets_of, no_let, let_of, let_rows, parts_on, strand_of, key_of, combos, AllGive}
use Rattle.nq_model.specs.NamedRows.{Label}
use Rattle.nq_ir.specs.Meanings.{Tables, Env, kept, EachBoth, comps_meaning}
use Rattle.nq_ir.specs.Parts.{slots, slots_in, bags, bags_in, element_types, element_types_in}
use Rattle.nq_ir.specs.Paths.{paths, element_at}
use Rattle.nq_ir.specs.Spots.{PlacedComp, StrandTree, shaped, shape_of, shape_of_fields, shape_slots, shape_slots_in, both, levels, strands, spots, top_spot, strands_at, by_tag, TagsDiffer}
use Rattle.nq_ir.specs.Shredded.{shredded}
use Rattle.nq_ir.specs.Trees.{BodyTree, plain_body, rec_body, bag_body, Bodies, no_body, with_body, Comps, Conds}
use Rattle.nq_ir.specs.WellFormed.{BodyHas, CompsHave, comps_tags, comps_numbers, numbers, column_names}
use Rattle.nq_ir.proofs.Building.{follows_same}
use Rattle.nq_ir.proofs.Distinct.{Among, first, Distinct}
use Rattle.nq_ir.proofs.Fits.{FitsBody, FitsFields, FitsComps, typed_fits, typed_comps_fit}
use Rattle.nq_ir.proofs.Insert.{Around, strands_again, lets_known}
use Rattle.nq_ir.proofs.Legible.{Stands, LegibleIn, LegibleFields, legible_in, PartsGiveBy, LetRows, IsNested, GivesRows, let_legible}
use Rattle.nq_ir.proofs.LevelTypes.{StrandsTyped, levels_typed}
use Rattle.nq_ir.proofs.Levels.{levels_all}
use Rattle.nq_ir.proofs.Nested.{AvoidsAll, map_of_map, nested_kept}
use Rattle.nq_ir.proofs.Paths.{LabelsDiffer, strands_sorted}
use Rattle.nq_ir.proofs.Rows.{Uniform, kept_rows}
use Rattle.nq_ir.proofs.Scopes.{Scoping, look, all_scopes, all_tags, StrandGood, strands_good, scopes_differ}
use Rattle.nq_ir.proofs.Sorting.{sort_by, sort_reorders, sort_rises}
use Rattle.nq_ir.proofs.Spots.{found, spots_mean}
use Rattle.nq_ir.proofs.TellsApart.{cells_tell_apart}

pub each_two : {A : Type 0} (P Q : A → Type 0) (xs : List A) → Each P xs → Each Q xs → Each (λ x. P x × Q x) xs
each_two P Q [] e f = tt
each_two P Q (x ∷ xs) e f = ((e.0, f.0), each_two P Q xs e.1 f.1)

pub each_mapped : {A B : Type 0} (f : A → B) (P : A → Type 0) (Q : B → Type 0) → ((x : A) → P x → Q (f x)) → (xs : List A) → Each P xs → Each Q (map f xs)
each_mapped f P Q t [] e = tt
each_mapped f P Q t (x ∷ xs) e = (t x e.0, each_mapped f P Q t xs e.1)

pub each_unmapped : {A B : Type 0} (f : A → B) (Q : B → Type 0) (xs : List A) → Each Q (map f xs) → Each (λ x. Q (f x)) xs
each_unmapped f Q [] e = tt
each_unmapped f Q (x ∷ xs) e = (e.0, each_unmapped f Q xs e.1)

both_each : {A B C : Type 0} (P : A → B → Type 0) (Q : B → Type 0) (g : B → C) (R : A → C → Type 0) → ((x : A) (y : B) → P x y → Q y → R x (g y)) → (xs : List A) (ys : List B) → EachBoth P xs ys → Each Q ys → EachBoth R xs (map g ys)
both_each P Q g R f [] ys h e = ap (map g) h
both_each P Q g R f (x ∷ xs) [] h e = absurd h
both_each P Q g R f (x ∷ xs) (y ∷ ys) h e = (f x y h.0 e.0, both_each P Q g R f xs ys h.1 e.1)

pub both_at : {A B : Type 0} (P : A → B → Type 0) (x0 : A) (y0 : B) (xs : List A) (ys : List B) → EachBoth P xs ys → (k : ℕ) → k < length xs → P (get_or xs k x0) (get_or ys k y0)
both_at P x0 y0 [] ys h k l = absurd (omega arith)
both_at P x0 y0 (x ∷ xs) [] h k l = absurd h
both_at P x0 y0 (x ∷ xs) (y ∷ ys) h zero l = h.0
both_at P x0 y0 (x ∷ xs) (y ∷ ys) h (suc k) l = both_at P x0 y0 xs ys h.1 k (omega arith)

mutual
  fits_slots : (b : BodyTree) (A : TypeTree) → FitsBody b A → shape_slots (shape_of b) ≡ slots A
  fits_slots (plain_body x) int f = refl
  fits_slots (plain_body x) bool f = refl
  fits_slots (plain_body x) text f = refl
  fits_slots (plain_body x) (rec gs) f = absurd f
  fits_slots (plain_body x) (bag A) f = absurd f
  fits_slots (plain_body x) (fun A B) f = absurd f
  fits_slots (rec_body fs) int f = absurd f
  fits_slots (rec_body fs) bool f = absurd f
  fits_slots (rec_body fs) text f = absurd f
  fits_slots (rec_body fs) (rec gs) f = fits_fields_slots fs gs f
  fits_slots (rec_body fs) (bag A) f = absurd f
  fits_slots (rec_body fs) (fun A B) f = absurd f
  fits_slots (bag_body ty cs) int f = absurd f
  fits_slots (bag_body ty cs) bool f = absurd f
  fits_slots (bag_body ty cs) text f = absurd f
  fits_slots (bag_body ty cs) (rec gs) f = absurd f
  fits_slots (bag_body ty cs) (bag A) f = refl
  fits_slots (bag_body ty cs) (fun A B) f = absurd f

  fits_fields_slots : (fs : Bodies) (gs : FieldTypes) → FitsFields fs gs → shape_slots_in (shape_of_fields fs) ≡ slots_in gs
  fits_fields_slots no_body none f = refl
  fits_fields_slots no_body (field k A gs) f = absurd f
  fits_fields_slots (with_body l b fs) none f = absurd f
  fits_fields_slots (with_body l b fs) (field k A gs) f = ap₂ (λ m n. m + n) (fits_slots b A f.1) (fits_fields_slots fs gs f.2)

mutual
  types_count : (B : TypeTree) → length (element_types B) ≡ bags B
  types_count int = refl
  types_count bool = refl
  types_count text = refl
  types_count (rec fs) = types_fields_count fs
  types_count (bag B) = ap suc (types_count B)
  types_count (fun B C) = refl

  types_fields_count : (fs : FieldTypes) → length (element_types_in fs) ≡ bags_in fs
  types_fields_count none = refl
  types_fields_count (field k B fs) = length-append (element_types B) (element_types_in fs) ∙ ap₂ (λ m n. m + n) (types_count B) (types_fields_count fs)

-- what is known of a strand whose elements have the type B
pub record StrandFine (info : ℕ → Scoping) (tags : List ℕ) (B : TypeTree) (d : StrandTree) : Type 0 where
  pub around : Around info d
  pub own_gens : (info d.tag).0 ≡ d.outer_gens ++ d.gens
  pub own_conds : (info d.tag).1 ≡ both d.outer_conds d.conds
  pub among : Among d.tag tags
  pub avoids : AvoidsAll (numbers d.gens) d.outer_conds
  pub bags_are : shape_slots d.shape ≡ slots B

fine : (info : ℕ → Scoping) (tags : List ℕ) (B : TypeTree) (c : PlacedComp) → StrandGood info tags c → FitsBody c.body B → StrandFine info tags B (shaped c)
fine info tags B c g f = record {
  around = g.around;
  own_gens = g.own_gens;
  own_conds = g.own_conds;
  among = g.among;
  avoids = g.avoids;
  bags_are = fits_slots c.body B f;
}

-- rows that tag and number read, with the spots that each number stands for
pub record Legibly (ts : Tables) (A : TypeTree) (cs : Comps) (rows : List (List FlatRow)) : Type 0 where
  pub tags : List ℕ
  pub sorted : ℕ → List Env
  pub root : Among 0 tags
  pub one : sorted 0 ≡ [] ∷ []
  pub legible : LegibleIn ts tags sorted (strands A cs) rows (bag A) 0

-- the let forms of all paths allow these rows
module _ {K : Type 0} (lt : K → K → Bool) (key : ℕ → Env → K) (o : Ranks lt) (ts : Tables) (tags : List ℕ) (around sorted : ℕ → List Env) (perm : (t : ℕ) → Reordered (around t) (sorted t)) (up : (t : ℕ) → Rises lt (map (key t) (sorted t))) (apart : (t : ℕ) → TellsApart (key t) (around t)) (all : List (List StrandTree)) (rows : List (List FlatRow)) where
  abbrev mutual
    LetsIn : TypeTree → ℕ → Type 0
    LetsIn int n = Unit {0}
    LetsIn bool n = Unit {0}
    LetsIn text n = Unit {0}
    LetsIn (rec fs) n = LetsFields fs n
    LetsIn (bag A) n = GivesRows lt key o ts tags around sorted perm up apart (get_or all n []) (get_or rows n []) × Each (IsNested lt key o ts tags around sorted perm up apart A) (get_or all n []) × LetsIn A (suc n)
    LetsIn (fun A B) n = Unit {0}

    LetsFields : FieldTypes → ℕ → Type 0
    LetsFields none n = Unit {0}
    LetsFields (field k A fs) n = LetsIn A n × LetsFields fs (n + bags A)

  mutual
    lets_legible : (A : TypeTree) (n : ℕ) → LetsIn A n → LegibleIn ts tags sorted all rows A n
    lets_legible int n h = tt
    lets_legible bool n h = tt
    lets_legible text n h = tt
    lets_legible (rec fs) n h = lets_fields fs n h
    lets_legible (bag A) n h = (let_legible lt key o ts tags around sorted perm up apart A (get_or all n []) (get_or rows n []) h.1 h.0, lets_legible A (suc n) h.2)
    lets_legible (fun A B) n h = tt

    lets_fields : (fs : FieldTypes) (n : ℕ) → LetsFields fs n → LegibleFields ts tags sorted all rows fs n
    lets_fields none n h = tt
    lets_fields (field k A fs) n h = (lets_legible A n h.0, lets_fields fs (n + bags A) h.1)

module _ (S : List TableShape) (differ : (t : Label) → LabelsDiffer (column_names S t)) (A : TypeTree) (cs : Comps) (typed : CompsHave S [] cs A) (tags_apart : Distinct (0 ∷ comps_tags cs)) (gens_apart : Distinct (comps_numbers cs)) where
  abbrev info : ℕ → Scoping
  info = look (all_scopes cs)

  abbrev tags : List ℕ
  tags = all_tags cs

  abbrev StrandOk : TypeTree → StrandTree → Type 0
  StrandOk = StrandFine info tags

  abbrev LevelOk : TypeTree → List StrandTree → Type 0
  LevelOk B here = Each (StrandOk B) here

  pub levels_ok : EachBoth LevelOk (element_types (bag A)) (strands A cs)
  levels_ok =
      both_each (StrandsTyped S) (λ here. Each (StrandGood info tags) here) (map shaped) LevelOk (λ B here t g. each_mapped shaped (λ c. StrandGood info tags c × BodyHas S (c.outer_gens ++ c.gens) c.body B) (StrandOk B) (λ c k. fine info tags B c k.0 (typed_fits S (c.outer_gens ++ c.gens) c.body B k.1)) here (each_two (StrandGood info tags) (λ c. BodyHas S (c.outer_gens ++ c.gens) c.body B) here g t)) (element_types (bag A)) (levels A cs) (levels_typed S A cs typed) (levels_all (StrandGood info tags) A cs (strands_good S A cs typed tags_apart gens_apart))

  again : (B : TypeTree) (here : List StrandTree) → LevelOk B here → map (strand_of (lets_of here)) (parts_on (lets_of here) here) ≡ here
  again B here h = strands_again info here refl (each_map (StrandOk B) (Around info) (λ c k. k.around) here h)

  module _ (ts : Tables) (uniform : Uniform (column_names S) ts) where
    abbrev K : List Gen → Env → List Cell
    K = key_of (column_names S)

    abbrev key : ℕ → Env → List Cell
    key t = K (info t).0

    abbrev around : ℕ → List Env
    around t = kept ts (info t).0 (info t).1 []

    abbrev sorted : ℕ → List Env
    sorted t = sort_by key_lt (key t) (around t)

    perm : (t : ℕ) → Reordered (around t) (sorted t)
    perm t = sort_reorders key_lt (key t) (around t)

    up : (t : ℕ) → Rises key_lt (map (key t) (sorted t))
    up t = sort_rises key_lt (key t) key_ranks (around t)

    apart : (t : ℕ) → TellsApart (key t) (around t)
    apart t = cells_tell_apart (column_names S) differ (info t).0 (around t) (scopes_differ S A cs typed tags_apart gens_apart t) (kept_rows (column_names S) ts uniform (info t).0 (info t).1)

    abbrev Gives : List StrandTree → List FlatRow → Type 0
    Gives = GivesRows key_lt key key_ranks ts tags around sorted perm up apart

    abbrev KeepsNested : TypeTree → StrandTree → Type 0
    KeepsNested = IsNested key_lt key key_ranks ts tags around sorted perm up apart

    nested : (B : TypeTree) (c : StrandTree) → StrandOk B c → KeepsNested B c
    nested B c h = (
      h.bags_are,
      h.among,
      ap₂ (λ (g : List Gen) (b : Conds). flat_map (λ e. kept ts c.gens c.conds e) (kept ts g b [])) h.around.0 h.around.1
          ∙ sym (nested_kept ts c.outer_gens c.gens c.outer_conds c.conds h.avoids)
          ∙ ap₂ (λ (g : List Gen) (b : Conds). kept ts g b []) (sym h.own_gens) (sym h.own_conds),
    )

    top_rows : LetRows key_lt (key 0) (around 0) ((1, []) ∷ [])
    top_rows = (1 ∷ [], record { as_many = refl; each_once = reordered_refl (1 ∷ []); in_order = ((λ e. absurd (cc), tt), tt) }, reordered_refl {A = ℕ × Env} ((1, []) ∷ []))

    rows_of_let : (lets : List LetTree) (lists : List (List LetRow)) → EachBoth (LetGives (column_names S) ts) lets lists → (p : PartTree) (from : ℕ) → p.from ≡ from → from ≤ length lets → Around info (strand_of lets p) → LetRows key_lt (key (strand_of lets p).parent) (around (strand_of lets p).parent) (let_rows lists from)
    rows_of_let lets lists g p zero e b a = subst (λ t. LetRows key_lt (key t) (around t) ((1, []) ∷ [])) (sym (ap (λ k. (let_of lets k).parent) e)) top_rows
    rows_of_let lets lists g p (suc k) e b a =
        let l = let_of lets p.from in
        let is : l ≡ get_or lets k no_let = ap (let_of lets) e in
        let given = both_at (LetGives (column_names S) ts) no_let [] lets lists g k (omega arith) in
        let at_k : LetRows key_lt (K (get_or lets k no_let).gens) (kept ts (get_or lets k no_let).gens (get_or lets k no_let).conds []) (get_or lists k []) = (given.0, given.1.numbers, given.2) in
        let own : LetRows key_lt (K l.gens) (kept ts l.gens l.conds []) (get_or lists k []) = subst (λ (z : LetTree). LetRows key_lt (K z.gens) (kept ts z.gens z.conds []) (get_or lists k [])) (sym is) at_k in
        subst (λ (z : Scoping). LetRows key_lt (K z.0) (kept ts z.0 z.1 []) (get_or lists k [])) (ap₂ {C = Scoping} (λ x y. (x, y)) (sym a.0) (sym a.1)) own

    keys_changed : (B : TypeTree) (ds : List Side) (rows : List FlatRow) → Each (λ (d : Side). StrandOk B d.0) ds → PartsGive (column_names S) ts ds rows → PartsGiveBy key_lt (λ c. key c.tag) ts ds rows
    keys_changed B [] rows e g = g
    keys_changed B (d ∷ ds) rows e g =
        let one = g.2 in
        let same : K (d.0.outer_gens ++ d.0.gens) ≡ key d.0.tag = ap K (sym e.0.own_gens) in
        let dealt : Each (λ n. Numbers key_lt (map (λ p. K (d.0.outer_gens ++ d.0.gens) p.1) (combos ts d.1 d.0)) n) one.0 = each_map (λ n. Deals (map (λ p. K (d.0.outer_gens ++ d.0.gens) p.1) (combos ts d.1 d.0)) n) (λ n. Numbers key_lt (map (λ p. K (d.0.outer_gens ++ d.0.gens) p.1) (combos ts d.1 d.0)) n) (λ n k. k.numbers) one.0 one.2 in
        (g.0, g.1, (one.0, one.1, subst (λ (k : Env → List Cell). Each (λ n. Numbers key_lt (map (λ p. k p.1) (combos ts d.1 d.0)) n) one.0) same dealt, one.3), keys_changed B ds g.1 e.1 g.3, g.4)

    -- the let form of these strands, in tag order, allows these rows
    abbrev Gave : List StrandTree → List FlatRow → Type 0
    Gave here rows = (p : List Step) × (B : TypeTree) × FormGives (column_names S) ts (insert_lets (record { path = p; element = B; parts = here })) rows

    -- what it allows gives the rows of the strands
    gives_of : (B : TypeTree) (here : List StrandTree) (rows : List FlatRow) → LevelOk B here → Gave (by_tag here) rows → Gives here rows
    gives_of B here rows h gave =
        let g = gave.2 in
        let f = insert_lets (record { path = gave.0; element = gave.1; parts = by_tag here }) in
        let mixed : Reordered here (by_tag here) = reordered_sorted (λ (d e : StrandTree). nat_cmp d.tag e.tag) here in
        let fine_here : Each (StrandOk B) (by_tag here) = each_reordered (StrandOk B) here (by_tag here) mixed h in
        let side : PartTree → Side = λ p. (strand_of f.lets p, let_rows g.lists p.from) in
        let back : Each (StrandOk B) (map (strand_of f.lets) f.parts) = subst (λ (l : List StrandTree). Each (StrandOk B) l) (sym (again B (by_tag here) fine_here)) fine_here in
        let parts : Each (λ p. StrandOk B (strand_of f.lets p)) f.parts = each_unmapped (strand_of f.lets) (StrandOk B) f.parts back in
        let two : Each (λ p. (p.from ≤ length f.lets) × StrandOk B (strand_of f.lets p)) f.parts = each_two (λ p. p.from ≤ length f.lets) (λ p. StrandOk B (strand_of f.lets p)) f.parts (lets_known (by_tag here)) parts in
        record {
          sides = map side f.parts;
          of_strands = subst (λ (l : List StrandTree). Reordered l here) (sym (map_of_map (λ (d : Side). d.0) side f.parts ∙ again B (by_tag here) fine_here)) (reordered_sym here (by_tag here) mixed);
          numbered_all = each_mapped side (λ p. (p.from ≤ length f.lets) × StrandOk B (strand_of f.lets p)) (λ (d : Side). LetRows key_lt (key d.0.parent) (around d.0.parent) d.1) (λ p k. rows_of_let f.lets g.lists g.numbered_once p p.from refl k.0 k.1.around) f.parts two;
          all = g.all;
          parts = keys_changed B (map side f.parts) g.all (each_mapped side (λ p. StrandOk B (strand_of f.lets p)) (λ (d : Side). StrandOk B d.0) (λ p k. k) f.parts parts) g.parts;
          any_order = g.any_order;
        }

    -- the let forms at all paths allow these rows, path by path
    abbrev Given : List (List StrandTree) → List (List FlatRow) → Type 0
    Given ls rs = EachBoth Gave ls rs

    given_mapped : (ps : List (List Step)) (rs : List (List FlatRow)) → EachBoth (λ p r. FormGives (column_names S) ts (insert_lets (shredded (record { element = A; comps = cs }) p)) r) ps rs → Given (map (strands_at A cs) ps) rs
    given_mapped [] rs h = h
    given_mapped (p ∷ ps) [] h = absurd h
    given_mapped (p ∷ ps) (r ∷ rs) h = ((p, element_at (bag A) p, h.0), given_mapped ps rs h.1)

    at_path : (Bs : List TypeTree) (ls : List (List StrandTree)) (rs : List (List FlatRow)) → EachBoth LevelOk Bs ls → Given (map by_tag ls) rs → (n : ℕ) → n < length Bs → Gives (get_or ls n []) (get_or rs n []) × Each (KeepsNested (get_or Bs n int)) (get_or ls n [])
    at_path [] ls rs h g n b = absurd (omega arith)
    at_path (B ∷ Bs) [] rs h g n b = absurd h
    at_path (B ∷ Bs) (l ∷ ls) [] h g n b = absurd g
    at_path (B ∷ Bs) (l ∷ ls) (r ∷ rs) h g zero b = (gives_of B l r h.0 g.0, each_map (StrandOk B) (KeepsNested B) (λ c k. nested B c k) l h.0)
    at_path (B ∷ Bs) (l ∷ ls) (r ∷ rs) h g (suc n) b = at_path Bs ls rs h.1 g.1 n (omega arith)

    module _ (all : List (List StrandTree)) (rows : List (List FlatRow)) (Bs : List TypeTree) (at : (n : ℕ) → n < length Bs → Gives (get_or all n []) (get_or rows n []) × Each (KeepsNested (get_or Bs n int)) (get_or all n [])) where
      abbrev In : TypeTree → ℕ → Type 0
      In = LetsIn key_lt key key_ranks ts tags around sorted perm up apart all rows

      abbrev InFields : FieldTypes → ℕ → Type 0
      InFields = LetsFields key_lt key key_ranks ts tags around sorted perm up apart all rows

      mutual
        lets_in : (B : TypeTree) (n : ℕ) (before after : List TypeTree) → Bs ≡ before ++ (element_types B ++ after) → length before ≡ n → In B n
        lets_in int n before after e l = tt
        lets_in bool n before after e l = tt
        lets_in text n before after e l = tt
        lets_in (rec fs) n before after e l = lets_in_fields fs n before after e l
        lets_in (bag B) n before after e l =
            let is : get_or Bs n int ≡ B = found Bs before (element_types B ++ after) B int n e l in
            let inside : n < length Bs = omega (arith, ap length e, length-append before (B ∷ (element_types B ++ after)), l) in
            let here = at n inside in
            (here.0, subst (λ z. Each (KeepsNested z) (get_or all n [])) is here.1, lets_in B (suc n) (before ++ B ∷ []) after (e ∙ sym (append_assoc before (B ∷ []) (element_types B ++ after))) (length-append before (B ∷ []) ∙ omega (arith, l)))
        lets_in (fun B C) n before after e l = tt

        lets_in_fields : (fs : FieldTypes) (n : ℕ) (before after : List TypeTree) → Bs ≡ before ++ (element_types_in fs ++ after) → length before ≡ n → InFields fs n
        lets_in_fields none n before after e l = tt
        lets_in_fields (field k B fs) n before after e l =
            let e1 : Bs ≡ before ++ (element_types B ++ (element_types_in fs ++ after)) = e ∙ ap (λ (z : List TypeTree). before ++ z) (append_assoc (element_types B) (element_types_in fs) after) in
            (lets_in B n before (element_types_in fs ++ after) e1 l, lets_in_fields fs (n + bags B) (before ++ element_types B) after (e1 ∙ sym (append_assoc before (element_types B) (element_types_in fs ++ after))) (length-append before (element_types B) ∙ ap₂ (λ a b. a + b) l (types_count B)))

    pub legibly : IsOrdered A → (rows : List (List FlatRow)) → AllGive (column_names S) ts (record { element = A; comps = cs }) rows → Legibly ts A cs rows
    legibly rise rows g =
        let given : Given (map by_tag (strands A cs)) rows = subst (λ (z : List (List StrandTree)). Given z rows) (strands_sorted A cs rise (typed_comps_fit S [] cs A typed)) (given_mapped (paths (bag A)) rows g) in
        let walk = lets_in (strands A cs) rows (element_types (bag A)) (at_path (element_types (bag A)) (strands A cs) rows levels_ok given) (bag A) 0 [] [] (sym (append-nil (element_types (bag A)))) refl in
        record {
          tags = tags;
          sorted = sorted;
          root = first;
          one = refl;
          legible = lets_legible key_lt key key_ranks ts tags around sorted perm up apart (strands A cs) rows (bag A) 0 walk;
        }

-- rows that tag and number read build the meaning of the form
pub legible_same : (ts : Tables) (rows : List (List FlatRow)) (A : TypeTree) (cs : Comps) → FitsComps cs A → Each TagsDiffer (levels A cs) → Legibly ts A cs rows → Same (bag_of (built (flat rows) A 0 (0, 1))) (bag_of (comps_meaning ts cs []))
legible_same ts rows A cs fit t h =
    let start : Among {A = ℕ × Env} (1, []) (numbered 1 (h.sorted 0)) = subst (λ (l : List Env). Among {A = ℕ × Env} (1, []) (numbered 1 l)) (sym h.one) first in
    subst (λ (l : List Nested). Same (bag_of (built (flat rows) A 0 (0, 1))) (bag_of l)) (spots_mean ts A cs fit t) (follows_same (Stands h.tags h.sorted) (flat rows) (spots ts (strands A cs)) A 0 (0, 1) top_spot (legible_in ts h.tags h.sorted (strands A cs) rows (bag A) 0 h.legible) (h.root, refl, start))
