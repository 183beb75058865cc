-- The tables of each tag are found.
use Rattle.std.proofs.Common.{◌≡◌, ◌≢◌, ℕ, pos, List, [], ◌∷◌, ◌++◌, map, refl, sym, ap, ap₂, ◌∙◌}
use Rattle.std.proofs.Common.{subst, Bool, true, false, cond}
use Rattle.std.proofs.lemmas.List.{map-append}
use Rattle.std.proofs.lemmas.Bool.Decides.{Decides-int_eq}
use Rattle.std.specs.List.{AllByRecursion as Each}
use Rattle.std.specs.Ordering.{int_eq}
use Rattle.nq_ir.proofs.Distinct.{each_left, each_right}
use Rattle.nq_ir.proofs.Equal.{nat_same, nat_differ}
use Rattle.nq_ir.specs.Among.{Among, first, later}
use Rattle.nq_ir.specs.Trees.{BodyTree, plain_body, rec_body, bag_body, Bodies, no_body, with_body}
use Rattle.nq_ir.specs.Trees.{Comps, no_comp, comp}
use Rattle.nq_ir.specs.WellFormed.{comps_tags, body_tags, bodies_tags}
use Rattle.nq_model.specs.NamedRows.{Label}
use Rattle.nq_model.specs.Orders.{AreDistinct}
use Rattle.lineage.specs.Decoding.{tables_of, tables_at}
use Rattle.lineage.specs.ListedTables.{ByTag, gen_tables, listed, listed_body, listed_bodies}

-- each comprehension's tables are found under its tag, at every depth
abbrev mutual
  pub Finds : ByTag → BodyTree → Type 0
  Finds es (plain_body b) = Unit {0}
  Finds es (rec_body fs) = FindsFields es fs
  Finds es (bag_body e cs) = FindsComps es cs

  pub FindsFields : ByTag → Bodies → Type 0
  FindsFields es no_body = Unit {0}
  FindsFields es (with_body l b fs) = Finds es b × FindsFields es fs

  pub FindsComps : ByTag → Comps → Type 0
  FindsComps es no_comp = Unit {0}
  FindsComps es (comp t gens conds b cs) =
      (tables_of es t ≡ gen_tables gens) × Finds es b × FindsComps es cs

-- the tags that are listed
mutual
  listed_tags : (cs : Comps) → map (λ (e : ℕ × List Label). e.0) (listed cs) ≡ comps_tags cs
  listed_tags no_comp = refl
  listed_tags (comp t gens conds b cs) =
      ap (λ (l : List ℕ). t ∷ l)
      (map-append (λ (e : ℕ × List Label). e.0) (listed_body b) (listed cs)
      ∙ ap₂ (λ (x y : List ℕ). x ++ y) (body_listed b) (listed_tags cs))

  body_listed : (b : BodyTree) → map (λ (e : ℕ × List Label). e.0) (listed_body b) ≡ body_tags b
  body_listed (plain_body b) = refl
  body_listed (rec_body fs) = fields_listed fs
  body_listed (bag_body e cs) = listed_tags cs

  fields_listed : (fs : Bodies)
      → map (λ (e : ℕ × List Label). e.0) (listed_bodies fs) ≡ bodies_tags fs
  fields_listed no_body = refl
  fields_listed (with_body l b fs) =
      map-append (λ (e : ℕ × List Label). e.0) (listed_body b) (listed_bodies fs)
      ∙ ap₂ (λ (x y : List ℕ). x ++ y) (body_listed b) (fields_listed fs)

-- where these differ, each entry is found
entries_found : (es : ByTag) → AreDistinct (map (λ (e : ℕ × List Label). e.0) es)
    → Each (λ (e : ℕ × List Label). tables_of es e.0 ≡ e.1) es
entries_found [] d = tt
entries_found (e ∷ es) d = (
  ap (λ b. cond b e.1 (tables_of es e.0)) (nat_same e.0 e.0 refl),
  over es d.0 (entries_found es d.1),
)
  where
    over : (xs : ByTag) → Each (λ t. e.0 ≢ t) (map (λ (x : ℕ × List Label). x.0) xs)
        → Each (λ (x : ℕ × List Label). tables_of es x.0 ≡ x.1) xs
        → Each (λ (x : ℕ × List Label). tables_of (e ∷ es) x.0 ≡ x.1) xs
    over [] n h = tt
    over (x ∷ xs) n h = (
      ap (λ b. cond b e.1 (tables_of es x.0)) (nat_differ x.0 e.0 (λ k. n.0 (sym k))) ∙ h.0,
      over xs n.1 h.1,
    )

abbrev IsFound : ByTag → (ℕ × List Label) → Type 0
IsFound es e = tables_of es e.0 ≡ e.1

mutual
  comps_find : (es : ByTag) (cs : Comps) → Each (IsFound es) (listed cs) → FindsComps es cs
  comps_find es no_comp h = tt
  comps_find es (comp t gens conds b cs) h = (
    h.0,
    body_finds es b (each_left (IsFound es) (listed_body b) (listed cs) h.1),
    comps_find es cs (each_right (IsFound es) (listed_body b) (listed cs) h.1),
  )

  body_finds : (es : ByTag) (b : BodyTree) → Each (IsFound es) (listed_body b) → Finds es b
  body_finds es (plain_body b) h = tt
  body_finds es (rec_body fs) h = fields_find es fs h
  body_finds es (bag_body e cs) h = comps_find es cs h

  fields_find : (es : ByTag) (fs : Bodies) → Each (IsFound es) (listed_bodies fs)
      → FindsFields es fs
  fields_find es no_body h = tt
  fields_find es (with_body l b fs) h = (
    body_finds es b (each_left (IsFound es) (listed_body b) (listed_bodies fs) h),
    fields_find es fs (each_right (IsFound es) (listed_body b) (listed_bodies fs) h),
  )

pub finds_own : (cs : Comps) → AreDistinct (comps_tags cs) → FindsComps (listed cs) cs
finds_own cs d =
    comps_find (listed cs) cs (entries_found (listed cs)
    (subst (λ (l : List ℕ). AreDistinct l) (sym (listed_tags cs)) d))

-- a tag at the path finds its tables by its number
pub tables_found : (es : ByTag) (ts : List ℕ) (t : ℕ) → Among t ts
    → tables_at es ts (pos t) ≡ tables_of es t
tables_found es [] t m = elim m [ ]
tables_found es (u ∷ ts) t first =
    ap (λ b. cond b (tables_of es t) (tables_at es ts (pos t)))
    ((Decides-int_eq (pos t) (pos t)).1 refl)
tables_found es (u ∷ ts) t (later m) = go (int_eq (pos u) (pos t)) refl (tables_found es ts t m)
  where
    one : pos u ≡ pos t → u ≡ t
    one e = cc

    go : (b : Bool) → int_eq (pos u) (pos t) ≡ b → tables_at es ts (pos t) ≡ tables_of es t
        → cond b (tables_of es u) (tables_at es ts (pos t)) ≡ tables_of es t
    go true e h = ap (tables_of es) (one ((Decides-int_eq (pos u) (pos t)).0 e))
    go false e h = h
