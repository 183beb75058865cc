-- The numbered form of a wrapped body means the traced meaning of the form.
use Rattle.std.proofs.Common.{◌≡◌, ℕ, suc, pos, ◌+◌, List, [], ◌∷◌, ◌++◌, map, refl, sym, ap, ap₂, ◌∙◌, subst, Bool, true, false, cond, length, get_or, nat_eq, append-nil, arith}
use Rattle.std.specs.List.{AllByRecursion as Each}
use Rattle.nq_model.specs.NamedRows.{Label, Row, cell_under}
use Rattle.nq_model.specs.Types.{TypeTree, FieldTypes}
use Rattle.nq_model.specs.Values.{Nested, base, rec, none, field, bag_of}
use Rattle.nq_model.specs.declared.table.Cell.TheVariants as cell
use Rattle.nq_ir.proofs.Distinct.{each_join}
use Rattle.nq_ir.proofs.Equal.{nat_same}
use Rattle.nq_ir.proofs.Nested.{each_mapped}
use Rattle.nq_ir.proofs.RawMeanings.{map_each}
use Rattle.nq_ir.proofs.Spots.{each_filter}
use Rattle.nq_ir.specs.Meanings.{Tables, Env, row_of, choices, all_true, kept, body_meaning, bodies_meaning, comps_meaning}
use Rattle.nq_ir.specs.NormalForms.{gens_in_conds, gens_in_body, gens_in_fields, gens_in_comps, tags_in_body, number_gens, deal, number_conds, number_body, number_fields, number_comps, element_type, field_types, first_type, rest_types}
use Rattle.nq_ir.specs.RawForms.{RawBody, raw_plain, raw_rec, raw_bag, RawFields, no_raw_field, raw_field, RawComps, no_raw_comp, raw_comp}
use Rattle.nq_ir.specs.declared.base.Gen.{Gen}
use Rattle.traced_meaning.proofs.RowNames.{IsNumbered, AreNumbered, each_over}
use Rattle.traced_meaning.proofs.Wrapped.{row_body, row_comps, element_body, wrapped, wrapped_fields, wrapped_comps}
use Rattle.traced_meaning.specs.NumberedTables.{number_column}
use Rattle.traced_meaning.specs.TracedForms.{names, traced_body, traced_bodies, traced_comps}
use Rattle.traced_meaning.specs.TracedValues.{place_label, table_label, number_label, element_of, rows_from, rows_value}

-- a wrapped body has the generators of the body
gens_in_rows : (k : ℕ) (gs : List Label) → gens_in_comps (row_comps k gs) ≡ 0
gens_in_rows k [] = refl
gens_in_rows k (t ∷ gs) = omega (arith, gens_in_rows (suc k) gs)

mutual
  gens_wrapped : (b : RawBody) → gens_in_body (wrapped b) ≡ gens_in_body b
  gens_wrapped (raw_plain b) = refl
  gens_wrapped (raw_rec fs) = gens_in_wrapped fs
  gens_wrapped (raw_bag cs) = gens_in_all_wrapped cs

  gens_in_wrapped : (fs : RawFields) → gens_in_fields (wrapped_fields fs) ≡ gens_in_fields fs
  gens_in_wrapped no_raw_field = refl
  gens_in_wrapped (raw_field l b fs) = ap₂ (λ m n. m + n) (gens_wrapped b) (gens_in_wrapped fs)

  gens_in_all_wrapped : (cs : RawComps) → gens_in_comps (wrapped_comps [] cs) ≡ gens_in_comps cs
  gens_in_all_wrapped no_raw_comp = refl
  gens_in_all_wrapped (raw_comp gs bs b cs) =
      let own : gens_in_body (element_body (wrapped b) gs) ≡ gens_in_body b
      = omega (arith, gens_wrapped b, gens_in_rows 1 gs) in
      ap₂ (λ m n. length gs + (gens_in_conds bs + (m + n))) own (gens_in_all_wrapped cs)

-- the numbers in scope, behind those of the generators
behind : (m : ℕ) (gs : List Label) (sc : List ℕ) (i : ℕ) → get_or (deal m gs sc) (length gs + i) 0
    ≡ get_or sc i 0
behind m [] sc i = ap (λ k. get_or sc k 0) (omega arith)
behind m (t ∷ gs) sc i =
    let k : suc (length gs) + i ≡ length gs + suc i = omega arith in
    ap (λ z. get_or (deal (suc m) gs (m ∷ sc)) z 0) k ∙ behind (suc m) gs (m ∷ sc) (suc i)

first_dealt : (m : ℕ) (gs : List Label) (sc : List ℕ) → get_or (deal (suc m) gs (m ∷ sc))
    (length gs) 0 ≡ m
first_dealt m gs sc =
    let k : length gs ≡ length gs + 0 = omega arith in
    ap (λ z. get_or (deal (suc m) gs (m ∷ sc)) z 0) k ∙ behind (suc m) gs (m ∷ sc) 0

-- the rows of these generators have numbers
abbrev OwnNumbered : List Gen → Env → Type 0
OwnNumbered gens env = Each (λ g. IsNumbered (row_of g.number env)) gens

-- the rows of a wrapped comprehension, numbered
rows_numbered : (ts : Tables) (k t n : ℕ) (A : TypeTree) (m : ℕ) (gs : List Label) (sc : List ℕ)
    (env : Env) → OwnNumbered (number_gens m gs) env → comps_meaning ts
    (number_comps t n (deal m gs sc) A (row_comps k gs)) env
    ≡ rows_from k (names (number_gens m gs) env)
rows_numbered ts k t n A m [] sc env h = refl
rows_numbered ts k t n A m (u ∷ gs) sc env h =
    ap₂ (λ c (l : List Nested). rec (field place_label (base (cell.Int (pos k)))
    (field table_label (base (cell.Text u)) (field number_label (base c) none))) ∷ l)
    (ap (λ (e : Env). cell_under number_column (row_of
    (get_or (deal (suc m) gs (m ∷ sc)) (length gs) 0) e)) (append-nil env)
    ∙ ap (λ g. cell_under number_column (row_of g env)) (first_dealt m gs sc) ∙ h.0)
    (rows_numbered ts (suc k) (suc t + tags_in_body (row_body k u (length gs)))
    (n + 0 + 0 + gens_in_body (row_body k u (length gs))) A (suc m) gs (m ∷ sc) env h.1)

-- the rows that generators take have numbers
abbrev AllNumbered : Env → Type 0
AllNumbered env = Each (λ b. IsNumbered b.1) env

chosen : (ts : Tables) → AreNumbered ts → (gens : List Gen)
    → Each (λ e. AllNumbered e × OwnNumbered gens e) (choices ts gens)
chosen ts all [] = ((tt, tt), tt)
chosen ts all (g ∷ gens) =
    each_over IsNumbered (λ e. AllNumbered e × OwnNumbered (g ∷ gens) e)
    (λ r. map (λ rs. (g.number, r) ∷ rs) (choices ts gens))
    (λ r n. each_mapped (λ rs. (g.number, r) ∷ rs) (λ e. AllNumbered e × OwnNumbered gens e)
    (λ e. AllNumbered e × OwnNumbered (g ∷ gens) e) (λ e h. (
      (n, h.0),
      (
        subst (λ b. IsNumbered (cond b r (row_of g.number e)))
            (sym (nat_same g.number g.number refl)) n,
        more gens r e n h.1,
      ),
    )) (choices ts gens)
    (chosen ts all gens)) (ts g.table) (all g.table)
  where
    either : (b : Bool) (r s : Row) → IsNumbered r → IsNumbered s → IsNumbered (cond b r s)
    either true r s n m = n
    either false r s n m = m

    more : (hs : List Gen) (r : Row) (e : Env) → IsNumbered r → OwnNumbered hs e
        → OwnNumbered hs ((g.number, r) ∷ e)
    more [] r e n h = tt
    more (k ∷ hs) r e n h = (
      either (nat_eq k.number g.number) r (row_of k.number e) n h.0,
      more hs r e n h.1,
    )

behind_rows : (gens : List Gen) (env e : Env) → AllNumbered env → OwnNumbered gens e
    → OwnNumbered gens (env ++ e)
behind_rows gens [] e n h = h
behind_rows gens (b ∷ env) e n h = go gens (behind_rows gens env e n.1 h)
  where
    either : (t : Bool) (s : Row) → IsNumbered s → IsNumbered (cond t b.1 s)
    either true s m = n.0
    either false s m = m

    go : (hs : List Gen) → OwnNumbered hs (env ++ e) → OwnNumbered hs (b ∷ env ++ e)
    go [] h = tt
    go (k ∷ hs) h = (either (nat_eq k.number b.0) (row_of k.number (env ++ e)) h.0, go hs h.1)

kept_numbered : (ts : Tables) → AreNumbered ts → (gens : List Gen) (env : Env) → AllNumbered env
    → Each (λ e. AllNumbered e × OwnNumbered gens e) (map (λ rs. env ++ rs) (choices ts gens))
kept_numbered ts all gens env n =
    each_mapped (λ rs. env ++ rs) (λ e. AllNumbered e × OwnNumbered gens e)
    (λ e. AllNumbered e × OwnNumbered gens e) (λ e h.
    (each_join (λ (b : ℕ × Row). IsNumbered b.1) env e n h.0, behind_rows gens env e n h.1))
    (choices ts gens) (chosen ts all gens)

-- tags and types have no part in a meaning
module _ (ts : Tables) (all : AreNumbered ts) where
  mutual
    body_means : (b : RawBody) (t u n m : ℕ) (sc : List ℕ) (A B : TypeTree) (env : Env) → n ≡ m
        → AllNumbered env → body_meaning ts (number_body t n sc A (wrapped b)) env
        ≡ traced_body ts (number_body u m sc B b) env
    body_means (raw_plain b) t u n m sc A B env e h = ap
        (λ k. body_meaning ts (number_body t k sc A (raw_plain b)) env) e
    body_means (raw_rec fs) t u n m sc A B env e h = ap rec
        (fields_mean fs t u n m sc (field_types A) (field_types B) env e h)
    body_means (raw_bag cs) t u n m sc A B env e h = ap bag_of
        (comps_mean cs t u n m sc (element_type A) (element_type B) env e h)

    fields_mean : (fs : RawFields) (t u n m : ℕ) (sc : List ℕ) (As Bs : FieldTypes) (env : Env) → n
        ≡ m → AllNumbered env → bodies_meaning ts (number_fields t n sc As (wrapped_fields fs)) env
        ≡ traced_bodies ts (number_fields u m sc Bs fs) env
    fields_mean no_raw_field t u n m sc As Bs env e h = refl
    fields_mean (raw_field l b fs) t u n m sc As Bs env e h =
        ap₂ (field l) (body_means b t u n m sc (first_type As) (first_type Bs) env e h)
        (fields_mean fs (t + tags_in_body (wrapped b)) (u + tags_in_body b)
        (n + gens_in_body (wrapped b)) (m + gens_in_body b) sc (rest_types As)
        (rest_types Bs) env (ap₂ (λ x y. x + y) e (gens_wrapped b)) h)

    pub comps_mean : (cs : RawComps) (t u n m : ℕ) (sc : List ℕ) (A B : TypeTree) (env : Env) → n
        ≡ m → AllNumbered env → comps_meaning ts (number_comps t n sc A (wrapped_comps [] cs)) env
        ≡ traced_comps ts (number_comps u m sc B cs) env
    comps_mean no_raw_comp t u n m sc A B env e h = refl
    comps_mean (raw_comp gs bs b cs) t u n m sc A B env e h =
        let inner : ℕ = n + length gs + gens_in_conds bs in
        let gens = number_gens m gs in
        let conds = number_conds (m + length gs) (deal m gs sc) bs in
        let element = element_body (wrapped b) gs in
        let own : gens_in_body element ≡ gens_in_body b = omega
        (arith, gens_wrapped b, gens_in_rows 1 gs) in
        ap (λ k. map (λ z. body_meaning ts (number_body (suc t) inner (deal n gs sc) A element) z)
        (kept ts (number_gens k gs) (number_conds (k + length gs) (deal k gs sc) bs) env)
        ++ comps_meaning ts (number_comps (suc t + tags_in_body element)
        (inner + gens_in_body element) sc A (wrapped_comps [] cs)) env) e
        ∙ ap₂ (λ (x y : List Nested). x ++ y) (map_each (λ z. AllNumbered z × OwnNumbered gens z)
        (λ z. body_meaning ts (number_body (suc t) inner (deal n gs sc) A element) z)
        (λ z. element_of (traced_body ts (number_body (suc u) (m + length gs + gens_in_conds bs)
        (deal m gs sc) B b) z) (rows_value (names gens z)))
        (λ z k. subst (λ j. body_meaning ts (number_body (suc t) inner
        (deal j gs sc) A element) z ≡ element_of (traced_body ts
        (number_body (suc u) (m + length gs + gens_in_conds bs) (deal m gs sc) B b) z)
        (rows_value (names gens z))) (sym e)
        (ap₂ (λ v (l : List Nested). element_of v (bag_of l))
        (body_means b (suc t) (suc u) inner (m + length gs + gens_in_conds bs) (deal m gs sc)
        (first_type (field_types A)) B z (omega (arith, e)) k.0)
        (rows_numbered ts 1 (suc t + tags_in_body (wrapped b))
        (inner + gens_in_body (wrapped b)) (element_type
        (first_type (rest_types (field_types A)))) m gs sc z k.1))) (kept ts gens conds env)
        (each_filter (λ z. AllNumbered z × OwnNumbered gens z) (λ z. all_true ts conds z)
        (map (λ rs. env ++ rs) (choices ts gens)) (kept_numbered ts all gens env h)))
        (comps_mean cs (suc t + tags_in_body element) (suc u + tags_in_body b)
        (inner + gens_in_body element) (m + length gs + gens_in_conds bs + gens_in_body b) sc A
        B env (omega (arith, e, own)) h)
