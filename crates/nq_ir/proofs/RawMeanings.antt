-- What a body means where a column counts how many generators stand between, and what copies and joins of bodies mean.
use Rattle.nq_model.specs.Totals.{total_of}
use Rattle.std.proofs.Common.{◌≡◌, ℕ, zero, suc, ◌+◌, List, [], ◌∷◌, ◌++◌, map, refl, sym, ap, ap₂, ◌∙◌, subst, subst₂, Bool, true, false, cond, filter, flat_map, length, get_or, append_assoc, append-nil, length-append, get_or-append-add, ◌&&◌, arith}
use Rattle.std.specs.List.{AllByRecursion as Each}
use Rattle.std.proofs.lemmas.List.Elements.{filter-append}
use Rattle.std.proofs.lemmas.List.{map-append}
use Rattle.nq_model.specs.Bags.{Reordered}
use Rattle.nq_model.specs.Meaning.{is_none}
use Rattle.nq_model.specs.Operators.{is_true, unary_value, binary_value}
use Rattle.nq_model.specs.Values.{Nested, base, rec, Fields, field, bag_of}
use Rattle.nq_model.specs.declared.table.Cell.{Cell}
use Rattle.nq_model.specs.declared.table.Cell.TheVariants as cell
use Rattle.nq_model.proofs.Bags.{reordered_refl, reordered_trans, reordered_append, reordered_swap, reordered_sym}
use Rattle.nq_model.specs.NamedRows.{Label, Row, cell_under}
use Rattle.nq_ir.specs.Meanings.{Tables}
use Rattle.nq_ir.specs.RawForms.{RawBase, raw_literal, raw_column, raw_unary, raw_binary, raw_choose, raw_empty, RawConds, no_raw, and_raw, RawTests, no_raw_test, raw_test, RawBody, raw_plain, raw_rec, raw_bag, RawFields, no_raw_field, raw_field, RawComps, no_raw_comp, raw_comp, up_index, up_base, up_bases, up_tests, up_body, up_fields, up_comps, both_raw, append_raw, inside, each_comp, raw_total}
use Rattle.nq_ir.proofs.Spots.{each_filter}
use Rattle.nq_ir.proofs.Nested.{map_flat, map_of_map, flat_same, flat_flat, flat_of_map, each_flat, each_mapped}
use Rattle.nq_ir.proofs.Distinct.{each_join}

-- the rows that generators take, the innermost first
abbrev pub picks : Tables → List Label → List (List Row)
picks ts [] = [] ∷ []
picks ts (t ∷ gs) = flat_map (λ r. map (λ rs. rs ++ r ∷ []) (picks ts gs)) (ts t)

abbrev mutual
  pub raw_value : Tables → RawBase → List Row → Cell
  raw_value ts (raw_literal c) env = c
  raw_value ts (raw_column i l) env = cell_under l (get_or env i [])
  raw_value ts (raw_unary o b) env = unary_value o (raw_value ts b env)
  raw_value ts (raw_binary o a b) env = binary_value o (raw_value ts a env) (raw_value ts b env)
  raw_value ts (raw_choose x a b) env = cond (is_true (raw_value ts x env)) (raw_value ts a env) (raw_value ts b env)
  raw_value ts (raw_empty xs) env = cell.Bool (raw_none ts xs env)
  raw_value ts (raw_total g gs bs b) env = total_of g (map (λ rs. raw_value ts b (rs ++ env)) (filter (λ rs. raw_true ts bs (rs ++ env)) (picks ts gs)))

  pub raw_true : Tables → RawConds → List Row → Bool
  raw_true ts no_raw env = true
  raw_true ts (and_raw b bs) env = is_true (raw_value ts b env) && raw_true ts bs env

  pub raw_none : Tables → RawTests → List Row → Bool
  raw_none ts no_raw_test env = true
  raw_none ts (raw_test gs bs xs) env = is_none (filter (λ rs. raw_true ts bs (rs ++ env)) (picks ts gs)) && raw_none ts xs env

abbrev pub raw_kept : Tables → List Label → RawConds → List Row → List (List Row)
raw_kept ts gs bs env = map (λ rs. rs ++ env) (filter (λ rs. raw_true ts bs (rs ++ env)) (picks ts gs))

abbrev mutual
  pub raw_meaning : Tables → RawBody → List Row → Nested
  raw_meaning ts (raw_plain b) env = base (raw_value ts b env)
  raw_meaning ts (raw_rec fs) env = rec (raw_fields_meaning ts fs env)
  raw_meaning ts (raw_bag cs) env = bag_of (raw_comps_meaning ts cs env)

  pub raw_fields_meaning : Tables → RawFields → List Row → Fields
  raw_fields_meaning ts no_raw_field env = Fields.none
  raw_fields_meaning ts (raw_field l b fs) env = field l (raw_meaning ts b env) (raw_fields_meaning ts fs env)

  pub raw_comps_meaning : Tables → RawComps → List Row → List Nested
  raw_comps_meaning ts no_raw_comp env = []
  raw_comps_meaning ts (raw_comp gs bs b cs) env = map (λ e. raw_meaning ts b e) (raw_kept ts gs bs env) ++ raw_comps_meaning ts cs env

pub filter_each : {A : Type 0} (P : A → Type 0) (p q : A → Bool) → ((x : A) → P x → p x ≡ q x) → (xs : List A) → Each P xs → filter p xs ≡ filter q xs
filter_each P p q h [] e = refl
filter_each P p q h (x ∷ xs) e = ap₂ (λ b (l : List _). cond b (x ∷ l) l) (h x e.0) (filter_each P p q h xs e.1)

pub pick_length : (ts : Tables) (gs : List Label) → Each (λ rs. length rs ≡ length gs) (picks ts gs)
pick_length ts [] = (refl, tt)
pick_length ts (t ∷ gs) =
    each_flat (λ rs. length rs ≡ suc (length gs)) (λ r. map (λ rs. rs ++ r ∷ []) (picks ts gs)) (λ r. each_mapped (λ rs. rs ++ r ∷ []) (λ rs. length rs ≡ length gs) (λ rs. length rs ≡ suc (length gs)) (λ rs h. omega (arith, length-append rs (r ∷ []), h)) (picks ts gs) (pick_length ts gs)) (ts t)

pub map_each : {A B : Type 0} (P : A → Type 0) (f g : A → B) → ((x : A) → P x → f x ≡ g x) → (xs : List A) → Each P xs → map f xs ≡ map g xs
map_each P f g h [] e = refl
map_each P f g h (x ∷ xs) e = ap₂ (λ y (l : List _). y ∷ l) (h x e.0) (map_each P f g h xs e.1)

-- what is kept, with its values, where conditions and values are alike
pub kept_each : {A B : Type 0} (P : A → Type 0) (p q : A → Bool) (f g : A → B) → ((x : A) → P x → p x ≡ q x) → ((x : A) → P x → f x ≡ g x) → (xs : List A) → Each P xs → map f (filter p xs) ≡ map g (filter q xs)
kept_each P p q f g h k xs e = ap (map f) (filter_each P p q h xs e) ∙ map_each P f g k (filter q xs) (each_filter P q xs e)

-- a copy under more generators means the same
module _ (ts : Tables) (mid env : List Row) where
  index_skips : (front : List Row) (i : ℕ) → get_or (front ++ (mid ++ env)) (up_index (length mid) (length front) i) [] ≡ get_or (front ++ env) i []
  index_skips [] i = get_or-append-add mid env i []
  index_skips (r ∷ front) zero = refl
  index_skips (r ∷ front) (suc i) = index_skips front i

  mutual
    base_skips : (b : RawBase) (front : List Row) → raw_value ts (up_base (length mid) (length front) b) (front ++ (mid ++ env)) ≡ raw_value ts b (front ++ env)
    base_skips (raw_literal x) front = refl
    base_skips (raw_column i l) front = ap (cell_under l) (index_skips front i)
    base_skips (raw_unary o b) front = ap (unary_value o) (base_skips b front)
    base_skips (raw_binary o a b) front = ap₂ (binary_value o) (base_skips a front) (base_skips b front)
    base_skips (raw_choose x a b) front =
        ap (λ z. cond (is_true z) (raw_value ts (up_base (length mid) (length front) a) (front ++ (mid ++ env))) (raw_value ts (up_base (length mid) (length front) b) (front ++ (mid ++ env)))) (base_skips x front) ∙ ap₂ (λ y z. cond (is_true (raw_value ts x (front ++ env))) y z) (base_skips a front) (base_skips b front)
    base_skips (raw_empty xs) front = ap cell.Bool (tests_skip xs front)
    base_skips (raw_total g gs bs b) front =
        ap (total_of g) (kept_each (λ rs. length rs ≡ length gs) (λ rs. raw_true ts (up_bases (length mid) (length gs + length front) bs) (rs ++ (front ++ (mid ++ env)))) (λ rs. raw_true ts bs (rs ++ (front ++ env))) (λ rs. raw_value ts (up_base (length mid) (length gs + length front) b) (rs ++ (front ++ (mid ++ env)))) (λ rs. raw_value ts b (rs ++ (front ++ env))) (λ rs h. ap₂ (λ n (l : List Row). raw_true ts (up_bases (length mid) n bs) l) (ap (λ n. n + length front) (sym h) ∙ sym (length-append rs front)) (sym (append_assoc rs front (mid ++ env))) ∙ bases_skip bs (rs ++ front) ∙ ap (raw_true ts bs) (append_assoc rs front env)) (λ rs h. ap₂ (λ n (l : List Row). raw_value ts (up_base (length mid) n b) l) (ap (λ n. n + length front) (sym h) ∙ sym (length-append rs front)) (sym (append_assoc rs front (mid ++ env))) ∙ base_skips b (rs ++ front) ∙ ap (raw_value ts b) (append_assoc rs front env)) (picks ts gs) (pick_length ts gs))

    bases_skip : (bs : RawConds) (front : List Row) → raw_true ts (up_bases (length mid) (length front) bs) (front ++ (mid ++ env)) ≡ raw_true ts bs (front ++ env)
    bases_skip no_raw front = refl
    bases_skip (and_raw b bs) front = ap₂ (λ x y. is_true x && y) (base_skips b front) (bases_skip bs front)

    tests_skip : (xs : RawTests) (front : List Row) → raw_none ts (up_tests (length mid) (length front) xs) (front ++ (mid ++ env)) ≡ raw_none ts xs (front ++ env)
    tests_skip no_raw_test front = refl
    tests_skip (raw_test gs bs xs) front =
        ap₂ (λ (l : List (List Row)) y. is_none l && y) (filter_each (λ rs. length rs ≡ length gs) (λ rs. raw_true ts (up_bases (length mid) (length gs + length front) bs) (rs ++ (front ++ (mid ++ env)))) (λ rs. raw_true ts bs (rs ++ (front ++ env))) (λ rs h. ap₂ (λ n (l : List Row). raw_true ts (up_bases (length mid) n bs) l) (ap (λ n. n + length front) (sym h) ∙ sym (length-append rs front)) (sym (append_assoc rs front (mid ++ env))) ∙ bases_skip bs (rs ++ front) ∙ ap (raw_true ts bs) (append_assoc rs front env)) (picks ts gs) (pick_length ts gs)) (tests_skip xs front)

  kept_skip : (gs : List Label) (bs : RawConds) (front : List Row) → filter (λ rs. raw_true ts (up_bases (length mid) (length gs + length front) bs) (rs ++ (front ++ (mid ++ env)))) (picks ts gs) ≡ filter (λ rs. raw_true ts bs (rs ++ (front ++ env))) (picks ts gs)
  kept_skip gs bs front =
      filter_each (λ rs. length rs ≡ length gs) (λ rs. raw_true ts (up_bases (length mid) (length gs + length front) bs) (rs ++ (front ++ (mid ++ env)))) (λ rs. raw_true ts bs (rs ++ (front ++ env))) (λ rs h. ap₂ (λ n (l : List Row). raw_true ts (up_bases (length mid) n bs) l) (ap (λ n. n + length front) (sym h) ∙ sym (length-append rs front)) (sym (append_assoc rs front (mid ++ env))) ∙ bases_skip bs (rs ++ front) ∙ ap (raw_true ts bs) (append_assoc rs front env)) (picks ts gs) (pick_length ts gs)

  mutual
    pub body_skips : (b : RawBody) (front : List Row) → raw_meaning ts (up_body (length mid) (length front) b) (front ++ (mid ++ env)) ≡ raw_meaning ts b (front ++ env)
    body_skips (raw_plain b) front = ap base (base_skips b front)
    body_skips (raw_rec fs) front = ap rec (fields_skip fs front)
    body_skips (raw_bag cs) front = ap bag_of (comps_skip cs front)

    fields_skip : (fs : RawFields) (front : List Row) → raw_fields_meaning ts (up_fields (length mid) (length front) fs) (front ++ (mid ++ env)) ≡ raw_fields_meaning ts fs (front ++ env)
    fields_skip no_raw_field front = refl
    fields_skip (raw_field l b fs) front = ap₂ (λ x y. field l x y) (body_skips b front) (fields_skip fs front)

    comps_skip : (cs : RawComps) (front : List Row) → raw_comps_meaning ts (up_comps (length mid) (length front) cs) (front ++ (mid ++ env)) ≡ raw_comps_meaning ts cs (front ++ env)
    comps_skip no_raw_comp front = refl
    comps_skip (raw_comp gs bs b cs) front =
        ap₂ (λ (x y : List Nested). x ++ y)
        (map_of_map (λ e. raw_meaning ts (up_body (length mid) (length gs + length front) b) e) (λ rs. rs ++ (front ++ (mid ++ env))) (filter (λ rs. raw_true ts (up_bases (length mid) (length gs + length front) bs) (rs ++ (front ++ (mid ++ env)))) (picks ts gs))
        ∙ ap (map (λ rs. raw_meaning ts (up_body (length mid) (length gs + length front) b) (rs ++ (front ++ (mid ++ env))))) (kept_skip gs bs front)
        ∙ map_each (λ rs. length rs ≡ length gs) (λ rs. raw_meaning ts (up_body (length mid) (length gs + length front) b) (rs ++ (front ++ (mid ++ env)))) (λ rs. raw_meaning ts b (rs ++ (front ++ env))) (λ rs h. ap₂ (λ n (l : List Row). raw_meaning ts (up_body (length mid) n b) l) (ap (λ n. n + length front) (sym h) ∙ sym (length-append rs front)) (sym (append_assoc rs front (mid ++ env))) ∙ body_skips b (rs ++ front) ∙ ap (raw_meaning ts b) (append_assoc rs front env)) (filter (λ rs. raw_true ts bs (rs ++ (front ++ env))) (picks ts gs)) (each_filter (λ rs. length rs ≡ length gs) (λ rs. raw_true ts bs (rs ++ (front ++ env))) (picks ts gs) (pick_length ts gs))
        ∙ sym (map_of_map (λ e. raw_meaning ts b e) (λ rs. rs ++ (front ++ env)) (filter (λ rs. raw_true ts bs (rs ++ (front ++ env))) (picks ts gs))))
        (comps_skip cs front)

-- generators one after the other are nested choices
picks_append : (ts : Tables) (gs hs : List Label) → picks ts (gs ++ hs) ≡ flat_map (λ rs. map (λ qs. qs ++ rs) (picks ts hs)) (picks ts gs)
picks_append ts [] hs = sym (append-nil (map (λ qs. qs ++ []) (picks ts hs)) ∙ nils (picks ts hs))
  where
    nils : (l : List (List Row)) → map (λ qs. qs ++ []) l ≡ l
    nils [] = refl
    nils (x ∷ l) = ap₂ (λ y (z : List (List Row)). y ∷ z) (append-nil x) (nils l)
picks_append ts (t ∷ gs) hs =
    flat_same (λ r. map (λ rs. rs ++ r ∷ []) (picks ts (gs ++ hs))) (λ r. flat_map (λ rs. map (λ qs. qs ++ rs) (picks ts hs)) (map (λ rs. rs ++ r ∷ []) (picks ts gs))) (λ r. ap (map (λ rs. rs ++ r ∷ [])) (picks_append ts gs hs) ∙ map_flat (λ rs. rs ++ r ∷ []) (λ rs. map (λ qs. qs ++ rs) (picks ts hs)) (picks ts gs) ∙ flat_same (λ rs. map (λ z. z ++ r ∷ []) (map (λ qs. qs ++ rs) (picks ts hs))) (λ rs. map (λ qs. qs ++ (rs ++ r ∷ [])) (picks ts hs)) (λ rs. map_of_map (λ z. z ++ r ∷ []) (λ qs. qs ++ rs) (picks ts hs) ∙ same_maps rs r (picks ts hs)) (picks ts gs) ∙ sym (flat_of_map (λ rs. map (λ qs. qs ++ rs) (picks ts hs)) (λ rs. rs ++ r ∷ []) (picks ts gs))) (ts t)
    ∙ sym (flat_flat (λ rs. map (λ qs. qs ++ rs) (picks ts hs)) (λ r. map (λ rs. rs ++ r ∷ []) (picks ts gs)) (ts t))
  where
    same_maps : (rs : List Row) (r : Row) (l : List (List Row)) → map (λ qs. (qs ++ rs) ++ r ∷ []) l ≡ map (λ qs. qs ++ (rs ++ r ∷ [])) l
    same_maps rs r [] = refl
    same_maps rs r (q ∷ l) = ap₂ (λ y (z : List (List Row)). y ∷ z) (append_assoc q rs (r ∷ [])) (same_maps rs r l)

both_holds : (ts : Tables) (xs ys : RawConds) (e : List Row) → raw_true ts (both_raw xs ys) e ≡ (raw_true ts xs e && raw_true ts ys e)
both_holds ts no_raw ys e = refl
both_holds ts (and_raw x xs) ys e = ap (λ z. is_true (raw_value ts x e) && z) (both_holds ts xs ys e) ∙ go (is_true (raw_value ts x e)) (raw_true ts xs e) (raw_true ts ys e)
  where
    go : (a b c : Bool) → (a && (b && c)) ≡ ((a && b) && c)
    go true b c = refl
    go false b c = refl

-- under one outer choice
one_outer : (ts : Tables) (hs : List Label) (bs cs : RawConds) (env rs : List Row) (qs : List (List Row)) → Each (λ q. length q ≡ length hs) qs → map (λ z. z ++ env) (filter (λ z. raw_true ts (both_raw (up_bases (length hs) 0 bs) cs) (z ++ env)) (map (λ q. q ++ rs) qs)) ≡ cond (raw_true ts bs (rs ++ env)) (map (λ q. q ++ (rs ++ env)) (filter (λ q. raw_true ts cs (q ++ (rs ++ env))) qs)) []
one_outer ts hs bs cs env rs [] h = nothing (raw_true ts bs (rs ++ env))
  where
    nothing : (b : Bool) → ◌≡◌ {A = List (List Row)} [] (cond b [] [])
    nothing true = refl
    nothing false = refl
one_outer ts hs bs cs env rs (q ∷ qs) h =
    ap (λ b. map (λ z. z ++ env) (cond b ((q ++ rs) ∷ filter (λ z. raw_true ts (both_raw (up_bases (length hs) 0 bs) cs) (z ++ env)) (map (λ q. q ++ rs) qs)) (filter (λ z. raw_true ts (both_raw (up_bases (length hs) 0 bs) cs) (z ++ env)) (map (λ q. q ++ rs) qs)))) test
    ∙ go (raw_true ts bs (rs ++ env)) (raw_true ts cs (q ++ (rs ++ env))) (one_outer ts hs bs cs env rs qs h.1)
  where
    test : raw_true ts (both_raw (up_bases (length hs) 0 bs) cs) ((q ++ rs) ++ env) ≡ (raw_true ts bs (rs ++ env) && raw_true ts cs (q ++ (rs ++ env)))
    test =
        both_holds ts (up_bases (length hs) 0 bs) cs ((q ++ rs) ++ env)
        ∙ ap (λ (l : List Row). raw_true ts (up_bases (length hs) 0 bs) l && raw_true ts cs l) (append_assoc q rs env)
        ∙ ap (λ n. raw_true ts (up_bases n 0 bs) (q ++ (rs ++ env)) && raw_true ts cs (q ++ (rs ++ env))) (sym h.0)
        ∙ ap (λ b. b && raw_true ts cs (q ++ (rs ++ env))) (bases_skip ts q (rs ++ env) bs [])

    go : (a b : Bool) → map (λ z. z ++ env) (filter (λ z. raw_true ts (both_raw (up_bases (length hs) 0 bs) cs) (z ++ env)) (map (λ q. q ++ rs) qs)) ≡ cond a (map (λ q. q ++ (rs ++ env)) (filter (λ q. raw_true ts cs (q ++ (rs ++ env))) qs)) [] → map (λ z. z ++ env) (cond (a && b) ((q ++ rs) ∷ filter (λ z. raw_true ts (both_raw (up_bases (length hs) 0 bs) cs) (z ++ env)) (map (λ q. q ++ rs) qs)) (filter (λ z. raw_true ts (both_raw (up_bases (length hs) 0 bs) cs) (z ++ env)) (map (λ q. q ++ rs) qs))) ≡ cond a (map (λ q. q ++ (rs ++ env)) (cond b (q ∷ filter (λ q. raw_true ts cs (q ++ (rs ++ env))) qs) (filter (λ q. raw_true ts cs (q ++ (rs ++ env))) qs))) []
    go true true i = ap₂ (λ y (z : List (List Row)). y ∷ z) (append_assoc q rs env) i
    go true false i = i
    go false b i = i

pub filter_flat : {A B : Type 0} (p : B → Bool) (g : A → List B) (xs : List A) → filter p (flat_map g xs) ≡ flat_map (λ x. filter p (g x)) xs
filter_flat p g [] = refl
filter_flat p g (x ∷ xs) = filter-append p (g x) (flat_map g xs) ∙ ap (λ (l : List _). filter p (g x) ++ l) (filter_flat p g xs)

kept_inside : (ts : Tables) (gs hs : List Label) (bs cs : RawConds) (env : List Row) → raw_kept ts (gs ++ hs) (both_raw (up_bases (length hs) 0 bs) cs) env ≡ flat_map (λ e. raw_kept ts hs cs e) (raw_kept ts gs bs env)
kept_inside ts gs hs bs cs env =
    ap (λ (l : List (List Row)). map (λ z. z ++ env) (filter p l)) (picks_append ts gs hs)
    ∙ ap (map (λ z. z ++ env)) (filter_flat p (λ rs. map (λ q. q ++ rs) (picks ts hs)) (picks ts gs))
    ∙ map_flat (λ z. z ++ env) (λ rs. filter p (map (λ q. q ++ rs) (picks ts hs))) (picks ts gs)
    ∙ outers (picks ts gs)
  where
    p : List Row → Bool
    p = λ z. raw_true ts (both_raw (up_bases (length hs) 0 bs) cs) (z ++ env)

    over : (rs : List Row) (l : List (List Row)) (b : Bool) → flat_map (λ rs. map (λ z. z ++ env) (filter (λ z. raw_true ts (both_raw (up_bases (length hs) 0 bs) cs) (z ++ env)) (map (λ q. q ++ rs) (picks ts hs)))) l ≡ flat_map (λ e. raw_kept ts hs cs e) (map (λ rs. rs ++ env) (filter (λ rs. raw_true ts bs (rs ++ env)) l)) → cond b (raw_kept ts hs cs (rs ++ env)) [] ++ flat_map (λ rs. map (λ z. z ++ env) (filter (λ z. raw_true ts (both_raw (up_bases (length hs) 0 bs) cs) (z ++ env)) (map (λ q. q ++ rs) (picks ts hs)))) l ≡ flat_map (λ e. raw_kept ts hs cs e) (map (λ rs. rs ++ env) (cond b (rs ∷ filter (λ rs. raw_true ts bs (rs ++ env)) l) (filter (λ rs. raw_true ts bs (rs ++ env)) l)))
    over rs l true i = ap (λ (z : List (List Row)). raw_kept ts hs cs (rs ++ env) ++ z) i
    over rs l false i = i

    outers : (l : List (List Row)) → flat_map (λ rs. map (λ z. z ++ env) (filter (λ z. raw_true ts (both_raw (up_bases (length hs) 0 bs) cs) (z ++ env)) (map (λ q. q ++ rs) (picks ts hs)))) l ≡ flat_map (λ e. raw_kept ts hs cs e) (map (λ rs. rs ++ env) (filter (λ rs. raw_true ts bs (rs ++ env)) l))
    outers [] = refl
    outers (rs ∷ l) =
        ap (λ (z : List (List Row)). z ++ flat_map (λ rs. map (λ z. z ++ env) (filter (λ z. raw_true ts (both_raw (up_bases (length hs) 0 bs) cs) (z ++ env)) (map (λ q. q ++ rs) (picks ts hs)))) l) (one_outer ts hs bs cs env rs (picks ts hs) (pick_length ts hs))
        ∙ over rs l (raw_true ts bs (rs ++ env)) (outers l)

flat_nil : {A B : Type 0} (xs : List A) → ◌≡◌ {A = List B} [] (flat_map (λ x. []) xs)
flat_nil [] = refl
flat_nil (x ∷ xs) = flat_nil xs

-- two lists for each element, taken apart
flat_two : {A B : Type 0} (f g : A → List B) (xs : List A) → Reordered (flat_map f xs ++ flat_map g xs) (flat_map (λ x. f x ++ g x) xs)
flat_two f g [] = refl
flat_two f g (x ∷ xs) =
    let mid : Reordered (f x ++ (flat_map f xs ++ (g x ++ flat_map g xs))) (f x ++ (g x ++ (flat_map f xs ++ flat_map g xs))) = reordered_append (f x) (flat_map f xs ++ (g x ++ flat_map g xs)) (f x) (g x ++ (flat_map f xs ++ flat_map g xs)) (reordered_refl (f x)) (reordered_swap (flat_map f xs) (g x) (flat_map g xs)) in
    let end : Reordered (f x ++ (g x ++ (flat_map f xs ++ flat_map g xs))) (f x ++ (g x ++ flat_map (λ x. f x ++ g x) xs)) = reordered_append (f x) (g x ++ (flat_map f xs ++ flat_map g xs)) (f x) (g x ++ flat_map (λ x. f x ++ g x) xs) (reordered_refl (f x)) (reordered_append (g x) (flat_map f xs ++ flat_map g xs) (g x) (flat_map (λ x. f x ++ g x) xs) (reordered_refl (g x)) (flat_two f g xs)) in
    subst₂ (λ (a b : List _). Reordered a b) (sym (append_assoc (f x) (flat_map f xs) (g x ++ flat_map g xs))) (sym (append_assoc (f x) (g x) (flat_map (λ x. f x ++ g x) xs))) (reordered_trans (f x ++ (flat_map f xs ++ (g x ++ flat_map g xs))) (f x ++ (g x ++ (flat_map f xs ++ flat_map g xs))) (f x ++ (g x ++ flat_map (λ x. f x ++ g x) xs)) mid end)

pub inside_means : (ts : Tables) (gs : List Label) (bs : RawConds) (ds : RawComps) (env : List Row) → Reordered (raw_comps_meaning ts (inside gs bs ds) env) (flat_map (λ e. raw_comps_meaning ts ds e) (raw_kept ts gs bs env))
inside_means ts gs bs no_raw_comp env = sym (flat_nil (raw_kept ts gs bs env))
inside_means ts gs bs (raw_comp hs cs b ds) env =
    let k = raw_kept ts gs bs env in
    let one : map (λ e. raw_meaning ts b e) (raw_kept ts (gs ++ hs) (both_raw (up_bases (length hs) 0 bs) cs) env) ≡ flat_map (λ e. map (λ x. raw_meaning ts b x) (raw_kept ts hs cs e)) k = ap (map (λ e. raw_meaning ts b e)) (kept_inside ts gs hs bs cs env) ∙ map_flat (λ e. raw_meaning ts b e) (λ e. raw_kept ts hs cs e) k in
    reordered_trans (map (λ e. raw_meaning ts b e) (raw_kept ts (gs ++ hs) (both_raw (up_bases (length hs) 0 bs) cs) env) ++ raw_comps_meaning ts (inside gs bs ds) env) (flat_map (λ e. map (λ x. raw_meaning ts b x) (raw_kept ts hs cs e)) k ++ flat_map (λ e. raw_comps_meaning ts ds e) k) (flat_map (λ e. map (λ x. raw_meaning ts b x) (raw_kept ts hs cs e) ++ raw_comps_meaning ts ds e) k) (reordered_append (map (λ e. raw_meaning ts b e) (raw_kept ts (gs ++ hs) (both_raw (up_bases (length hs) 0 bs) cs) env)) (raw_comps_meaning ts (inside gs bs ds) env) (flat_map (λ e. map (λ x. raw_meaning ts b x) (raw_kept ts hs cs e)) k) (flat_map (λ e. raw_comps_meaning ts ds e) k) (subst (λ (l : List Nested). Reordered (map (λ e. raw_meaning ts b e) (raw_kept ts (gs ++ hs) (both_raw (up_bases (length hs) 0 bs) cs) env)) l) one (reordered_refl (map (λ e. raw_meaning ts b e) (raw_kept ts (gs ++ hs) (both_raw (up_bases (length hs) 0 bs) cs) env)))) (inside_means ts gs bs ds env)) (flat_two (λ e. map (λ x. raw_meaning ts b x) (raw_kept ts hs cs e)) (λ e. raw_comps_meaning ts ds e) k)

pub append_means : (ts : Tables) (cs ds : RawComps) (env : List Row) → raw_comps_meaning ts (append_raw cs ds) env ≡ raw_comps_meaning ts cs env ++ raw_comps_meaning ts ds env
append_means ts no_raw_comp ds env = refl
append_means ts (raw_comp gs bs b cs) ds env =
    ap (λ (l : List Nested). map (λ e. raw_meaning ts b e) (raw_kept ts gs bs env) ++ l) (append_means ts cs ds env) ∙ sym (append_assoc (map (λ e. raw_meaning ts b e) (raw_kept ts gs bs env)) (raw_comps_meaning ts cs env) (raw_comps_meaning ts ds env))

abbrev pub Run : Type 0
Run = List Label × RawBody × List Row

unfoldable pub runs : Tables → RawComps → List Row → List Run
runs ts no_raw_comp env = []
runs ts (raw_comp gs bs b cs) env = map (λ rs. (gs, b, rs)) (filter (λ rs. raw_true ts bs (rs ++ env)) (picks ts gs)) ++ runs ts cs env

pub runs_values : (ts : Tables) (cs : RawComps) (env : List Row) → raw_comps_meaning ts cs env ≡ map (λ (x : Run). raw_meaning ts x.1 (x.2 ++ env)) (runs ts cs env)
unfolding runs
runs_values ts no_raw_comp env = refl
runs_values ts (raw_comp gs bs b cs) env =
    let f = filter (λ rs. raw_true ts bs (rs ++ env)) (picks ts gs) in
    ap₂ (λ (x y : List Nested). x ++ y) (map_of_map (λ e. raw_meaning ts b e) (λ rs. rs ++ env) f ∙ sym (map_of_map (λ (x : Run). raw_meaning ts x.1 (x.2 ++ env)) (λ rs. (gs, b, rs)) f)) (runs_values ts cs env)
    ∙ sym (map-append (λ (x : Run). raw_meaning ts x.1 (x.2 ++ env)) (map (λ rs. (gs, b, rs)) f) (runs ts cs env))

pub runs_length : (ts : Tables) (cs : RawComps) (env : List Row) → Each (λ (x : Run). length x.2 ≡ length x.0) (runs ts cs env)
unfolding runs
runs_length ts no_raw_comp env = tt
runs_length ts (raw_comp gs bs b cs) env =
    let f = filter (λ rs. raw_true ts bs (rs ++ env)) (picks ts gs) in
    each_join (λ (x : Run). length x.2 ≡ length x.0) (map (λ rs. (gs, b, rs)) f) (runs ts cs env) (each_mapped (λ rs. (gs, b, rs)) (λ rs. length rs ≡ length gs) (λ (x : Run). length x.2 ≡ length x.0) (λ rs h. h) f (each_filter (λ rs. length rs ≡ length gs) (λ rs. raw_true ts bs (rs ++ env)) (picks ts gs) (pick_length ts gs))) (runs_length ts cs env)

flat_join : {A B : Type 0} (f : A → List B) (xs ys : List A) → flat_map f (xs ++ ys) ≡ flat_map f xs ++ flat_map f ys
flat_join f [] ys = refl
flat_join f (x ∷ xs) ys = ap (λ (l : List _). f x ++ l) (flat_join f xs ys) ∙ sym (append_assoc (f x) (flat_map f xs) (flat_map f ys))

pub each_comp_means : (ts : Tables) (cs : RawComps) (rest : List Label → RawBody → RawComps) (env : List Row) → Reordered (flat_map (λ (x : Run). raw_comps_meaning ts (rest x.0 x.1) (x.2 ++ env)) (runs ts cs env)) (raw_comps_meaning ts (each_comp cs rest) env)
unfolding runs
each_comp_means ts no_raw_comp rest env = refl
each_comp_means ts (raw_comp gs bs b cs) rest env =
    let f = filter (λ rs. raw_true ts bs (rs ++ env)) (picks ts gs) in
    let h : Run → List Nested = λ x. raw_comps_meaning ts (rest x.0 x.1) (x.2 ++ env) in
    let one : flat_map h (map (λ rs. (gs, b, rs)) f) ≡ flat_map (λ e. raw_comps_meaning ts (rest gs b) e) (raw_kept ts gs bs env) = flat_of_map h (λ rs. (gs, b, rs)) f ∙ sym (flat_of_map (λ e. raw_comps_meaning ts (rest gs b) e) (λ rs. rs ++ env) f) in
    let left : Reordered (flat_map h (map (λ rs. (gs, b, rs)) f)) (raw_comps_meaning ts (inside gs bs (rest gs b)) env) = subst (λ (l : List Nested). Reordered l (raw_comps_meaning ts (inside gs bs (rest gs b)) env)) (sym one) (reordered_sym (raw_comps_meaning ts (inside gs bs (rest gs b)) env) (flat_map (λ e. raw_comps_meaning ts (rest gs b) e) (raw_kept ts gs bs env)) (inside_means ts gs bs (rest gs b) env)) in
    subst₂ (λ (x y : List Nested). Reordered x y) (sym (flat_join h (map (λ rs. (gs, b, rs)) f) (runs ts cs env))) (sym (append_means ts (inside gs bs (rest gs b)) (each_comp cs rest) env)) (reordered_append (flat_map h (map (λ rs. (gs, b, rs)) f)) (flat_map h (runs ts cs env)) (raw_comps_meaning ts (inside gs bs (rest gs b)) env) (raw_comps_meaning ts (each_comp cs rest) env) left (each_comp_means ts cs rest env))
