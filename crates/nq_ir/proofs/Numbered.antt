-- The numbering of a form's generators keeps its meaning.
use Rattle.nq_model.specs.Totals.{total_of}
use Rattle.std.proofs.Common.{◌≡◌, ℕ, zero, suc, ◌+◌, ◌<◌, ◌≤◌, List, [], ◌∷◌, ◌++◌, map, refl, sym, ap, ap₂, ◌∙◌, subst, subst₂, Bool, true, false, cond, filter, flat_map, length, get_or, append_assoc, append-nil, nat_eq, ◌&&◌, arith, inl, inr, ⊎_elim, ◌⊎◌}
use Rattle.std.specs.List.{AllByRecursion as Each}
use Rattle.nq_model.specs.Meaning.{is_none}
use Rattle.nq_model.specs.Operators.{is_true, unary_value, binary_value}
use Rattle.nq_model.specs.Types.{TypeTree, FieldTypes}
use Rattle.nq_model.specs.Values.{Nested, base, rec, field, bag_of}
use Rattle.nq_model.specs.declared.table.Cell.TheVariants as cell
use Rattle.nq_model.specs.NamedRows.{Label, Row, cell_under}
use Rattle.nq_ir.specs.Meanings.{Tables, Env, row_of, choices, value, all_true, no_kept, body_meaning, bodies_meaning, comps_meaning}
use Rattle.nq_ir.specs.RawForms.{RawBase, raw_literal, raw_column, raw_unary, raw_binary, raw_choose, raw_empty, RawConds, no_raw, and_raw, RawTests, no_raw_test, raw_test, RawBody, raw_plain, raw_rec, raw_bag, RawFields, no_raw_field, raw_field, RawComps, no_raw_comp, raw_comp, raw_total}
use Rattle.nq_ir.specs.NormalForms.{gens_in_base, gens_in_conds, gens_in_body, tags_in_body, number_gens, deal, number_base, number_conds, number_tests, number_body, number_fields, number_comps, element_type, field_types, first_type, rest_types}
use Rattle.nq_ir.proofs.Distinct.{each_left, each_right, each_join}
use Rattle.nq_ir.proofs.Equal.{nat_same, nat_differ}
use Rattle.nq_ir.proofs.RawMeanings.{picks, raw_value, raw_true, raw_none, raw_meaning, raw_fields_meaning, raw_comps_meaning}

-- lists of equal length, related place by place
pub data Alongside {A B : Type 0} (R : A → B → Type 0) : List A → List B → Type 0 where
  ends : Alongside R [] []
  next : {x : A} {y : B} {xs : List A} {ys : List B} → R x y → Alongside R xs ys → Alongside R (x ∷ xs) (y ∷ ys)

along_append : {A B : Type 0} (R : A → B → Type 0) {xs us : List A} {ys vs : List B} → Alongside R xs ys → Alongside R us vs → Alongside R (xs ++ us) (ys ++ vs)
along_append R ends k = k
along_append R (next r h) k = next r (along_append R h k)

along_map : {A B C D : Type 0} (R : A → B → Type 0) (S : C → D → Type 0) (f : A → C) (g : B → D) → ((x : A) (y : B) → R x y → S (f x) (g y)) → {xs : List A} {ys : List B} → Alongside R xs ys → Alongside S (map f xs) (map g ys)
along_map R S f g t ends = ends
along_map R S f g t (next {x = x} {y = y} r h) = next (t x y r) (along_map R S f g t h)

along_flat : {A B C : Type 0} (R : B → C → Type 0) (f : A → List B) (g : A → List C) → ((x : A) → Alongside R (f x) (g x)) → (l : List A) → Alongside R (flat_map f l) (flat_map g l)
along_flat R f g t [] = ends
along_flat R f g t (x ∷ l) = along_append R (t x) (along_flat R f g t l)

along_none : {A B : Type 0} (R : A → B → Type 0) (p : A → Bool) (q : B → Bool) → ((x : A) (y : B) → R x y → p x ≡ q y) → {xs : List A} {ys : List B} → Alongside R xs ys → is_none (filter p xs) ≡ is_none (filter q ys)
along_none R p q t ends = refl
along_none R p q t (next {x = x} {y = y} {xs = xs} {ys = ys} r h) = go (p x) (q y) (t x y r) (along_none R p q t h)
  where
    go : (b d : Bool) → b ≡ d → is_none (filter p xs) ≡ is_none (filter q ys) → is_none (cond b (x ∷ filter p xs) (filter p xs)) ≡ is_none (cond d (y ∷ filter q ys) (filter q ys))
    go true true e i = refl
    go true false e i = absurd (cc)
    go false true e i = absurd (cc)
    go false false e i = i

along_kept : {A B C D E : Type 0} (R : A → B → Type 0) (p : A → Bool) (k : A → C) (f : C → E) (q : D → Bool) (m : B → D) (g : D → E) → ((x : A) (y : B) → R x y → p x ≡ q (m y)) → ((x : A) (y : B) → R x y → f (k x) ≡ g (m y)) → {xs : List A} {ys : List B} → Alongside R xs ys → map f (map k (filter p xs)) ≡ map g (filter q (map m ys))
along_kept R p k f q m g t u ends = refl
along_kept R p k f q m g t u (next {x = x} {y = y} {xs = xs} {ys = ys} r h) = go (p x) (q (m y)) (t x y r) (along_kept R p k f q m g t u h)
  where
    go : (b d : Bool) → b ≡ d → map f (map k (filter p xs)) ≡ map g (filter q (map m ys)) → map f (map k (cond b (x ∷ filter p xs) (filter p xs))) ≡ map g (cond d (m y ∷ filter q (map m ys)) (filter q (map m ys)))
    go true true e i = ap₂ (λ z (l : List _). z ∷ l) (u x y r) i
    go true false e i = absurd (cc)
    go false true e i = absurd (cc)
    go false false e i = i

along_values : {A B C : Type 0} (R : A → B → Type 0) (p : A → Bool) (q : B → Bool) (f : A → C) (g : B → C) → ((x : A) (y : B) → R x y → p x ≡ q y) → ((x : A) (y : B) → R x y → f x ≡ g y) → {xs : List A} {ys : List B} → Alongside R xs ys → map f (filter p xs) ≡ map g (filter q ys)
along_values R p q f g t u ends = refl
along_values R p q f g t u (next {x = x} {y = y} {xs = xs} {ys = ys} r h) = ap (λ b. map f (cond b (x ∷ filter p xs) (filter p xs))) (t x y r) ∙ go (q y) (along_values R p q f g t u h)
  where
    go : (b : Bool) → map f (filter p xs) ≡ map g (filter q ys) → map f (cond b (x ∷ filter p xs) (filter p xs)) ≡ map g (cond b (y ∷ filter q ys) (filter q ys))
    go true i = ap₂ (λ z (l : List _). z ∷ l) (u x y r) i
    go false i = i

-- rows by number
pub not_below : (g n : ℕ) → g < n → nat_eq g n ≡ false
not_below g n h = nat_differ g n (λ e. let f : g ≡ n = e in omega arith)

pub not_above : (g n : ℕ) → n < g → nat_eq g n ≡ false
not_above g n h = nat_differ g n (λ e. let f : g ≡ n = e in omega arith)

-- where g is not among the numbers of f
skip_back : (g : ℕ) (e f : Env) → Each (λ b. nat_eq g b.0 ≡ false) f → row_of g (e ++ f) ≡ row_of g e
skip_back g [] [] h = refl
skip_back g [] (b ∷ f) h = ap (λ z. cond z b.1 (row_of g f)) h.0 ∙ skip_back g [] f h.1
skip_back g (b ∷ e) f h = ap (λ z. cond (nat_eq g b.0) b.1 z) (skip_back g e f h)

skip_front : (g : ℕ) (e f : Env) → Each (λ b. nat_eq g b.0 ≡ false) e → row_of g (e ++ f) ≡ row_of g f
skip_front g [] f h = refl
skip_front g (b ∷ e) f h = ap (λ z. cond z b.1 (row_of g (e ++ f))) h.0 ∙ skip_front g e f h.1

pub each_weaker : {A : Type 0} (P Q : A → Type 0) → ((x : A) → P x → Q x) → (xs : List A) → Each P xs → Each Q xs
each_weaker P Q t [] h = tt
each_weaker P Q t (x ∷ xs) h = (t x h.0, each_weaker P Q t xs h.1)

pub below_or_not : (a b : ℕ) → (a < b) ⊎ (b ≤ a)
below_or_not a zero = inr (omega arith)
below_or_not zero (suc b) = inl (omega arith)
below_or_not (suc a) (suc b) = ⊎_elim (λ h. inl (omega arith)) (λ h. inr (omega arith)) (below_or_not a b)

-- rows of other numbers in front or behind
row_swap : (n g : ℕ) (e f : Env) → Each (λ b. b.0 < n) e → Each (λ b. n ≤ b.0) f → row_of g (e ++ f) ≡ row_of g (f ++ e)
row_swap n g e f h k =
    ⊎_elim (λ w. let a = each_weaker (λ (b : ℕ × Row). n ≤ b.0) (λ b. nat_eq g b.0 ≡ false) (λ b m. not_below g b.0 (omega arith)) f k in skip_back g e f a ∙ sym (skip_front g f e a)) (λ w. let a = each_weaker (λ (b : ℕ × Row). b.0 < n) (λ b. nat_eq g b.0 ≡ false) (λ b m. not_above g b.0 (omega arith)) e h in skip_front g e f a ∙ sym (skip_back g f e a)) (below_or_not g n)

-- the environment holds each row in scope under its number, all numbers being below n
abbrev pub Agrees : ℕ → List ℕ → List Row → Env → Type 0
Agrees n [] [] e = (0 < n) × (row_of 0 e ≡ []) × Each (λ b. b.0 < n) e
Agrees n [] (r ∷ rows) e = ⊥
Agrees n (g ∷ sc) [] e = ⊥
Agrees n (g ∷ sc) (r ∷ rows) e = (g < n) × (row_of g e ≡ r) × Agrees n sc rows e

agrees_at : (n : ℕ) (sc : List ℕ) (rows : List Row) (e : Env) (i : ℕ) → Agrees n sc rows e → row_of (get_or sc i 0) e ≡ get_or rows i []
agrees_at n [] [] e i h = h.1
agrees_at n [] (r ∷ rows) e i h = absurd h
agrees_at n (g ∷ sc) [] e i h = absurd h
agrees_at n (g ∷ sc) (r ∷ rows) e zero h = h.1
agrees_at n (g ∷ sc) (r ∷ rows) e (suc i) h = agrees_at n sc rows e i h.2

agrees_below : (n : ℕ) (sc : List ℕ) (rows : List Row) (e : Env) → Agrees n sc rows e → (0 < n) × Each (λ b. b.0 < n) e
agrees_below n [] [] e h = (h.0, h.2)
agrees_below n [] (r ∷ rows) e h = absurd h
agrees_below n (g ∷ sc) [] e h = absurd h
agrees_below n (g ∷ sc) (r ∷ rows) e h = agrees_below n sc rows e h.2

-- in an environment with the same rows under the numbers below n, and under a later next number
agrees_in : (n m : ℕ) (sc : List ℕ) (rows : List Row) (e f : Env) → n ≤ m → ((g : ℕ) → g < n → row_of g f ≡ row_of g e) → Each (λ b. b.0 < m) f → Agrees n sc rows e → Agrees m sc rows f
agrees_in n m [] [] e f l t k h = ((let z = h.0 in omega arith), t 0 h.0 ∙ h.1, k)
agrees_in n m [] (r ∷ rows) e f l t k h = absurd h
agrees_in n m (g ∷ sc) [] e f l t k h = absurd h
agrees_in n m (g ∷ sc) (r ∷ rows) e f l t k h =
    ((let z = h.0 in omega arith), t g h.0 ∙ h.1, agrees_in n m sc rows e f l t k h.2)

agrees_later : (n m : ℕ) (sc : List ℕ) (rows : List Row) (e : Env) → n ≤ m → Agrees n sc rows e → Agrees m sc rows e
agrees_later n m sc rows e l h =
    agrees_in n m sc rows e e l (λ g k. refl) (each_weaker (λ (b : ℕ × Row). b.0 < n) (λ b. b.0 < m) (λ b k. omega arith) e (agrees_below n sc rows e h).1) h

agrees_one : (n : ℕ) (sc : List ℕ) (rows : List Row) (e : Env) (r : Row) → Agrees n sc rows e → Agrees (suc n) (n ∷ sc) (r ∷ rows) (e ++ (n, r) ∷ [])
agrees_one n sc rows e r h =
    let w = agrees_below n sc rows e h in
    let apart = each_weaker (λ (b : ℕ × Row). b.0 < n) (λ b. nat_eq n b.0 ≡ false) (λ b k. not_above n b.0 k) e w.1 in
    let lower = each_weaker (λ (b : ℕ × Row). b.0 < n) (λ b. b.0 < suc n) (λ b k. omega arith) e w.1 in
    (omega arith, skip_front n e ((n, r) ∷ []) apart ∙ ap (λ z. cond z r []) (nat_same n n refl), agrees_in n (suc n) sc rows e (e ++ (n, r) ∷ []) (omega arith) (λ g k. skip_back g e ((n, r) ∷ []) (not_below g n k, tt)) (each_join (λ (b : ℕ × Row). b.0 < suc n) e ((n, r) ∷ []) lower (omega arith, tt)) h)

-- the choices of numbered generators stand beside the picks
along_choices : (ts : Tables) (gs : List Label) (n : ℕ) (sc : List ℕ) (rows : List Row) (e : Env) → Agrees n sc rows e → Alongside (λ rs f. Agrees (n + length gs) (deal n gs sc) (rs ++ rows) (e ++ f) × Each (λ b. n ≤ b.0) f) (picks ts gs) (choices ts (number_gens n gs))
along_choices ts [] n sc rows e h =
    let k : n ≡ n + 0 = omega arith in
    next (subst₂ (λ m (z : Env). Agrees m sc rows z) k (sym (append-nil e)) h, tt) ends
along_choices ts (t ∷ gs) n sc rows e h =
    along_flat (λ rs f. Agrees (n + suc (length gs)) (deal (suc n) gs (n ∷ sc)) (rs ++ rows) (e ++ f) × Each (λ b. n ≤ b.0) f) (λ r. map (λ rs. rs ++ r ∷ []) (picks ts gs)) (λ r. map (λ rs. (n, r) ∷ rs) (choices ts (number_gens (suc n) gs))) (λ r. along_map (λ rs f. Agrees (suc n + length gs) (deal (suc n) gs (n ∷ sc)) (rs ++ (r ∷ rows)) ((e ++ (n, r) ∷ []) ++ f) × Each (λ b. suc n ≤ b.0) f) (λ rs f. Agrees (n + suc (length gs)) (deal (suc n) gs (n ∷ sc)) (rs ++ rows) (e ++ f) × Each (λ b. n ≤ b.0) f) (λ rs. rs ++ r ∷ []) (λ rs. (n, r) ∷ rs) (λ rs f k. turned r rs f k) (along_choices ts gs (suc n) (n ∷ sc) (r ∷ rows) (e ++ (n, r) ∷ []) (agrees_one n sc rows e r h))) (ts t)
  where
    turned : (r : Row) (rs : List Row) (f : Env) → Agrees (suc n + length gs) (deal (suc n) gs (n ∷ sc)) (rs ++ (r ∷ rows)) ((e ++ (n, r) ∷ []) ++ f) × Each (λ b. suc n ≤ b.0) f → Agrees (n + suc (length gs)) (deal (suc n) gs (n ∷ sc)) ((rs ++ r ∷ []) ++ rows) (e ++ ((n, r) ∷ f)) × Each (λ b. n ≤ b.0) ((n, r) ∷ f)
    turned r rs f k =
        let a : suc n + length gs ≡ n + suc (length gs) = omega arith in
        (subst (λ m. Agrees m (deal (suc n) gs (n ∷ sc)) ((rs ++ r ∷ []) ++ rows) (e ++ ((n, r) ∷ f))) a (subst₂ (λ (x : List Row) (y : Env). Agrees (suc n + length gs) (deal (suc n) gs (n ∷ sc)) x y) (sym (append_assoc rs (r ∷ []) rows)) (append_assoc e ((n, r) ∷ []) f) k.0), (omega arith, each_weaker (λ (b : ℕ × Row). suc n ≤ b.0) (λ b. n ≤ b.0) (λ b z. omega arith) f k.1))

-- with the new rows in front
agrees_swap : (n m : ℕ) (sc : List ℕ) (rows : List Row) (e f : Env) → Each (λ b. b.0 < n) e → Each (λ b. n ≤ b.0) f → Agrees m sc rows (e ++ f) → Agrees m sc rows (f ++ e)
agrees_swap n m sc rows e f h k a =
    let below = (agrees_below m sc rows (e ++ f) a).1 in
    let P : ℕ × Row → Type 0 = λ b. b.0 < m in
    agrees_in m m sc rows (e ++ f) (f ++ e) (omega arith) (λ g l. sym (row_swap n g e f h k)) (each_join P f e (each_right P e f below) (each_left P e f below)) a

-- the numbered form means the same
module _ (ts : Tables) where
  mutual
    value_numbered : (b : RawBase) (n : ℕ) (sc : List ℕ) (rows : List Row) (e : Env) → Agrees n sc rows e → raw_value ts b rows ≡ value ts (number_base n sc b) e
    value_numbered (raw_literal x) n sc rows e h = refl
    value_numbered (raw_column i l) n sc rows e h = ap (cell_under l) (sym (agrees_at n sc rows e i h))
    value_numbered (raw_unary o b) n sc rows e h = ap (unary_value o) (value_numbered b n sc rows e h)
    value_numbered (raw_binary o a b) n sc rows e h =
        ap₂ (binary_value o) (value_numbered a n sc rows e h) (value_numbered b (n + gens_in_base a) sc rows e (agrees_later n (n + gens_in_base a) sc rows e (omega arith) h))
    value_numbered (raw_choose x a b) n sc rows e h =
        ap (λ z. cond (is_true z) (raw_value ts a rows) (raw_value ts b rows)) (value_numbered x n sc rows e h) ∙ ap₂ (λ y z. cond (is_true (value ts (number_base n sc x) e)) y z) (value_numbered a (n + gens_in_base x) sc rows e (agrees_later n (n + gens_in_base x) sc rows e (omega arith) h)) (value_numbered b (n + gens_in_base x + gens_in_base a) sc rows e (agrees_later n (n + gens_in_base x + gens_in_base a) sc rows e (omega arith) h))
    value_numbered (raw_empty xs) n sc rows e h = ap cell.Bool (tests_numbered xs n sc rows e h)
    value_numbered (raw_total g gs bs b) n sc rows e h =
        let inner : (rs : List Row) (f : Env) → Agrees (n + length gs) (deal n gs sc) (rs ++ rows) (e ++ f) × Each (λ b. n ≤ b.0) f → Agrees (n + length gs) (deal n gs sc) (rs ++ rows) (f ++ e) = λ rs f k. agrees_swap n (n + length gs) (deal n gs sc) (rs ++ rows) e f (agrees_below n sc rows e h).1 k.1 k.0 in
        ap (total_of g) (along_values (λ rs f. Agrees (n + length gs) (deal n gs sc) (rs ++ rows) (e ++ f) × Each (λ b. n ≤ b.0) f) (λ rs. raw_true ts bs (rs ++ rows)) (λ f. all_true ts (number_conds (n + length gs) (deal n gs sc) bs) (f ++ e)) (λ rs. raw_value ts b (rs ++ rows)) (λ f. value ts (number_base (n + length gs + gens_in_conds bs) (deal n gs sc) b) (f ++ e)) (λ rs f k. all_numbered bs (n + length gs) (deal n gs sc) (rs ++ rows) (f ++ e) (inner rs f k)) (λ rs f k. value_numbered b (n + length gs + gens_in_conds bs) (deal n gs sc) (rs ++ rows) (f ++ e) (agrees_later (n + length gs) (n + length gs + gens_in_conds bs) (deal n gs sc) (rs ++ rows) (f ++ e) (omega arith) (inner rs f k))) (along_choices ts gs n sc rows e h))

    all_numbered : (bs : RawConds) (n : ℕ) (sc : List ℕ) (rows : List Row) (e : Env) → Agrees n sc rows e → raw_true ts bs rows ≡ all_true ts (number_conds n sc bs) e
    all_numbered no_raw n sc rows e h = refl
    all_numbered (and_raw b bs) n sc rows e h =
        ap₂ (λ x y. is_true x && y) (value_numbered b n sc rows e h) (all_numbered bs (n + gens_in_base b) sc rows e (agrees_later n (n + gens_in_base b) sc rows e (omega arith) h))

    tests_numbered : (xs : RawTests) (n : ℕ) (sc : List ℕ) (rows : List Row) (e : Env) → Agrees n sc rows e → raw_none ts xs rows ≡ no_kept ts (number_tests n sc xs) e
    tests_numbered no_raw_test n sc rows e h = refl
    tests_numbered (raw_test gs bs xs) n sc rows e h =
        ap₂ (λ x y. x && y) (along_none (λ rs f. Agrees (n + length gs) (deal n gs sc) (rs ++ rows) (e ++ f) × Each (λ b. n ≤ b.0) f) (λ rs. raw_true ts bs (rs ++ rows)) (λ f. all_true ts (number_conds (n + length gs) (deal n gs sc) bs) (f ++ e)) (λ rs f k. all_numbered bs (n + length gs) (deal n gs sc) (rs ++ rows) (f ++ e) (agrees_swap n (n + length gs) (deal n gs sc) (rs ++ rows) e f (agrees_below n sc rows e h).1 k.1 k.0)) (along_choices ts gs n sc rows e h)) (tests_numbered xs (n + length gs + gens_in_conds bs) sc rows e (agrees_later n (n + length gs + gens_in_conds bs) sc rows e (omega arith) h))

  mutual
    body_numbered : (b : RawBody) (t n : ℕ) (sc : List ℕ) (A : TypeTree) (rows : List Row) (e : Env) → Agrees n sc rows e → raw_meaning ts b rows ≡ body_meaning ts (number_body t n sc A b) e
    body_numbered (raw_plain b) t n sc A rows e h = ap base (value_numbered b n sc rows e h)
    body_numbered (raw_rec fs) t n sc A rows e h = ap rec (fields_numbered fs t n sc (field_types A) rows e h)
    body_numbered (raw_bag cs) t n sc A rows e h = ap bag_of (comps_numbered cs t n sc (element_type A) rows e h)

    fields_numbered : (fs : RawFields) (t n : ℕ) (sc : List ℕ) (As : FieldTypes) (rows : List Row) (e : Env) → Agrees n sc rows e → raw_fields_meaning ts fs rows ≡ bodies_meaning ts (number_fields t n sc As fs) e
    fields_numbered no_raw_field t n sc As rows e h = refl
    fields_numbered (raw_field l b fs) t n sc As rows e h =
        ap₂ (λ x y. field l x y) (body_numbered b t n sc (first_type As) rows e h) (fields_numbered fs (t + tags_in_body b) (n + gens_in_body b) sc (rest_types As) rows e (agrees_later n (n + gens_in_body b) sc rows e (omega arith) h))

    pub comps_numbered : (cs : RawComps) (t n : ℕ) (sc : List ℕ) (A : TypeTree) (rows : List Row) (e : Env) → Agrees n sc rows e → raw_comps_meaning ts cs rows ≡ comps_meaning ts (number_comps t n sc A cs) e
    comps_numbered no_raw_comp t n sc A rows e h = refl
    comps_numbered (raw_comp gs bs b cs) t n sc A rows e h =
        ap₂ (λ (x y : List Nested). x ++ y) (along_kept (λ rs f. Agrees (n + length gs) (deal n gs sc) (rs ++ rows) (e ++ f) × Each (λ b. n ≤ b.0) f) (λ rs. raw_true ts bs (rs ++ rows)) (λ rs. rs ++ rows) (λ z. raw_meaning ts b z) (λ z. all_true ts (number_conds (n + length gs) (deal n gs sc) bs) z) (λ f. e ++ f) (λ z. body_meaning ts (number_body (suc t) (n + length gs + gens_in_conds bs) (deal n gs sc) A b) z) (λ rs f k. all_numbered bs (n + length gs) (deal n gs sc) (rs ++ rows) (e ++ f) k.0) (λ rs f k. body_numbered b (suc t) (n + length gs + gens_in_conds bs) (deal n gs sc) A (rs ++ rows) (e ++ f) (agrees_later (n + length gs) (n + length gs + gens_in_conds bs) (deal n gs sc) (rs ++ rows) (e ++ f) (omega arith) k.0)) (along_choices ts gs n sc rows e h)) (comps_numbered cs (suc t + tags_in_body b) (n + length gs + gens_in_conds bs + gens_in_body b) sc A rows e (agrees_later n (n + length gs + gens_in_conds bs + gens_in_body b) sc rows e (omega arith) h))

  pub form_numbered : (cs : RawComps) (A : TypeTree) → raw_comps_meaning ts cs [] ≡ comps_meaning ts (number_comps 1 1 [] A cs) []
  form_numbered cs A = comps_numbered cs 1 1 [] A [] [] (omega arith, refl, tt)
