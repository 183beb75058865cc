-- The walk over the names finds the first fault.
use Rattle.std.proofs.Common.{◌≡◌, ℕ, zero, suc, ◌≤◌, ◌<◌, Bool, true, false, cond, not, ◌&&◌, ◌||◌, ◌==◌, nat_lt, List, [], ◌∷◌, ◌++◌, map, length, refl, sym, ◌∙◌, ap, subst, append_assoc, append-nil, Option, Some, None, arith, ◌⊎◌, inl, inr, true≢false, Contains}
use Rattle.std.specs.Option.{option_map, option_or}
use Rattle.std.specs.List.{list_any, flat_map}
use Rattle.std.specs.Str.{bytes_eq}
use Rattle.std.proofs.lemmas.Slice.Eq.{bytes_eq-Decides}
use Rattle.std.proofs.lemmas.Bool.Decides.{Decides-eqb, Decides-ltb}
use Rattle.nq_model.specs.SchemaTexts.{Name, WrittenColumn, WrittenTable, Fault, rank, column_names, IsTableFault, IsColumnFault, IsKeyFault, StandsBehind, HasColumnFault, HasKeyFault, FaultAt, NotLater}
use Rattle.schema_reader.specs.Shapes.{has, is_over, table_fault, column_fault, key_fault, placed, first_fault, columns_fault, keys_fault, shape_fault, tables_fault}
use Rattle.schema_reader.proofs.Truths.{Truth, yes', no', truth}

-- an element of a list, by its front
pub contains_here : {A : Type 0} (x : A) (xs : List A) → Contains (x ∷ xs) x
contains_here x xs = (0, omega arith, refl)

pub contains_there : {A : Type 0} (x y : A) (xs : List A) → Contains xs y → Contains (x ∷ xs) y
contains_there x y xs c = (suc c.0, let h = c.1 in omega arith, c.2)

pub contains_cases : {A : Type 0} (x y : A) (xs : List A) → Contains (x ∷ xs) y → (x ≡ y) ⊎ Contains xs y
contains_cases {A} x y xs c = go c.0 c.1 c.2
  where
    go : (k : ℕ) → k < length (x ∷ xs) → Rattle.std.specs.List.slice_index_or (x ∷ xs) k y ≡ y → (x ≡ y) ⊎ Contains xs y
    go zero l e = inl e
    go (suc k) l e = inr (k, omega arith, e)

pub contains_none : {A : Type 0} (y : A) → Contains [] y → ⊥
contains_none y c = let h = c.1 in omega arith

-- the test for a name
pub has_is : (names : List (List ℕ)) (w : List ℕ) → has names w ≡ true → Contains names w
has_is [] w e = absurd (true≢false (sym e))
has_is (n ∷ ns) w e = go (truth (bytes_eq n w)) (has_is ns w)
  where
    go : Truth (bytes_eq n w) → (has ns w ≡ true → Contains ns w) → Contains (n ∷ ns) w
    go (yes' t) r = let same : n ≡ w = (bytes_eq-Decides n w).0 t in subst (λ z. Contains (n ∷ ns) z) same (contains_here n ns)
    go (no' f) r = contains_there n w ns (r (sym (ap (λ b. b || has ns w) f) ∙ e))

pub has_from : (names : List (List ℕ)) (w : List ℕ) → Contains names w → has names w ≡ true
has_from [] w c = absurd (contains_none w c)
has_from (n ∷ ns) w c = go (contains_cases n w ns c) (has_from ns w) (truth (bytes_eq n w))
  where
    go : (n ≡ w) ⊎ Contains ns w → (Contains ns w → has ns w ≡ true) → Truth (bytes_eq n w) → has (n ∷ ns) w ≡ true
    go s r (yes' t) = ap (λ b. b || has ns w) t
    go (inl e) r (no' f) = absurd (true≢false (sym ((bytes_eq-Decides n w).1 e) ∙ f))
    go (inr k) r (no' f) = ap (λ b. b || has ns w) f ∙ r k

has_not : (names : List (List ℕ)) (w : List ℕ) → has names w ≡ false → Contains names w → ⊥
has_not names w e c = true≢false (sym (has_from names w c) ∙ e)

over_is : (names : List (List ℕ)) (w : List ℕ) → is_over names w ≡ true → (length names ≡ 64) ⊎ (64 < length w)
over_is names w e = go (truth (length names == 64))
  where
    go : Truth (length names == 64) → (length names ≡ 64) ⊎ (64 < length w)
    go (yes' t) = inl ((Decides-eqb (length names) 64).0 t)
    go (no' f) = inr ((Decides-ltb 64 (length w)).0 (sym (ap (λ b. b || nat_lt 64 (length w)) f) ∙ e))

over_not : (names : List (List ℕ)) (w : List ℕ) → is_over names w ≡ false → (length names ≡ 64) ⊎ (64 < length w) → ⊥
over_not names w e s = go (truth (length names == 64)) s
  where
    go : Truth (length names == 64) → (length names ≡ 64) ⊎ (64 < length w) → ⊥
    go (yes' t) s = true≢false (sym (ap (λ b. b || nat_lt 64 (length w)) t) ∙ e)
    go (no' f) (inl h) = true≢false (sym ((Decides-eqb (length names) 64).1 h) ∙ f)
    go (no' f) (inr h) = true≢false (sym ((Decides-ltb 64 (length w)).1 h) ∙ (sym (ap (λ b. b || nat_lt 64 (length w)) f) ∙ e))

-- the fault of least rank at one name
pub Least : (Fault → Type 0) → Option Fault → Type 0
Least F None = (f : Fault) → F f → ⊥
Least F (Some f) = F f × ((g : Fault) → F g → rank f ≤ rank g)

no_length : {A : Type 0} (xs : List A) → (length xs == 0) ≡ true → xs ≡ []
no_length [] e = refl
no_length (x ∷ xs) e = absurd (let h : length (x ∷ xs) ≡ 0 = (Decides-eqb (length (x ∷ xs)) 0).0 e in omega arith)

least_if : (F : Fault → Type 0) (b : Bool) (f : Fault) (o : Option Fault) → (b ≡ true → F f × ((g : Fault) → F g → rank f ≤ rank g)) → (b ≡ false → Least F o)
    → Least F (cond b (Some f) o)
unfolding Least
least_if F true f o h k = h refl
least_if F false f o h k = k refl

table_least : (names : List (List ℕ)) (t : WrittenTable) → Least (IsTableFault names t) (table_fault names t)
unfolding Least
table_least names t =
    least_if (IsTableFault names t) (has names t.name.text) Fault.twice_table _ (λ h. (has_is names t.name.text h, from_twice))
    (λ h. least_if (IsTableFault names t) (length t.columns == 0) Fault.no_column _ (λ n. (no_length t.columns n, from_none h))
    (λ n. least_if (IsTableFault names t) (is_over names t.name.text) Fault.over_limit None (λ o. (over_is names t.name.text o, from_over h n)) (λ o. clean h n o)))
  where
    from_twice : (g : Fault) → IsTableFault names t g → 2 ≤ rank g
    from_twice Fault.twice_table k = omega arith
    from_twice Fault.no_column k = omega arith
    from_twice Fault.over_limit k = omega arith
    from_twice g k = absurd k

    from_none : has names t.name.text ≡ false → (g : Fault) → IsTableFault names t g → 4 ≤ rank g
    from_none h Fault.twice_table k = absurd (has_not names t.name.text h k)
    from_none h Fault.no_column k = omega arith
    from_none h Fault.over_limit k = omega arith
    from_none h g k = absurd k

    clean : has names t.name.text ≡ false → (length t.columns == 0) ≡ false → is_over names t.name.text ≡ false → (f : Fault) → IsTableFault names t f → ⊥
    clean h n o Fault.twice_table k = has_not names t.name.text h k
    clean h n o Fault.no_column k = true≢false (sym (ap (λ z. length z == 0) k) ∙ n)
    clean h n o Fault.over_limit k = over_not names t.name.text o k
    clean h n o f k = k

    from_over : has names t.name.text ≡ false → (length t.columns == 0) ≡ false → (g : Fault) → IsTableFault names t g → 6 ≤ rank g
    from_over h n Fault.twice_table k = absurd (has_not names t.name.text h k)
    from_over h n Fault.no_column k = absurd (true≢false (sym (ap (λ z. length z == 0) k) ∙ n))
    from_over h n Fault.over_limit k = omega arith
    from_over h n g k = absurd k

column_least : (names : List (List ℕ)) (c : WrittenColumn) → Least (IsColumnFault names c) (column_fault names c)
unfolding Least
column_least names c =
    least_if (IsColumnFault names c) (has names c.name.text) Fault.twice_column _ (λ h. (has_is names c.name.text h, from_twice))
    (λ h. least_if (IsColumnFault names c) (is_over names c.name.text) Fault.over_limit None (λ o. (over_is names c.name.text o, from_over h)) (λ o. clean h o))
  where
    from_twice : (g : Fault) → IsColumnFault names c g → 3 ≤ rank g
    from_twice Fault.twice_column k = omega arith
    from_twice Fault.over_limit k = omega arith
    from_twice g k = absurd k

    from_over : has names c.name.text ≡ false → (g : Fault) → IsColumnFault names c g → 6 ≤ rank g
    from_over h Fault.twice_column k = absurd (has_not names c.name.text h k)
    from_over h Fault.over_limit k = omega arith
    from_over h g k = absurd k

    clean : has names c.name.text ≡ false → is_over names c.name.text ≡ false → (f : Fault) → IsColumnFault names c f → ⊥
    clean h o Fault.twice_column k = has_not names c.name.text h k
    clean h o Fault.over_limit k = over_not names c.name.text o k
    clean h o f k = k

key_least : (columns names : List (List ℕ)) (n : Name) → Least (IsKeyFault columns names n) (key_fault columns names n)
unfolding Least
key_least columns names n = go (truth (has columns n.text)) (truth (has names n.text))
  where
    only : (g : Fault) → IsKeyFault columns names n g → 5 ≤ rank g
    only Fault.key_column k = omega arith
    only g k = absurd k

    faulty : (has columns n.text && not (has names n.text)) ≡ false → IsKeyFault columns names n Fault.key_column → Least (IsKeyFault columns names n) (key_fault columns names n)
    faulty e k = subst (λ b. Least (IsKeyFault columns names n) (cond b None (Some Fault.key_column))) (sym e) (k, only)

    clean : has columns n.text ≡ true → has names n.text ≡ false → (f : Fault) → IsKeyFault columns names n f → ⊥
    clean h k Fault.key_column (inl none) = none (has_is columns n.text h)
    clean h k Fault.key_column (inr twice) = has_not names n.text k twice
    clean h k f x = x

    go : Truth (has columns n.text) → Truth (has names n.text) → Least (IsKeyFault columns names n) (key_fault columns names n)
    go (no' h) k = faulty (ap (λ b. b && not (has names n.text)) h) (inl (has_not columns n.text h))
    go (yes' h) (yes' k) = faulty (ap (λ b. b && not (has names n.text)) h ∙ ap not k) (inr (has_is names n.text k))
    go (yes' h) (no' k) =
        subst (λ b. Least (IsKeyFault columns names n) (cond b None (Some Fault.key_column))) (sym (ap (λ b. b && not (has names n.text)) h ∙ ap not k)) (clean h k)

-- what was found is the first of the faults
pub Finds : (Fault → ℕ → Type 0) → Option (Fault × ℕ) → Type 0
Finds F None = (f : Fault) (p : ℕ) → F f p → ⊥
Finds F (Some x) = F x.0 x.1 × ((g : Fault) (q : ℕ) → F g q → NotLater x.0 x.1 g q)

finds_none : (F : Fault → ℕ → Type 0) → ((f : Fault) (p : ℕ) → F f p → ⊥) → Finds F None
unfolding Finds
finds_none F h = h

finds_at : (F : Fault → Type 0) (place : ℕ) (o : Option Fault) → Least F o → Finds (λ f p. F f × (place ≡ p)) (placed place o)
unfolding Finds Least
finds_at F place None h = λ f p k. h f k.0
finds_at F place (Some f) h = ((h.0, refl), λ g q k. inr (k.1, h.1 g k.0))

-- the faults all stand between two places
pub record Within (F : Fault → ℕ → Type 0) (low high : ℕ) : Type 0 where
  pub bounds : (f : Fault) (p : ℕ) → F f p → (low ≤ p) × (p < high)

finds_or : (F G : Fault → ℕ → Type 0) (a b : Option (Fault × ℕ)) (low mid high : ℕ) → Within F low mid → Within G mid high → Finds F a → Finds G b
    → Finds (λ f p. F f p ⊎ G f p) (option_or a b)
unfolding Finds
finds_or F G None None low mid high v w h k = none
  where
    none : (f : Fault) (p : ℕ) → F f p ⊎ G f p → ⊥
    none f p (inl x) = h f p x
    none f p (inr x) = k f p x
finds_or F G None (Some y) low mid high v w h k = (inr k.0, first)
  where
    first : (g : Fault) (q : ℕ) → F g q ⊎ G g q → NotLater y.0 y.1 g q
    first g q (inl x) = absurd (h g q x)
    first g q (inr x) = k.1 g q x
finds_or F G (Some y) b low mid high v w h k = (inl h.0, first)
  where
    first : (g : Fault) (q : ℕ) → F g q ⊎ G g q → NotLater y.0 y.1 g q
    first g q (inl x) = h.1 g q x
    first g q (inr x) = inl (let l = v.bounds y.0 y.1 h.0 in let m = w.bounds g q x in omega arith)

finds_same : (F G : Fault → ℕ → Type 0) (o : Option (Fault × ℕ)) → ((f : Fault) (p : ℕ) → F f p → G f p) → ((f : Fault) (p : ℕ) → G f p → F f p) → Finds F o → Finds G o
unfolding Finds
finds_same F G None to from h = λ f p k. h f p (from f p k)
finds_same F G (Some x) to from h = (to x.0 x.1 h.0, λ g q k. h.1 g q (from g q k))

-- the places of names rise from one bound to another
abbrev pub Rise : ℕ → List Name → ℕ → Type 0
Rise low [] high = low ≤ high
Rise low (n ∷ ns) high = (low ≤ n.place) × Rise (suc n.place) ns high

pub rise_bound : (low high : ℕ) (ns : List Name) → Rise low ns high → low ≤ high
rise_bound low high [] r = r
rise_bound low high (n ∷ ns) r = let h = rise_bound (suc n.place) high ns r.1 in let g = r.0 in omega arith

pub record Middle (low high : ℕ) (xs ys : List Name) : Type 0 where
  pub mid : ℕ
  pub front : Rise low xs mid
  pub back : Rise mid ys high

pub rise_middle : (low high : ℕ) (xs ys : List Name) → Rise low (xs ++ ys) high → Middle low high xs ys
rise_middle low high [] ys r = record { mid = low; front = omega arith; back = r }
rise_middle low high (x ∷ xs) ys r =
    let m = rise_middle (suc x.place) high xs ys r.1 in
    record { mid = m.mid; front = (r.0, m.front); back = m.back }

module _ (A : Type 0) (name : A → Name) (Bad : List (List ℕ) → A → Fault → Type 0) (bad : List (List ℕ) → A → Option Fault)
    (least : (names : List (List ℕ)) (x : A) → Least (Bad names x) (bad names x)) where
  -- a fault of an element, behind names and behind the elements before it
  abbrev pub Stand : List (List ℕ) → List A → Fault → ℕ → Type 0
  Stand names xs f p = (before : List A) × (x : A) × StandsBehind xs before x × Bad (names ++ map (λ y. (name y).text) before) x f × ((name x).place ≡ p)

  pub stand_here : (names : List (List ℕ)) (x : A) (xs : List A) (f : Fault) (p : ℕ) → Bad names x f → (name x).place ≡ p → Stand names (x ∷ xs) f p
  stand_here names x xs f p b e = ([], x, (xs, refl), subst (λ z. Bad z x f) (sym (append-nil names)) b, e)

  pub stand_there : (names : List (List ℕ)) (x : A) (xs : List A) (f : Fault) (p : ℕ) → Stand (names ++ (name x).text ∷ []) xs f p → Stand names (x ∷ xs) f p
  stand_there names x xs f p s = (
    x ∷ s.0,
    s.1,
    (s.2.0, ap (λ z. x ∷ z) s.2.1),
    subst (λ z. Bad z s.1 f) (append_assoc names ((name x).text ∷ []) (map (λ y. (name y).text) s.0)) s.3,
    s.4,
  )

  pub stand_cases : (names : List (List ℕ)) (x : A) (xs : List A) (f : Fault) (p : ℕ) → Stand names (x ∷ xs) f p
      → (Bad names x f × ((name x).place ≡ p)) ⊎ Stand (names ++ (name x).text ∷ []) xs f p
  stand_cases names x xs f p s = go s.0 s.1 s.2.0 s.2.1 s.3 s.4
    where
      go : (before : List A) (y : A) (after : List A) → x ∷ xs ≡ before ++ y ∷ after → Bad (names ++ map (λ z. (name z).text) before) y f → (name y).place ≡ p
          → (Bad names x f × ((name x).place ≡ p)) ⊎ Stand (names ++ (name x).text ∷ []) xs f p
      go [] y after e b q =
          let same : y ≡ x = cc in
          inl (subst (λ z. Bad names z f) same (subst (λ z. Bad z y f) (append-nil names) b), ap (λ z. (name z).place) (sym same) ∙ q)
      go (z ∷ zs) y after e b q =
          let same : z ≡ x = cc in
          let rest : xs ≡ zs ++ y ∷ after = cc in
          inr (
            zs,
            y,
            (after, rest),
            subst (λ w. Bad w y f) (ap (λ w. names ++ (name w).text ∷ map (λ v. (name v).text) zs) same ∙ sym (append_assoc names ((name x).text ∷ []) (map (λ v. (name v).text) zs))) b,
            q,
          )

  pub stand_none : (names : List (List ℕ)) (f : Fault) (p : ℕ) → Stand names [] f p → ⊥
  stand_none names f p s = go s.0 s.2.1
    where
      go : (before : List A) → [] ≡ before ++ s.1 ∷ s.2.0 → ⊥
      go [] e = cc
      go (z ∷ zs) e = cc

  pub stand_within : (names : List (List ℕ)) (xs : List A) (low high : ℕ) → Rise low (map name xs) high → Within (Stand names xs) low high
  stand_within names [] low high r = record { bounds = λ f p s. absurd (stand_none names f p s) }
  stand_within names (x ∷ xs) low high r = record { bounds = λ f p s. at f p (stand_cases names x xs f p s) (stand_within (names ++ (name x).text ∷ []) xs (suc (name x).place) high r.1) }
    where
      at : (f : Fault) (p : ℕ) → (Bad names x f × ((name x).place ≡ p)) ⊎ Stand (names ++ (name x).text ∷ []) xs f p
          → Within (Stand (names ++ (name x).text ∷ []) xs) (suc (name x).place) high → (low ≤ p) × (p < high)
      at f p (inl h) w = let e = h.1 in let l = r.0 in let b = rise_bound (suc (name x).place) high (map name xs) r.1 in (omega arith, omega arith)
      at f p (inr s) w = let b = w.bounds f p s in let l = r.0 in (omega arith, omega arith)

  pub stand_finds : (names : List (List ℕ)) (xs : List A) (low high : ℕ) → Rise low (map name xs) high → Finds (Stand names xs) (first_fault name bad names xs)
  stand_finds names [] low high r = finds_none (Stand names []) (stand_none names)
  stand_finds names (x ∷ xs) low high r =
      finds_same (λ f p. (Bad names x f × ((name x).place ≡ p)) ⊎ Stand more xs f p) (Stand names (x ∷ xs))
      (option_or (placed (name x).place (bad names x)) (first_fault name bad more xs)) joined (stand_cases names x xs)
      (finds_or (λ f p. Bad names x f × ((name x).place ≡ p)) (Stand more xs) (placed (name x).place (bad names x)) (first_fault name bad more xs)
      (name x).place (suc (name x).place) high here (stand_within more xs (suc (name x).place) high r.1)
      (finds_at (Bad names x) (name x).place (bad names x) (least names x)) (stand_finds more xs (suc (name x).place) high r.1))
    where
      more : List (List ℕ)
      more = names ++ (name x).text ∷ []

      here : Within (λ f p. Bad names x f × ((name x).place ≡ p)) (name x).place (suc (name x).place)
      here = record { bounds = λ f p h. let e = h.1 in (omega arith, omega arith) }

      joined : (f : Fault) (p : ℕ) → (Bad names x f × ((name x).place ≡ p)) ⊎ Stand more xs f p → Stand names (x ∷ xs) f p
      joined f p (inl h) = stand_here names x xs f p h.0 h.1
      joined f p (inr s) = stand_there names x xs f p s

abbrev pub names_in : WrittenTable → List Name
names_in t = t.name ∷ (map (λ c. c.name) t.columns ++ t.key)

-- a fault of written tables that stand behind tables of these names
abbrev FaultFrom : List (List ℕ) → List WrittenTable → Fault → ℕ → Type 0
FaultFrom names tables f p = Stand WrittenTable (λ t. t.name) IsTableFault table_fault table_least names tables f p
    ⊎ ((t : WrittenTable) × Contains tables t × (HasColumnFault t f p ⊎ HasKeyFault t f p))

map_same : (ns : List Name) → map (λ n. n) ns ≡ ns
map_same [] = refl
map_same (n ∷ ns) = ap (λ z. n ∷ z) (map_same ns)

columns_within : (t : WrittenTable) (low high : ℕ) → Rise low (map (λ c. c.name) t.columns) high → Within (HasColumnFault t) low high
columns_within t low high r = stand_within WrittenColumn (λ c. c.name) IsColumnFault column_fault column_least [] t.columns low high r

columns_finds : (t : WrittenTable) (low high : ℕ) → Rise low (map (λ c. c.name) t.columns) high → Finds (HasColumnFault t) (columns_fault [] t.columns)
columns_finds t low high r = stand_finds WrittenColumn (λ c. c.name) IsColumnFault column_fault column_least [] t.columns low high r

keys_within : (t : WrittenTable) (low high : ℕ) → Rise low t.key high → Within (HasKeyFault t) low high
keys_within t low high r =
    stand_within Name (λ n. n) (IsKeyFault (column_names t.columns)) (key_fault (column_names t.columns)) (key_least (column_names t.columns)) [] t.key low high
    (subst (λ z. Rise low z high) (sym (map_same t.key)) r)

keys_finds : (t : WrittenTable) (low high : ℕ) → Rise low t.key high → Finds (HasKeyFault t) (keys_fault (column_names t.columns) [] t.key)
keys_finds t low high r =
    stand_finds Name (λ n. n) (IsKeyFault (column_names t.columns)) (key_fault (column_names t.columns)) (key_least (column_names t.columns)) [] t.key low high
    (subst (λ z. Rise low z high) (sym (map_same t.key)) r)

within_or : (F G : Fault → ℕ → Type 0) (low mid high : ℕ) → low ≤ mid → mid ≤ high → Within F low mid → Within G mid high → Within (λ f p. F f p ⊎ G f p) low high
within_or F G low mid high l m v w = record { bounds = either }
  where
    either : (f : Fault) (p : ℕ) → F f p ⊎ G f p → (low ≤ p) × (p < high)
    either f p (inl x) = let b = v.bounds f p x in (omega arith, omega arith)
    either f p (inr x) = let b = w.bounds f p x in (omega arith, omega arith)

-- the faults of one table
abbrev OwnFault : List (List ℕ) → WrittenTable → Fault → ℕ → Type 0
OwnFault names t f p = (IsTableFault names t f × (t.name.place ≡ p)) ⊎ (HasColumnFault t f p ⊎ HasKeyFault t f p)

own_within : (names : List (List ℕ)) (t : WrittenTable) (high : ℕ) → Rise (suc t.name.place) (map (λ c. c.name) t.columns ++ t.key) high → Within (OwnFault names t) t.name.place high
own_within names t high r =
    let m = rise_middle (suc t.name.place) high (map (λ c. c.name) t.columns) t.key r in
    let first = rise_bound (suc t.name.place) m.mid (map (λ c. c.name) t.columns) m.front in
    let second = rise_bound m.mid high t.key m.back in
    within_or (λ f p. IsTableFault names t f × (t.name.place ≡ p)) (λ f p. HasColumnFault t f p ⊎ HasKeyFault t f p) t.name.place (suc t.name.place) high (omega arith) (omega arith)
    (record { bounds = λ f p h. let e = h.1 in (omega arith, omega arith) })
    (within_or (HasColumnFault t) (HasKeyFault t) (suc t.name.place) m.mid high first second
    (columns_within t (suc t.name.place) m.mid m.front) (keys_within t m.mid high m.back))

own_finds : (names : List (List ℕ)) (t : WrittenTable) (high : ℕ) → Rise (suc t.name.place) (map (λ c. c.name) t.columns ++ t.key) high → Finds (OwnFault names t) (shape_fault names t)
own_finds names t high r =
    let m = rise_middle (suc t.name.place) high (map (λ c. c.name) t.columns) t.key r in
    let first = rise_bound (suc t.name.place) m.mid (map (λ c. c.name) t.columns) m.front in
    let second = rise_bound m.mid high t.key m.back in
    finds_or (λ f p. IsTableFault names t f × (t.name.place ≡ p)) (λ f p. HasColumnFault t f p ⊎ HasKeyFault t f p)
    (placed t.name.place (table_fault names t)) (option_or (columns_fault [] t.columns) (keys_fault (column_names t.columns) [] t.key))
    t.name.place (suc t.name.place) high
    (record { bounds = λ f p h. let e = h.1 in (omega arith, omega arith) })
    (within_or (HasColumnFault t) (HasKeyFault t) (suc t.name.place) m.mid high first second
    (columns_within t (suc t.name.place) m.mid m.front) (keys_within t m.mid high m.back))
    (finds_at (IsTableFault names t) t.name.place (table_fault names t) (table_least names t))
    (finds_or (HasColumnFault t) (HasKeyFault t) (columns_fault [] t.columns) (keys_fault (column_names t.columns) [] t.key) (suc t.name.place) m.mid high
    (columns_within t (suc t.name.place) m.mid m.front) (keys_within t m.mid high m.back)
    (columns_finds t (suc t.name.place) m.mid m.front) (keys_finds t m.mid high m.back))

table_to : (names : List (List ℕ)) (t : WrittenTable) (ts : List WrittenTable) (f : Fault) (p : ℕ)
    → OwnFault names t f p ⊎ FaultFrom (names ++ t.name.text ∷ []) ts f p → FaultFrom names (t ∷ ts) f p
table_to names t ts f p (inl (inl h)) = inl (stand_here WrittenTable (λ u. u.name) IsTableFault table_fault table_least names t ts f p h.0 h.1)
table_to names t ts f p (inl (inr h)) = inr (t, contains_here t ts, h)
table_to names t ts f p (inr (inl s)) = inl (stand_there WrittenTable (λ u. u.name) IsTableFault table_fault table_least names t ts f p s)
table_to names t ts f p (inr (inr h)) = inr (h.0, contains_there t h.0 ts h.1, h.2)

table_from : (names : List (List ℕ)) (t : WrittenTable) (ts : List WrittenTable) (f : Fault) (p : ℕ)
    → FaultFrom names (t ∷ ts) f p → OwnFault names t f p ⊎ FaultFrom (names ++ t.name.text ∷ []) ts f p
table_from names t ts f p (inl s) = at_table (stand_cases WrittenTable (λ u. u.name) IsTableFault table_fault table_least names t ts f p s)
  where
    at_table : (IsTableFault names t f × (t.name.place ≡ p)) ⊎ Stand WrittenTable (λ u. u.name) IsTableFault table_fault table_least (names ++ t.name.text ∷ []) ts f p
        → OwnFault names t f p ⊎ FaultFrom (names ++ t.name.text ∷ []) ts f p
    at_table (inl h) = inl (inl h)
    at_table (inr h) = inr (inl h)
table_from names t ts f p (inr h) = within (contains_cases t h.0 ts h.1)
  where
    within : (t ≡ h.0) ⊎ Contains ts h.0 → OwnFault names t f p ⊎ FaultFrom (names ++ t.name.text ∷ []) ts f p
    within (inl e) = inl (inr (subst (λ z. HasColumnFault z f p ⊎ HasKeyFault z f p) (sym e) h.2))
    within (inr c) = inr (inr (h.0, c, h.2))

no_fault : (names : List (List ℕ)) (f : Fault) (p : ℕ) → FaultFrom names [] f p → ⊥
no_fault names f p (inl s) = stand_none WrittenTable (λ u. u.name) IsTableFault table_fault table_least names f p s
no_fault names f p (inr h) = contains_none h.0 h.1

tables_within : (names : List (List ℕ)) (tables : List WrittenTable) (low high : ℕ) → Rise low (flat_map names_in tables) high → Within (FaultFrom names tables) low high
tables_within names [] low high r = record { bounds = λ f p h. absurd (no_fault names f p h) }
tables_within names (t ∷ ts) low high r =
    let m = rise_middle (suc t.name.place) high (map (λ c. c.name) t.columns ++ t.key) (flat_map names_in ts) r.1 in
    let a = rise_bound (suc t.name.place) m.mid (map (λ c. c.name) t.columns ++ t.key) m.front in
    let b = rise_bound m.mid high (flat_map names_in ts) m.back in
    let l = r.0 in
    let w = within_or (OwnFault names t) (FaultFrom (names ++ t.name.text ∷ []) ts) t.name.place m.mid high (omega arith) b
    (own_within names t m.mid m.front) (tables_within (names ++ t.name.text ∷ []) ts m.mid high m.back) in
    record { bounds = λ f p h. let x = w.bounds f p (table_from names t ts f p h) in (omega arith, omega arith) }

tables_finds : (names : List (List ℕ)) (tables : List WrittenTable) (low high : ℕ) → Rise low (flat_map names_in tables) high → Finds (FaultFrom names tables) (tables_fault names tables)
tables_finds names [] low high r = finds_none (FaultFrom names []) (no_fault names)
tables_finds names (t ∷ ts) low high r =
    let m = rise_middle (suc t.name.place) high (map (λ c. c.name) t.columns ++ t.key) (flat_map names_in ts) r.1 in
    finds_same (λ f p. OwnFault names t f p ⊎ FaultFrom (names ++ t.name.text ∷ []) ts f p) (FaultFrom names (t ∷ ts))
    (option_or (shape_fault names t) (tables_fault (names ++ t.name.text ∷ []) ts)) (table_to names t ts) (table_from names t ts)
    (finds_or (OwnFault names t) (FaultFrom (names ++ t.name.text ∷ []) ts) (shape_fault names t) (tables_fault (names ++ t.name.text ∷ []) ts) t.name.place m.mid high
    (own_within names t m.mid m.front) (tables_within (names ++ t.name.text ∷ []) ts m.mid high m.back)
    (own_finds names t m.mid m.front) (tables_finds (names ++ t.name.text ∷ []) ts m.mid high m.back))

-- where the walk finds no fault there is none
pub walk_none : (tables : List WrittenTable) (high : ℕ) → Rise 0 (flat_map names_in tables) high → tables_fault [] tables ≡ None
    → (f : Fault) (p : ℕ) → FaultAt tables f p → ⊥
unfolding Finds
walk_none tables high r e = subst (Finds (FaultFrom [] tables)) e (tables_finds [] tables 0 high r)

-- the fault that the walk finds is the first
pub walk_some : (tables : List WrittenTable) (high : ℕ) (f : Fault) (p : ℕ) → Rise 0 (flat_map names_in tables) high → tables_fault [] tables ≡ Some (f, p)
    → FaultAt tables f p × ((g : Fault) (q : ℕ) → FaultAt tables g q → NotLater f p g q)
unfolding Finds
walk_some tables high f p r e = subst (Finds (FaultFrom [] tables)) e (tables_finds [] tables 0 high r)
