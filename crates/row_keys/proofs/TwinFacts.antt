-- The first row that has the key cells of another.
use Rattle.std.proofs.Common.{◌≡◌, ◌≢◌, ◌≤◌, ◌+◌, ◌-◌, ℕ, zero, suc, Bool, true, false, cond, Some, None, List, [], ◌∷◌, ◌++◌, map, take, slice_get, refl, sym, ap, ◌∙◌, arith, add-zero, true≢false}
use Rattle.std.specs.List.{AllByRecursion as Each, position_from}
use Rattle.std.proofs.lemmas.List.{map-append}
use Rattle.nq_model.specs.Orders.{AreDistinct}
use Rattle.nq_model.specs.declared.table.Cell.{Cell}
use Rattle.nq_model.specs.declared.table.TableShape.{TableShape}
use Rattle.nq_model.specs.SchemaTables.{key_of, KeysDiffer}
use Rattle.row_keys.specs.Keys.{first_with, if_keyed, twin_of, IsFirstTwin}
use Rattle.row_keys.proofs.KeyFacts.{cells_eq, cells_Decides}

module _ {X : Type 0} (t : X → Bool) where
  -- the first place at which a test passes, in its own words
  pub record IsFirstAt (xs : List X) (i : ℕ) : Type 0 where
    pub x : X
    pub here : slice_get xs i ≡ Some x
    pub passes : t x ≡ true
    pub before : Each (λ y. t y ≡ false) (take i xs)

  pub position_first : (n m : ℕ) (xs : List X) → position_from t n xs ≡ Some m → (n ≤ m) × IsFirstAt xs (m - n)
  position_first n m [] e = cc
  position_first n m (x ∷ xs) e = by (t x) refl e (position_first (n + 1) m xs)
    where
      by : (b : Bool) → t x ≡ b → cond b (Some n) (position_from t (n + 1) xs) ≡ Some m
          → (position_from t (n + 1) xs ≡ Some m → (n + 1 ≤ m) × IsFirstAt xs (m - (n + 1))) → (n ≤ m) × IsFirstAt (x ∷ xs) (m - n)
      by true passes e later =
          let same : n ≡ m = cc in
          let none : m - n ≡ 0 = omega arith in
          (omega arith, rw none (record { x = x; here = refl; passes = passes; before = tt }))
      by false fails e later =
          let (above, first) = later e in
          let next : m - n ≡ suc (m - (n + 1)) = omega arith in
          (omega arith, rw next (record { x = first.x; here = first.here; passes = first.passes; before = (fails, first.before) }))

  pub first_position : (n i : ℕ) (xs : List X) → IsFirstAt xs i → position_from t n xs ≡ Some (n + i)
  first_position n i [] first = let none = first.here in cc
  first_position n zero (x ∷ xs) first =
      let same : first.x ≡ x = cc in
      rw (← same, first.passes, add-zero n) refl
  first_position n (suc i) (x ∷ xs) first =
      let next : n + 1 + i ≡ n + suc i = omega arith in
      rw (first.before.0, first_position (n + 1) i xs (record { x = first.x; here = first.here; passes = first.passes; before = first.before.1 }), next) refl

  pub position_none : (n : ℕ) (xs : List X) → position_from t n xs ≡ None → Each (λ y. t y ≡ false) xs
  position_none n [] e = tt
  position_none n (x ∷ xs) e = by (t x) refl e (position_none (n + 1) xs)
    where
      by : (b : Bool) → t x ≡ b → cond b (Some n) (position_from t (n + 1) xs) ≡ None
          → (position_from t (n + 1) xs ≡ None → Each (λ y. t y ≡ false) xs) → (t x ≡ false) × Each (λ y. t y ≡ false) xs
      by true passes e later = cc
      by false fails e later = (fails, later e)

  pub none_position : (n : ℕ) (xs : List X) → Each (λ y. t y ≡ false) xs → position_from t n xs ≡ None
  none_position n [] each = refl
  none_position n (x ∷ xs) (one, each) = rw one (none_position (n + 1) xs each)

pub each_weaker : {X : Type 0} (P Q : X → Type 0) → ((x : X) → P x → Q x) → (xs : List X) → Each P xs → Each Q xs
each_weaker P Q f [] each = tt
each_weaker P Q f (x ∷ xs) (one, each) = (f x one, each_weaker P Q f xs each)

pub each_mapped : {X Y : Type 0} (f : X → Y) (P : Y → Type 0) (xs : List X) → Each (λ x. P (f x)) xs → Each P (map f xs)
each_mapped f P [] each = tt
each_mapped f P (x ∷ xs) (one, each) = (one, each_mapped f P xs each)

pub mapped_each : {X Y : Type 0} (f : X → Y) (P : Y → Type 0) (xs : List X) → Each P (map f xs) → Each (λ x. P (f x)) xs
mapped_each f P [] each = tt
mapped_each f P (x ∷ xs) (one, each) = (one, mapped_each f P xs each)

each_more : {X : Type 0} (P : X → Type 0) (xs : List X) (x : X) → Each P xs → P x → Each P (xs ++ x ∷ [])
each_more P [] x each one = (one, tt)
each_more P (y ∷ xs) x (first, each) one = (first, each_more P xs x each one)

each_seam : {X : Type 0} (P : X → Type 0) (xs : List X) (x : X) (ys : List X) → Each P (xs ++ x ∷ ys) → P x
each_seam P [] x ys (one, each) = one
each_seam P (y ∷ xs) x ys (first, each) = each_seam P xs x ys each

-- one element more that differs from all before
pub distinct_more : {X : Type 0} (xs : List X) (x : X) → AreDistinct xs → Each (λ y. y ≢ x) xs → AreDistinct (xs ++ x ∷ [])
distinct_more [] x distinct each = (tt, tt)
distinct_more (y ∷ xs) x (apart, distinct) (one, each) = (each_more (λ z. y ≢ z) xs x apart one, distinct_more xs x distinct each)

-- an element of distinct ones differs from all before
pub distinct_apart : {X : Type 0} (xs : List X) (x : X) (ys : List X) → AreDistinct (xs ++ x ∷ ys) → Each (λ y. y ≢ x) xs
distinct_apart [] x ys distinct = tt
distinct_apart (y ∷ xs) x ys (apart, distinct) = (each_seam (λ z. y ≢ z) xs x ys apart, distinct_apart xs x ys distinct)

module _ (shape : TableShape) where
  abbrev pub Differs : List Cell → List Cell → Type 0
  Differs row other = key_of shape other ≢ key_of shape row

  differs : (row other : List Cell) → cells_eq (key_of shape row) (key_of shape other) ≡ false → Differs row other
  differs row other fails same = true≢false (sym ((cells_Decides (key_of shape row) (key_of shape other)).1 (sym same)) ∙ fails)

  differing : (row other : List Cell) → Differs row other → cells_eq (key_of shape row) (key_of shape other) ≡ false
  differing row other apart = by (cells_eq (key_of shape row) (key_of shape other)) refl
    where
      by : (b : Bool) → cells_eq (key_of shape row) (key_of shape other) ≡ b → b ≡ false
      by true e = absurd (apart (sym ((cells_Decides (key_of shape row) (key_of shape other)).0 e)))
      by false e = refl

  pub no_twin : (row : List Cell) (rows : List (List Cell)) → twin_of shape row rows ≡ None → shape.key ≢ [] → Each (Differs row) rows
  unfolding twin_of
  no_twin row rows none keyed = by shape.key refl none
    where
      by : (names : List (List ℕ)) → shape.key ≡ names → if_keyed names (first_with shape (key_of shape row) rows) ≡ None → Each (Differs row) rows
      by [] e none = absurd (keyed e)
      by (name ∷ names) e none = each_weaker _ (Differs row) (differs row) rows (position_none (λ other. cells_eq (key_of shape row) (key_of shape other)) 1 rows none)

  pub twin_none : (row : List Cell) (rows : List (List Cell)) → (shape.key ≢ [] → Each (Differs row) rows) → twin_of shape row rows ≡ None
  unfolding twin_of
  twin_none row rows apart = by shape.key refl
    where
      by : (names : List (List ℕ)) → shape.key ≡ names → if_keyed names (first_with shape (key_of shape row) rows) ≡ None
      by [] e = refl
      by (name ∷ names) e =
          let keyed : shape.key ≢ [] = λ none. cc in
          none_position (λ other. cells_eq (key_of shape row) (key_of shape other)) 1 rows (each_weaker (Differs row) _ (differing row) rows (apart keyed))

  pub twin_first : (row : List Cell) (rows : List (List Cell)) (m : ℕ) → twin_of shape row rows ≡ Some m → IsFirstTwin shape rows row m
  unfolding twin_of
  twin_first row rows m found = by shape.key refl found
    where
      by : (names : List (List ℕ)) → shape.key ≡ names → if_keyed names (first_with shape (key_of shape row) rows) ≡ Some m → IsFirstTwin shape rows row m
      by [] e found = cc
      by (name ∷ names) e found =
          let (counted, first) = position_first (λ other. cells_eq (key_of shape row) (key_of shape other)) 1 m rows found in
          record {
            keyed = λ none. cc;
            counted = counted;
            twin = first.x;
            here = first.here;
            same = sym ((cells_Decides (key_of shape row) (key_of shape first.x)).0 first.passes);
            first = each_weaker _ (Differs row) (differs row) (take (m - 1) rows) first.before;
          }

  pub first_twin : (row : List Cell) (rows : List (List Cell)) (m : ℕ) → IsFirstTwin shape rows row m → twin_of shape row rows ≡ Some m
  unfolding twin_of
  first_twin row rows m twin = by shape.key refl
    where
      by : (names : List (List ℕ)) → shape.key ≡ names → if_keyed names (first_with shape (key_of shape row) rows) ≡ Some m
      by [] e = absurd (twin.keyed e)
      by (name ∷ names) e =
          let counted = twin.counted in
          let number : 1 + (m - 1) ≡ m = omega arith in
          first_position (λ other. cells_eq (key_of shape row) (key_of shape other)) 1 (m - 1) rows (record {
            x = twin.twin;
            here = twin.here;
            passes = (cells_Decides (key_of shape row) (key_of shape twin.twin)).1 (sym twin.same);
            before = each_weaker (Differs row) _ (differing row) (take (m - 1) rows) twin.first;
          }) ∙ ap Some number

  -- one row more, whose key cells no row before it has
  pub keys_more : (rows : List (List Cell)) (row : List Cell) → KeysDiffer shape rows → twin_of shape row rows ≡ None → KeysDiffer shape (rows ++ row ∷ [])
  keys_more rows row differ none keyed =
      rw (map-append (key_of shape) rows (row ∷ [])) (distinct_more (map (key_of shape) rows) (key_of shape row) (differ keyed)
      (each_mapped (key_of shape) (λ k. k ≢ key_of shape row) rows (no_twin row rows none keyed)))

  -- among rows with different key cells, those before a row
  pub keys_before : (rows : List (List Cell)) (row : List Cell) (more : List (List Cell)) → KeysDiffer shape (rows ++ row ∷ more) → twin_of shape row rows ≡ None
  keys_before rows row more differ =
      twin_none row rows (λ keyed. mapped_each (key_of shape) (λ k. k ≢ key_of shape row) rows
      (distinct_apart (map (key_of shape) rows) (key_of shape row) (map (key_of shape) more) (rw (map-append (key_of shape) rows (row ∷ more)) at (differ keyed))))
