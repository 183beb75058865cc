-- The names of a written schema: their places rise, and each is a word.
use Rattle.std.proofs.Common.{◌≡◌, ◌≢◌, ℕ, zero, suc, ◌≤◌, ◌<◌, true, false, ◌||◌, ◌&&◌, nat_le, List, [], ◌∷◌, ◌++◌, map, length, refl, sym, ◌∙◌, ap, subst, append-nil, arith, inl, inr, true≢false, Contains}
use Rattle.std.specs.List.{AllByRecursion as Each, AllZip, flat_map, slice_index_or}
use Rattle.std.proofs.lemmas.List.Elements.{All-from_recursion}
use Rattle.nq_model.specs.Orders.{AreDistinct}
use Rattle.nq_model.specs.Proper.{IsQueryWord}
use Rattle.nq_model.specs.Tables.{names_of, IsProperName, IsProperShape, IsProperSchema}
use Rattle.nq_model.specs.SchemaTokens.{Mark, Symbol, Token, IsWord, is_word_byte}
use Rattle.nq_model.specs.SchemaTexts.{Name, WrittenColumn, WrittenTable, Slot, Fills, mark_slot, with_commas, column_slots, key_slots, table_slots, schema_slots, IsSymbol, shape_of, schema_of, Fault, FaultAt, StandsBehind, table_names, column_names, key_names}
use Rattle.schema_reader.specs.Shapes.{has}
use Rattle.schema_reader.specs.Words.{HasQueryWords, HaveQueryWords}
use Rattle.schema_reader.proofs.Truths.{Truth, yes', no', truth}
use Rattle.schema_reader.proofs.Cuts.{Ascend, AreSymbols}
use Rattle.schema_reader.proofs.Conditions.{Rise, names_in, contains_here, contains_there, has_is, has_from}

-- the names among slots
abbrev named : List Slot → List Name
named [] = []
named (Slot.sign s ∷ xs) = named xs
named (Slot.name n ∷ xs) = n ∷ named xs

named-append : (xs ys : List Slot) → named (xs ++ ys) ≡ named xs ++ named ys
named-append [] ys = refl
named-append (Slot.sign s ∷ xs) ys = named-append xs ys
named-append (Slot.name n ∷ xs) ys = ap (λ z. n ∷ z) (named-append xs ys)

-- parts of one name each
named_parts : {A : Type 0} (f : A → List Slot) (name : A → Name) → ((x : A) → named (f x) ≡ name x ∷ []) → (xs : List A) → named (with_commas (map f xs)) ≡ map name xs
named_parts f name one [] = refl
named_parts {A} f name one (x ∷ xs) =
    named-append (f x) (flat_map (λ more. mark_slot Mark.comma ∷ more) (map f xs))
    ∙ ap (λ z. z ++ named (flat_map (λ more. mark_slot Mark.comma ∷ more) (map f xs))) (one x)
    ∙ ap (λ z. name x ∷ z) (others xs)
  where
    others : (ys : List A) → named (flat_map (λ more. mark_slot Mark.comma ∷ more) (map f ys)) ≡ map name ys
    others [] = refl
    others (y ∷ ys) =
        named-append (f y) (flat_map (λ more. mark_slot Mark.comma ∷ more) (map f ys))
        ∙ ap (λ z. z ++ named (flat_map (λ more. mark_slot Mark.comma ∷ more) (map f ys))) (one y)
        ∙ ap (λ z. name y ∷ z) (others ys)

map_same : (ns : List Name) → map (λ n. n) ns ≡ ns
map_same [] = refl
map_same (n ∷ ns) = ap (λ z. n ∷ z) (map_same ns)

named_key : (ks : List Name) → named (key_slots ks) ≡ ks
named_key [] = refl
named_key (k ∷ ks) =
    named-append (with_commas (map (λ m. Slot.name m ∷ []) (k ∷ ks))) (mark_slot Mark.closing ∷ [])
    ∙ append-nil (named (with_commas (map (λ m. Slot.name m ∷ []) (k ∷ ks))))
    ∙ named_parts (λ m. Slot.name m ∷ []) (λ m. m) (λ m. refl) (k ∷ ks) ∙ map_same (k ∷ ks)

named_table : (t : WrittenTable) → named (table_slots t) ≡ names_in t
named_table t =
    ap (λ z. t.name ∷ z)
    (named-append (with_commas (map column_slots t.columns)) (key_slots t.key ++ mark_slot Mark.closing ∷ mark_slot Mark.semicolon ∷ [])
    ∙ ap (λ z. named (with_commas (map column_slots t.columns)) ++ z)
    (named-append (key_slots t.key) (mark_slot Mark.closing ∷ mark_slot Mark.semicolon ∷ []) ∙ append-nil (named (key_slots t.key)) ∙ named_key t.key)
    ∙ ap (λ z. z ++ t.key) (named_parts column_slots (λ c. c.name) (λ c. refl) t.columns))

pub named_schema : (tables : List WrittenTable) → named (schema_slots tables) ≡ flat_map names_in tables
named_schema tables = named-append (flat_map table_slots tables) (Slot.sign Symbol.end ∷ []) ∙ append-nil (named (flat_map table_slots tables)) ∙ each tables
  where
    each : (ts : List WrittenTable) → named (flat_map table_slots ts) ≡ flat_map names_in ts
    each [] = refl
    each (t ∷ ts) = named-append (table_slots t) (flat_map table_slots ts) ∙ ap (λ z. z ++ named (flat_map table_slots ts)) (named_table t) ∙ ap (λ z. names_in t ++ z) (each ts)

rise_below : (low low' high : ℕ) (ns : List Name) → low' ≤ low → Rise low ns high → Rise low' ns high
rise_below low low' high [] l r = omega arith
rise_below low low' high (n ∷ ns) l r = (let h = r.0 in omega arith, r.1)

named_rise : (low high : ℕ) (xs : List Slot) (ts : List Token) → AllZip Fills xs ts → Ascend low ts high → Rise low (named xs) high
named_rise low high [] [] a r = r
named_rise low high [] (t ∷ ts) a r = absurd a
named_rise low high (x ∷ xs) [] a r = absurd a
named_rise low high (Slot.sign s ∷ xs) (t ∷ ts) a r = rise_below (suc t.place) low high (named xs) (let h = r.0 in omega arith) (named_rise (suc t.place) high xs ts a.1 r.1)
named_rise low high (Slot.name n ∷ xs) (t ∷ ts) a r =
    let e : t.place ≡ n.place = ap (λ z. z.place) a.0 in
    (subst (λ z. low ≤ z) e r.0, subst (λ z. Rise (suc z) (named xs) high) e (named_rise (suc t.place) high xs ts a.1 r.1))

abbrev pub AreWords : List Name → Type 0
AreWords ns = Each (λ n. IsWord n.text) ns

named_words : (xs : List Slot) (ts : List Token) → AllZip Fills xs ts → AreSymbols ts → AreWords (named xs)
named_words [] [] a s = tt
named_words [] (t ∷ ts) a s = absurd a
named_words (x ∷ xs) [] a s = absurd a
named_words (Slot.sign y ∷ xs) (t ∷ ts) a s = named_words xs ts a.1 s.1
named_words (Slot.name n ∷ xs) (t ∷ ts) a s = (subst (λ z. IsSymbol z) (ap (λ z. z.symbol) a.0) s.0, named_words xs ts a.1 s.1)

pub schema_rise : (tables : List WrittenTable) (ts : List Token) (high : ℕ) → AllZip Fills (schema_slots tables) ts → Ascend 0 ts high → Rise 0 (flat_map names_in tables) high
schema_rise tables ts high a r = subst (λ z. Rise 0 z high) (named_schema tables) (named_rise 0 high (schema_slots tables) ts a r)

pub schema_words : (tables : List WrittenTable) (ts : List Token) → AllZip Fills (schema_slots tables) ts → AreSymbols ts → AreWords (flat_map names_in tables)
schema_words tables ts a s = subst AreWords (named_schema tables) (named_words (schema_slots tables) ts a s)

each_front : {A : Type 0} (P : A → Type 0) (xs ys : List A) → Each P (xs ++ ys) → Each P xs
each_front P [] ys e = tt
each_front P (x ∷ xs) ys e = (e.0, each_front P xs ys e.1)

each_back : {A : Type 0} (P : A → Type 0) (xs ys : List A) → Each P (xs ++ ys) → Each P ys
each_back P [] ys e = e
each_back P (x ∷ xs) ys e = each_back P xs ys e.1

each_map : {A B : Type 0} (P : B → Type 0) (f : A → B) (xs : List A) → Each (λ x. P (f x)) xs → Each P (map f xs)
each_map P f [] e = tt
each_map P f (x ∷ xs) e = (e.0, each_map P f xs e.1)

each_unmap : {A B : Type 0} (P : B → Type 0) (f : A → B) (xs : List A) → Each P (map f xs) → Each (λ x. P (f x)) xs
each_unmap P f [] e = tt
each_unmap P f (x ∷ xs) e = (e.0, each_unmap P f xs e.1)

-- what holds of each element in its place
each_from : {A : Type 0} (P : A → Type 0) (xs : List A) → ((before : List A) (x : A) → StandsBehind xs before x → P x) → Each P xs
each_from P [] h = tt
each_from P (x ∷ xs) h = (h [] x (xs, refl), each_from P xs (λ before y s. h (x ∷ before) y (s.0, ap (λ z. x ∷ z) s.1)))

-- no byte of a word is another
no_byte : (b : ℕ) → is_word_byte b ≡ false → (w : List ℕ) → Each (λ c. is_word_byte c ≡ true) w → Contains w b → ⊥
no_byte b n [] e c = let h = c.1 in omega arith
no_byte b n (x ∷ xs) e c = go c.0 c.1 c.2 (no_byte b n xs e.1)
  where
    go : (k : ℕ) → k < length (x ∷ xs) → slice_index_or (x ∷ xs) k b ≡ b → (Contains xs b → ⊥) → ⊥
    go zero l same r = true≢false (sym e.0 ∙ ap is_word_byte same ∙ n)
    go (suc k) l same r = r (k, omega arith, same)

word_bytes : (w : List ℕ) → IsWord w → Each (λ c. is_word_byte c ≡ true) w
word_bytes [] h = absurd h
word_bytes (b ∷ bs) h = (ap (λ t. t || (nat_le 48 b && nat_le b 57)) h.0, h.1)

word_proper : (w : List ℕ) → IsWord w → (64 < length w → ⊥) → IsProperName w
word_proper [] h n = absurd h
word_proper (b ∷ bs) h n = record {
  some_byte = omega arith;
  short = omega arith;
  no_quote = no_byte 34 refl (b ∷ bs) (word_bytes (b ∷ bs) h);
  no_dot = no_byte 46 refl (b ∷ bs) (word_bytes (b ∷ bs) h);
}

stands_more : {A : Type 0} (x y : A) (xs before : List A) → StandsBehind xs before y → StandsBehind (x ∷ xs) (x ∷ before) y
stands_more x y xs before s = (s.0, ap (λ z. x ∷ z) s.1)

stands_contains : {A : Type 0} (xs before : List A) (x : A) → StandsBehind xs before x → Contains xs x
stands_contains {A} xs before x s = subst (λ z. Contains z x) (sym s.1) (within before)
  where
    within : (bs : List A) → Contains (bs ++ x ∷ s.0) x
    within [] = contains_here x s.0
    within (b ∷ bs) = contains_there b x (bs ++ x ∷ s.0) (within bs)

each_at : {A : Type 0} (P : A → Type 0) (xs before : List A) (x : A) → Each P xs → StandsBehind xs before x → P x
each_at {A} P xs before x e s = within before (subst (Each P) s.1 e)
  where
    within : (bs : List A) → Each P (bs ++ x ∷ s.0) → P x
    within [] h = h.0
    within (b ∷ bs) h = within bs h.1

distinct_from : (xs : List (List ℕ)) → ((before : List (List ℕ)) (x : List ℕ) → StandsBehind xs before x → Contains before x → ⊥) → AreDistinct xs
distinct_from [] h = tt
distinct_from (x ∷ xs) h = (
  each_from (λ y. x ≢ y) xs (λ before y s e. h (x ∷ before) y (stands_more x y xs before s) (subst (λ z. Contains (x ∷ before) z) e (contains_here x before))),
  distinct_from xs (λ before y s c. h (x ∷ before) y (stands_more x y xs before s) (contains_there x y before c)),
)

record Mapped {A B : Type 0} (f : A → B) (xs : List A) (before : List B) (y : B) : Type 0 where
  front : List A
  at : A
  stands : StandsBehind xs front at
  fronts : map f front ≡ before
  same : f at ≡ y

stands_map : {A B : Type 0} (f : A → B) (xs : List A) (before : List B) (y : B) → StandsBehind (map f xs) before y → Mapped f xs before y
stands_map f [] [] y s = let h = s.1 in absurd (cc)
stands_map f [] (b ∷ bs) y s = let h = s.1 in absurd (cc)
stands_map f (x ∷ xs) [] y s =
    let h = s.1 in
    record { front = []; at = x; stands = (xs, refl); fronts = refl; same = cc }
stands_map f (x ∷ xs) (b ∷ bs) y s =
    let h = s.1 in
    let first : f x ≡ b = cc in
    let rest : map f xs ≡ bs ++ y ∷ s.0 = cc in
    let m = stands_map f xs bs y (s.0, rest) in
    record { front = x ∷ m.front; at = m.at; stands = stands_more x m.at xs m.front m.stands; fronts = cc (first, m.fronts); same = m.same }

map_map : {A B C : Type 0} (f : A → B) (g : B → C) (xs : List A) → map g (map f xs) ≡ map (λ x. g (f x)) xs
map_map f g [] = refl
map_map f g (x ∷ xs) = ap (λ z. g (f x) ∷ z) (map_map f g xs)

tables_words : (tables : List WrittenTable) → AreWords (flat_map names_in tables) → Each (λ t. AreWords (names_in t)) tables
tables_words [] w = tt
tables_words (t ∷ ts) w =
    (each_front (λ n. IsWord n.text) (names_in t) (flat_map names_in ts) w, tables_words ts (each_back (λ n. IsWord n.text) (names_in t) (flat_map names_in ts) w))

module _ (tables : List WrittenTable) (words : AreWords (flat_map names_in tables)) (faultless : (f : Fault) (p : ℕ) → FaultAt tables f p → ⊥) where
  no_twin_column : (t : WrittenTable) → Contains tables t → AreDistinct (column_names t.columns)
  no_twin_column t c = distinct_from (column_names t.columns) (λ before x s k.
      let m = stands_map (λ (d : WrittenColumn). d.name.text) t.columns before x s in
      faultless Fault.twice_column m.at.name.place
      (inr (
        t,
        c,
        inl (
          m.front,
          m.at,
          m.stands,
          subst (λ z. Contains z m.at.name.text) (sym m.fronts) (subst (λ z. Contains before z) (sym m.same) k),
          refl,
        ),
      )))

  no_twin_key : (t : WrittenTable) → Contains tables t → AreDistinct (key_names t.key)
  no_twin_key t c = distinct_from (key_names t.key) (λ before x s k.
      let m = stands_map (λ (n : Name). n.text) t.key before x s in
      faultless Fault.key_column m.at.place
      (inr (
        t,
        c,
        inr (
          m.front,
          m.at,
          m.stands,
          inr (subst (λ z. Contains z m.at.text) (sym m.fronts) (subst (λ z. Contains before z) (sym m.same) k)),
          refl,
        ),
      )))

  short_columns : (t : WrittenTable) → Contains tables t → AreWords (map (λ d. d.name) t.columns) → Each (λ d. IsProperName d.name.text) t.columns
  short_columns t c w = each_from (λ d. IsProperName d.name.text) t.columns (λ before d s.
      word_proper d.name.text (each_at (λ e. IsWord e.name.text) t.columns before d (each_unmap (λ n. IsWord n.text) (λ e. e.name) t.columns w) s)
      (λ l. faultless Fault.over_limit d.name.place (inr (t, c, inl (before, d, s, inr l, refl)))))

  key_within : (t : WrittenTable) → Contains tables t → Each (λ n. Contains (column_names t.columns) n.text) t.key
  key_within t c = each_from (λ n. Contains (column_names t.columns) n.text) t.key (λ before n s. at before n s (truth (has (column_names t.columns) n.text)))
    where
      at : (before : List Name) (n : Name) → StandsBehind t.key before n → Truth (has (column_names t.columns) n.text) → Contains (column_names t.columns) n.text
      at before n s (yes' h) = has_is (column_names t.columns) n.text h
      at before n s (no' h) = absurd (faultless Fault.key_column n.place (inr (t, c, inr (before, n, s, inl (λ k. true≢false (sym (has_from (column_names t.columns) n.text k) ∙ h)), refl))))

  names_same : (t : WrittenTable) → names_of (shape_of t).columns ≡ column_names t.columns
  names_same t = map_map (λ d. (d.name.text, d.kind)) (λ z. z.0) t.columns

  shape_proper : (before : List WrittenTable) (t : WrittenTable) → StandsBehind tables before t → IsProperShape (shape_of t)
  shape_proper before t s =
      let c = stands_contains tables before t s in
      let w = each_at (λ u. AreWords (names_in u)) tables before t (tables_words tables words) s in
      let columns : Each IsProperName (names_of (shape_of t).columns) =
      subst (Each IsProperName) (sym (names_same t)) (each_map IsProperName (λ d. d.name.text) t.columns (short_columns t c (each_front (λ n. IsWord n.text) (map (λ d. d.name) t.columns) t.key w.1))) in
      let within : Each (Contains (names_of (shape_of t).columns)) (shape_of t).key =
      each_map (Contains (names_of (shape_of t).columns)) (λ n. n.text) t.key (subst (λ z. Each (λ n. Contains z n.text) t.key) (sym (names_same t)) (key_within t c)) in
      record {
        named = word_proper t.name.text w.0 (λ l. faultless Fault.over_limit t.name.place (inl (before, t, s, inr l, refl)));
        columns_named = All-from_recursion IsProperName (names_of (shape_of t).columns) columns;
        columns_differ = subst AreDistinct (sym (names_same t)) (no_twin_column t c);
        key_of_columns = All-from_recursion (Contains (names_of (shape_of t).columns)) (shape_of t).key within;
        key_differs = no_twin_key t c;
      }

  -- a written schema in which no fault stands is proper
  pub schema_proper : IsProperSchema (schema_of tables)
  schema_proper = record {
    tables_differ = subst AreDistinct (sym (map_map shape_of (λ s. s.name) tables))
        (distinct_from (table_names tables) (λ before x s k.
        let m = stands_map (λ (t : WrittenTable). t.name.text) tables before x s in
        faultless Fault.twice_table m.at.name.place (inl (
          m.front,
          m.at,
          m.stands,
          subst (λ z. Contains z m.at.name.text) (sym m.fronts) (subst (λ z. Contains before z) (sym m.same) k),
          refl,
        ))));
    proper = All-from_recursion IsProperShape (map shape_of tables) (each_map IsProperShape shape_of tables (each_from (λ t. IsProperShape (shape_of t)) tables shape_proper));
  }

  -- a written schema in which no fault stands has words of at most 64 bytes for names
  query_word : (w : List ℕ) → IsWord w → (64 < length w → ⊥) → IsQueryWord w
  query_word w h n = record { word = h; short = omega arith }

  columns_query_words : (t : WrittenTable) → Contains tables t → AreWords (map (λ d. d.name) t.columns) → Each (λ d. IsQueryWord d.name.text) t.columns
  columns_query_words t c w = each_from (λ d. IsQueryWord d.name.text) t.columns (λ before d s.
      query_word d.name.text (each_at (λ e. IsWord e.name.text) t.columns before d (each_unmap (λ n. IsWord n.text) (λ e. e.name) t.columns w) s)
      (λ l. faultless Fault.over_limit d.name.place (inr (t, c, inl (before, d, s, inr l, refl)))))

  shape_query_words : (before : List WrittenTable) (t : WrittenTable) → StandsBehind tables before t → HasQueryWords (shape_of t)
  shape_query_words before t s =
      let w = each_at (λ u. AreWords (names_in u)) tables before t (tables_words tables words) s in (
        query_word t.name.text w.0 (λ l. faultless Fault.over_limit t.name.place (inl (before, t, s, inr l, refl))),
        subst (Each IsQueryWord) (sym (names_same t))
            (each_map IsQueryWord (λ d. d.name.text) t.columns (columns_query_words t (stands_contains tables before t s) (each_front (λ n. IsWord n.text) (map (λ d. d.name) t.columns) t.key w.1))),
      )

  pub schema_query_words : HaveQueryWords (schema_of tables)
  schema_query_words = each_map HasQueryWords shape_of tables (each_from (λ t. HasQueryWords (shape_of t)) tables shape_query_words)
