-- What an index of first rows finds, by the codes of keys.
use Rattle.std.proofs.Common.{◌≡◌, ◌<◌, ◌+◌, ◌-◌, ◌==◌, ℕ, suc, List, [], ◌∷◌, ◌++◌, length, get_or, map, option_map, Option, Some, None, Bool, true, false, cond, ap, sym, ◌∙◌, refl, arith, add-one, true≢false}
use Rattle.std.specs.List.{position_from}
use Rattle.std.specs.Option.{option_or}
use Rattle.std.specs.BTreeMap.{get, insert_entry}
use Rattle.std.proofs.lemmas.Bool.{eq-eqb, eqb-true, ne_eqb}
use Rattle.std.proofs.lemmas.Option.{get_or_from_slice_get, slice_get_within}
use Rattle.nq_model.specs.declared.table.Cell.{Cell}
use Rattle.nq_model.specs.declared.table.TableShape.{TableShape}
use Rattle.nq_model.specs.SchemaTables.{key_of}
use Rattle.row_keys.specs.Codes.{key_code}
use Rattle.row_keys.specs.CodeMaps.{place_under}
use Rattle.row_keys.specs.Keys.{first_with}
use Rattle.row_keys.specs.FirstRows.{cell_of_key, cells_of_key, key_places, place_with, place_coded, other_than, cells_at, Indexes, Enters}
use Rattle.row_keys.specs.declared.keys.KeyIndex.{KeyIndex}
use Rattle.row_keys.proofs.KeyFacts.{Key, key_cmp, cells_eq, cells_Decides, found, found_at, found_entered, position_later, position-append, places_key}
use Rattle.row_keys.proofs.TwinFacts.{IsFirstAt, position_first, first_position, position_none, none_position, each_weaker}

nothing_more : {A : Type 0} (o : Option A) → o ≡ option_or o None
nothing_more None = refl
nothing_more (Some x) = refl

module _ {X : Type 0} (t : X → Bool) where
  -- the first place in a list of one element more
  position_more : (xs : List X) (x : X) → position_from t 0 (xs ++ x ∷ []) ≡ option_or (position_from t 0 xs) (cond (t x) (Some (length xs)) None)
  position_more xs x =
      let e : 0 + length xs ≡ length xs = omega arith in
      position-append t 0 xs (x ∷ []) ∙ rw e refl

  -- the element at the first place
  at_first : (m : ℕ) (xs : List X) → position_from t 0 xs ≡ Some m → IsFirstAt t xs m
  at_first m xs e =
      let same : m - 0 ≡ m = omega arith in
      rw same at ((position_first t 0 m xs e).1)

-- a test that passes only where another does
module _ {X : Type 0} (t s : X → Bool) (within : (x : X) → t x ≡ true → s x ≡ true) where
  fails_within : (x : X) → s x ≡ false → t x ≡ false
  fails_within x fails = by (t x) refl
    where
      by : (b : Bool) → t x ≡ b → b ≡ false
      by true passes = absurd (true≢false (sym (within x passes) ∙ fails))
      by false e = refl

  none_within : (xs : List X) → position_from s 0 xs ≡ None → position_from t 0 xs ≡ None
  none_within xs none = none_position t 0 xs (each_weaker (λ x. s x ≡ false) (λ x. t x ≡ false) fails_within xs (position_none s 0 xs none))

  first_within : (m : ℕ) (xs : List X) (d : X) → position_from s 0 xs ≡ Some m → t (get_or xs m d) ≡ true → position_from t 0 xs ≡ Some m
  first_within m xs d e passes =
      let first = at_first s m xs e in
      let same : get_or xs m d ≡ first.x = get_or_from_slice_get xs m first.x d first.here in
      let number : 0 + m ≡ m = omega arith in
      first_position t 0 m xs (record {
        x = first.x;
        here = first.here;
        passes = rw same at passes;
        before = each_weaker (λ x. s x ≡ false) (λ x. t x ≡ false) fails_within _ first.before;
      }) ∙ ap Some number

module _ (shape : TableShape) where
  -- whether a row has key cells
  abbrev has_key : List Cell → List Cell → Bool
  has_key key row = cells_eq key (key_of shape row)

  -- whether the key of a row has a code
  abbrev has_code : ℕ → List Cell → Bool
  has_code code row = key_code (key_of shape row) == code

  -- equal keys have one code
  one_code : (key : List Cell) (row : List Cell) → has_key key row ≡ true → has_code (key_code key) row ≡ true
  one_code key row same = eq-eqb (key_code (key_of shape row)) (key_code key) (ap key_code (sym ((cells_Decides key (key_of shape row)).0 same)))

  -- no row has a key whose code none has
  no_code : (key : List Cell) (rows : List (List Cell)) → place_coded shape (key_code key) rows ≡ None → place_with shape key rows ≡ None
  no_code key rows = none_within (has_key key) (has_code (key_code key)) (one_code key) rows

  -- the first row with a code is the first with its own key
  first_code : (key : List Cell) (rows : List (List Cell)) (m : ℕ) → place_coded shape (key_code key) rows ≡ Some m → has_key key (get_or rows m []) ≡ true
      → place_with shape key rows ≡ Some m
  first_code key rows m = λ e passes. first_within (has_key key) (has_code (key_code key)) (one_code key) m rows [] e passes

  -- a row with another key is not the first with a key
  other_row : (key : List Cell) (rows : List (List Cell)) (m n : ℕ) → has_key key (get_or rows m []) ≡ false → place_with shape key rows ≡ Some n → (m == n) ≡ false
  other_row key rows m n other e = ne_eqb m n (λ same.
      let first = at_first (has_key key) n rows e in
      let here : get_or rows n [] ≡ first.x = get_or_from_slice_get rows n first.x [] first.here in
      true≢false (sym first.passes ∙ ap (has_key key) (sym here) ∙ ap (λ i. has_key key (get_or rows i [])) (sym same) ∙ other))

  -- the number of a row is one more than its place
  numbered : (key : List Cell) (rows : List (List Cell)) → first_with shape key rows ≡ option_map suc (place_with shape key rows)
  numbered key rows = position_later (has_key key) 0 rows

  module _ (rows : List (List Cell)) (row : List Cell) where
    abbrev own_key : List Cell
    own_key = key_of shape row

    with_more : (key : List Cell) → place_with shape key (rows ++ row ∷ []) ≡ option_or (place_with shape key rows) (cond (has_key key row) (Some (length rows)) None)
    with_more key = position_more (has_key key) rows row

    coded_more : (code : ℕ) → place_coded shape code (rows ++ row ∷ []) ≡ option_or (place_coded shape code rows) (cond (has_code code row) (Some (length rows)) None)
    coded_more code = position_more (has_code code) rows row

    own_with : (key : List Cell) → has_key key row ≡ true → key ≡ own_key
    own_with key same = (cells_Decides key own_key).0 same

    own_code : (code : ℕ) → has_code code row ≡ true → code ≡ key_code own_key
    own_code code same = sym (eqb-true (key_code own_key) code same)

    -- after a row whose code no row before has
    coded_new : (code : ℕ) → place_coded shape (key_code own_key) rows ≡ None
        → cond (has_code code row) (Some (length rows)) (place_coded shape code rows) ≡ place_coded shape code (rows ++ row ∷ [])
    coded_new code none = rw (coded_more code) (by (has_code code row) refl)
      where
        by : (b : Bool) → has_code code row ≡ b → cond b (Some (length rows)) (place_coded shape code rows) ≡ option_or (place_coded shape code rows) (cond b (Some (length rows)) None)
        by true same =
            let nothing : place_coded shape code rows ≡ None = ap (λ c. place_coded shape c rows) (own_code code same) ∙ none in
            rw nothing refl
        by false other = nothing_more (place_coded shape code rows)

    -- after a row whose code a row before has
    coded_old : (code : ℕ) (first : ℕ) → place_coded shape (key_code own_key) rows ≡ Some first → place_coded shape code rows ≡ place_coded shape code (rows ++ row ∷ [])
    coded_old code first is = rw (coded_more code) (by (has_code code row) refl)
      where
        by : (b : Bool) → has_code code row ≡ b → place_coded shape code rows ≡ option_or (place_coded shape code rows) (cond b (Some (length rows)) None)
        by true same =
            let there : place_coded shape code rows ≡ Some first = ap (λ c. place_coded shape c rows) (own_code code same) ∙ is in
            rw there refl
        by false other = nothing_more (place_coded shape code rows)

    -- the other rows stay, for a key that the new row does not have
    others_stay : (key : List Cell) → has_key key row ≡ false
        → other_than (place_coded shape (key_code key) rows) (place_with shape key rows)
        ≡ other_than (place_coded shape (key_code key) (rows ++ row ∷ [])) (place_with shape key (rows ++ row ∷ []))
    others_stay key other = rw (with_more key, coded_more (key_code key), other) (by (place_coded shape (key_code key) rows) refl)
      where
        by : (coded : Option ℕ) → place_coded shape (key_code key) rows ≡ coded
            → other_than coded (place_with shape key rows)
            ≡ other_than (option_or coded (cond (has_code (key_code key) row) (Some (length rows)) None)) (option_or (place_with shape key rows) None)
        by (Some m) is = rw (sym (nothing_more (place_with shape key rows))) refl
        by None is = rw (no_code key rows is) refl

    -- no other row, where the new row's code is new
    others_new : (key : List Cell) → place_coded shape (key_code own_key) rows ≡ None
        → other_than (place_coded shape (key_code key) rows) (place_with shape key rows)
        ≡ other_than (place_coded shape (key_code key) (rows ++ row ∷ [])) (place_with shape key (rows ++ row ∷ []))
    others_new key none = by (has_key key row) refl
      where
        by : (b : Bool) → has_key key row ≡ b
            → other_than (place_coded shape (key_code key) rows) (place_with shape key rows)
            ≡ other_than (place_coded shape (key_code key) (rows ++ row ∷ [])) (place_with shape key (rows ++ row ∷ []))
        by true same =
            let coded : place_coded shape (key_code key) rows ≡ None = ap (λ k. place_coded shape (key_code k) rows) (own_with key same) ∙ none in
            let itself : (length rows == length rows) ≡ true = eq-eqb (length rows) (length rows) refl in
            rw (with_more key, coded_more (key_code key), same, one_code key row same, no_code key rows coded, coded, itself) refl
        by false other = others_stay key other

    -- the new row is another, where the first with its code has another key
    others_more : (key : List Cell) (first : ℕ) → place_coded shape (key_code own_key) rows ≡ Some first → place_with shape own_key rows ≡ None
        → cond (has_key key row) (Some (length rows)) (other_than (place_coded shape (key_code key) rows) (place_with shape key rows))
        ≡ other_than (place_coded shape (key_code key) (rows ++ row ∷ [])) (place_with shape key (rows ++ row ∷ []))
    others_more key first is none = by (has_key key row) refl
      where
        by : (b : Bool) → has_key key row ≡ b
            → cond b (Some (length rows)) (other_than (place_coded shape (key_code key) rows) (place_with shape key rows))
            ≡ other_than (place_coded shape (key_code key) (rows ++ row ∷ [])) (place_with shape key (rows ++ row ∷ []))
        by true same =
            let coded : place_coded shape (key_code key) rows ≡ Some first = ap (λ k. place_coded shape (key_code k) rows) (own_with key same) ∙ is in
            let nothing : place_with shape key rows ≡ None = ap (λ k. place_with shape k rows) (own_with key same) ∙ none in
            let before : first < length rows = slice_get_within rows first _ ((at_first (has_code (key_code own_key)) first rows is).here) in
            let apart : (first == length rows) ≡ false = ne_eqb first (length rows) (λ e. omega arith) in
            rw (with_more key, coded_more (key_code key), same, nothing, coded, apart) refl
        by false other = others_stay key other

-- an index that is empty
pub indexes_none : (shape : TableShape) (index : KeyIndex) → index.columns.items ≡ key_places shape → ((code : ℕ) → place_under index.first_rows code ≡ None) → index.others.entries ≡ [] → Indexes shape [] index
indexes_none shape index columns first_rows others = record { columns = columns; finds = first_rows; others = λ key. rw others refl }

-- the key of a row, and its code, by the columns of an index
module _ (shape : TableShape) (rows : List (List Cell)) (old : KeyIndex) (index : Indexes shape rows old) where
  key_at : (row : List Cell) → cells_at row old.columns.items ≡ key_of shape row
  key_at row = ap (cells_at row) index.columns ∙ places_key shape row

  module _ (row : List Cell) (code : ℕ) (is : code ≡ key_code (cells_at row old.columns.items)) where
    code_at : code ≡ key_code (key_of shape row)
    code_at = is ∙ ap key_code (key_at row)

    -- what the code of the row finds
    finds_own : (told : Option ℕ) → told ≡ place_under old.first_rows code → told ≡ place_coded shape (key_code (key_of shape row)) rows
    finds_own told tells = tells ∙ index.finds code ∙ ap (λ c. place_coded shape c rows) code_at

    -- a row whose code no row before has
    pub entered_first : (new : KeyIndex) (place : ℕ) → None ≡ place_under old.first_rows code
        → place ≡ length rows → new.columns ≡ old.columns → new.others ≡ old.others
        → ((q : ℕ) → place_under new.first_rows q ≡ cond (code == q) (Some place) (place_under old.first_rows q))
        → Enters shape rows row new None
    entered_first new place tells counted same others updated = (
      numbered shape (key_of shape row) rows ∙ ap (option_map suc) (no_code shape (key_of shape row) rows none),
      record {
        columns = ap (λ v. v.items) same ∙ index.columns;
        finds = λ q. updated q ∙ rw (tested q, index.finds q, counted) (coded_new shape rows row q none);
        others = λ q. ap (λ m. found q m.entries) others ∙ index.others q ∙ others_new shape rows row q none;
      },
    )
      where
        none : place_coded shape (key_code (key_of shape row)) rows ≡ None
        none = sym (finds_own None tells)

        tested : (q : ℕ) → (code == q) ≡ has_code shape q row
        tested q = ap (λ c. c == q) code_at

    module _ (first : ℕ) (tells : Some first ≡ place_under old.first_rows code) (key first_key : Key)
        (copied : map cell_of_key key.items ≡ cells_at row old.columns.items)
        (first_copied : map cell_of_key first_key.items ≡ cells_at (get_or rows first []) old.columns.items) where
      own : cells_of_key key ≡ key_of shape row
      own = copied ∙ key_at row

      coded : place_coded shape (key_code (key_of shape row)) rows ≡ Some first
      coded = sym (finds_own (Some first) tells)

      tested_first : cells_eq (cells_of_key key) (cells_of_key first_key) ≡ has_key shape (key_of shape row) (get_or rows first [])
      tested_first = rw (own, first_copied, key_at (get_or rows first [])) refl

      -- a row whose key the first row with its code has
      pub told_first : (new : KeyIndex) → cells_eq (cells_of_key key) (cells_of_key first_key) ≡ true → Enters shape rows row new (Some (first + 1))
      told_first new same = numbered shape (key_of shape row) rows
          ∙ ap (option_map suc) (first_code shape (key_of shape row) rows first coded (sym tested_first ∙ same)) ∙ rw (add-one first) refl

      -- a row that has the code of a row with another key
      pub entered_other : (new : KeyIndex) (place : ℕ) (told : Option ℕ) → cells_eq (cells_of_key key) (cells_of_key first_key) ≡ false
          → place ≡ length rows → told ≡ get key_cmp old.others key → new.columns ≡ old.columns → new.first_rows ≡ old.first_rows
          → new.others.entries ≡ insert_entry key_cmp old.others.entries key place
          → Enters shape rows row new (option_map (λ at. at + 1) told)
      entered_other new place told other counted told_is same firsts inserted = by (place_with shape (key_of shape row) rows) refl
        where
          told_with : told ≡ other_than (Some first) (place_with shape (key_of shape row) rows)
          told_with = told_is ∙ found_at key old.others.entries ∙ index.others (cells_of_key key)
              ∙ rw own (rw coded refl)

          by : (o : Option ℕ) → place_with shape (key_of shape row) rows ≡ o → Enters shape rows row new (option_map (λ at. at + 1) told)
          by (Some n) is =
              let apart : (first == n) ≡ false = other_row shape (key_of shape row) rows first n (sym tested_first ∙ other) is in
              let told_n : told ≡ Some n = told_with ∙ rw (is, apart) refl in
              rw told_n (numbered shape (key_of shape row) rows ∙ ap (option_map suc) is ∙ rw (add-one n) refl)
          by None is =
              let told_none : told ≡ None = told_with ∙ rw is refl in
              rw told_none (
                numbered shape (key_of shape row) rows ∙ ap (option_map suc) is,
                record {
                  columns = ap (λ v. v.items) same ∙ index.columns;
                  finds = λ q. ap (λ m. place_under m q) firsts ∙ index.finds q ∙ coded_old shape rows row q first coded;
                  others = λ q. ap (found q) inserted ∙ found_entered q old.others.entries key place
                      ∙ rw (index.others q, own, counted) (others_more shape rows row q first coded is);
                },
              )
