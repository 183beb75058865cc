-- Keys: the parts of a row, and what an index of first rows finds.
use Rattle.std.proofs.Common.{◌≡◌, ◌<◌, ◌+◌, ◌&&◌, ℕ, suc, List, [], ◌∷◌, ◌++◌, length, take, map, get_or, zip, option_map, Option, Some, None, Bool, true, false, cond, ap, ap₂, sym, ◌∙◌, refl, arith, add-one, add-zero, Ordering, true≢false, string_bytes, slice_get}
use Rattle.std.specs.List.{position_from}
use Rattle.std.specs.Option.{option_and_then, option_or, unwrap_or}
use Rattle.std.specs.Bool.{beq}
use Rattle.std.specs.Map.{lookup}
use Rattle.std.specs.Ordering.{is_eq, ordering_then, bool_cmp, match_ordering}
use Rattle.std.specs.Str.{bytes_eq}
use Rattle.std.specs.BTreeMap.{is_at, insert_entry}
use Rattle.std.specs.Cmp.Lexicographic.{slice_cmp, pointwise, pointwise_decides}
use Rattle.std.specs.declared.alloc.Global.{Global}
use Rattle.std.specs.declared.cmp.Ordering.TheVariants.{Less, Equal, Greater}
use Rattle.std.specs.declared.vec.Vec.{Vec}
use Rattle.std.proofs.lemmas.List.{take_more, map-append}
use Rattle.std.proofs.lemmas.List.Sums.{fold-append}
use Rattle.std.proofs.lemmas.Map.Text.{is_eq-slice_cmp}
use Rattle.std.proofs.lemmas.Iterator.Adapters.{position_from-zero}
use Rattle.nq_model.specs.Cells.{cell_eq, bool_eq}
use Rattle.nq_model.specs.NamedRows.{no_cell, cell_under}
use Rattle.nq_model.specs.SchemaTables.{key_of}
use Rattle.nq_model.specs.Tables.{Columns, names_of}
use Rattle.nq_model.specs.declared.table.Cell.{Cell}
use Rattle.nq_model.specs.declared.table.TableShape.{TableShape}
use Rattle.nq_model.proofs.Sameness.{cell_Decides}
use Rattle.row_keys.specs.Codes.{cell_code, key_code}
use Rattle.row_keys.specs.FirstRows.{cell_of_key, cells_of_key, place_of, key_places, cell_at, cells_at}
use Rattle.row_keys.specs.declared.keys.KeyCell.{KeyCell}
use Rattle.row_keys.specs.declared.keys.KeyCell.TheVariants as key_cell
use Rattle.row_keys.specs.contracts.keys.KeyCellOrd.TheImpl.{ghosts}
use Rattle.row_keys.specs.contracts.keys.KeyCellPartialEq.TheImpl.{ghosts as equality}

-- the code of no cell
pub code_none : 0 ≡ key_code []
unfolding key_code
code_none = refl

-- the code of one more cell
pub code_more : {X : Type 0} (h : X → Cell) (xs : List X) (i : ℕ) (d : X) (old new : ℕ) → i < length xs
    → new ≡ cell_code old (h (get_or xs i d)) → old ≡ key_code (map h (take i xs)) → new ≡ key_code (map h (take (i + 1) xs))
unfolding key_code
code_more h xs i d old new within more before =
    rw (take_more xs i d within, map-append h (take i xs) (get_or xs i d ∷ []), fold-append cell_code 0 (map h (take i xs)) (h (get_or xs i d) ∷ []), sym before) more

abbrev pub Key : Type 0
Key = Vec KeyCell Global

-- the order of keys in an index
abbrev pub key_cmp : Key → Key → Ordering
key_cmp k j = slice_cmp ghosts.cmp k.items j.items

-- whether key cells are equal
abbrev pub cells_eq : List Cell → List Cell → Bool
cells_eq = pointwise cell_eq

pub cells_Decides : (xs ys : List Cell) → (cells_eq xs ys ≡ true → xs ≡ ys) × (xs ≡ ys → cells_eq xs ys ≡ true)
cells_Decides = pointwise_decides cell_Decides

truths_tie : (a b : Bool) → is_eq (bool_cmp a b) ≡ bool_eq a b
truths_tie true true = refl
truths_tie true false = refl
truths_tie false true = refl
truths_tie false false = refl

-- two cells of keys tie only where the cells that they copy are equal
cells_tie : (x y : KeyCell) → is_eq (ghosts.cmp x y) ≡ cell_eq (cell_of_key x) (cell_of_key y)
cells_tie (key_cell.Int a) (key_cell.Int b) = refl
cells_tie (key_cell.Bool a) (key_cell.Bool b) = truths_tie a b
cells_tie (key_cell.Text a) (key_cell.Text b) = is_eq-slice_cmp (string_bytes a) (string_bytes b)
cells_tie (key_cell.Int a) (key_cell.Bool b) = refl
cells_tie (key_cell.Int a) (key_cell.Text b) = refl
cells_tie (key_cell.Bool a) (key_cell.Int b) = refl
cells_tie (key_cell.Bool a) (key_cell.Text b) = refl
cells_tie (key_cell.Text a) (key_cell.Int b) = refl
cells_tie (key_cell.Text a) (key_cell.Bool b) = refl

both_tie : (o p : Ordering) → is_eq (ordering_then o p) ≡ (is_eq o && is_eq p)
both_tie Less p = refl
both_tie Equal p = refl
both_tie Greater p = refl

lists_tie : (xs ys : List KeyCell) → is_eq (slice_cmp ghosts.cmp xs ys) ≡ cells_eq (map cell_of_key xs) (map cell_of_key ys)
lists_tie [] [] = refl
lists_tie [] (y ∷ ys) = refl
lists_tie (x ∷ xs) [] = refl
lists_tie (x ∷ xs) (y ∷ ys) = rw (both_tie (ghosts.cmp x y) (slice_cmp ghosts.cmp xs ys), cells_tie x y, lists_tie xs ys) refl

keys_tie : (k j : Key) → is_eq (key_cmp k j) ≡ cells_eq (cells_of_key k) (cells_of_key j)
keys_tie k j = lists_tie k.items j.items

truths_same : (a b : Bool) → beq a b ≡ bool_eq a b
truths_same true true = refl
truths_same true false = refl
truths_same false true = refl
truths_same false false = refl

-- two cells of keys are equal only where the cells that they copy are
cells_same : (x y : KeyCell) → equality.eq x y ≡ cell_eq (cell_of_key x) (cell_of_key y)
cells_same (key_cell.Int a) (key_cell.Int b) = refl
cells_same (key_cell.Bool a) (key_cell.Bool b) = truths_same a b
cells_same (key_cell.Text a) (key_cell.Text b) = refl
cells_same (key_cell.Int a) (key_cell.Bool b) = refl
cells_same (key_cell.Int a) (key_cell.Text b) = refl
cells_same (key_cell.Bool a) (key_cell.Int b) = refl
cells_same (key_cell.Bool a) (key_cell.Text b) = refl
cells_same (key_cell.Text a) (key_cell.Int b) = refl
cells_same (key_cell.Text a) (key_cell.Bool b) = refl

-- two keys are equal only where the cells that they copy are
pub keys_same : (xs ys : List KeyCell) → pointwise equality.eq xs ys ≡ cells_eq (map cell_of_key xs) (map cell_of_key ys)
keys_same [] [] = refl
keys_same [] (y ∷ ys) = refl
keys_same (x ∷ xs) [] = refl
keys_same (x ∷ xs) (y ∷ ys) = rw (cells_same x y, keys_same xs ys) refl

cond_twice : {A : Type 0} (b : Bool) (x y z : A) → cond b x z ≡ cond b x (cond b y z)
cond_twice true x y z = refl
cond_twice false x y z = refl

cond_swap : {A : Type 0} (a b : Bool) (x y z : A) → (a ≡ true → b ≡ true → ⊥) → cond a x (cond b y z) ≡ cond b y (cond a x z)
cond_swap true true x y z apart = absurd (apart refl refl)
cond_swap true false x y z apart = refl
cond_swap false b x y z apart = refl

module _ {X : Type 0} where
  -- what is found at key cells
  abbrev pub found : List Cell → List (Key × X) → Option X
  found key es = lookup (λ k. cells_eq key (cells_of_key k)) es

  -- a key finds what its cells find
  pub found_at : (k : Key) (es : List (Key × X)) → lookup (is_at (key_cmp k)) es ≡ found (cells_of_key k) es
  found_at k [] = refl
  found_at k (e ∷ es) = rw (keys_tie k e.0, found_at k es) refl

  -- after an entry its cells find its value, and all others what they found before
  pub found_entered : (key : List Cell) (es : List (Key × X)) (k : Key) (v : X)
      → found key (insert_entry key_cmp es k v) ≡ cond (cells_eq key (cells_of_key k)) (Some v) (found key es)
  found_entered key [] k v = refl
  found_entered key (e ∷ es) k v = by (key_cmp k e.0) refl (found_entered key es k v)
    where
      by : (o : Ordering) → key_cmp k e.0 ≡ o
          → found key (insert_entry key_cmp es k v) ≡ cond (cells_eq key (cells_of_key k)) (Some v) (found key es)
          → found key (match_ordering o ((k, v) ∷ e ∷ es) ((e.0, v) ∷ es) (e ∷ insert_entry key_cmp es k v)) ≡ cond (cells_eq key (cells_of_key k)) (Some v) (found key (e ∷ es))
      by Less is later = refl
      by Equal is later =
          let same : cells_of_key k ≡ cells_of_key e.0 = (cells_Decides (cells_of_key k) (cells_of_key e.0)).0 (sym (keys_tie k e.0) ∙ ap is_eq is) in
          rw same (cond_twice (cells_eq key (cells_of_key e.0)) (Some v) (Some e.1) (found key es))
      by Greater is later =
          let other : cells_eq (cells_of_key k) (cells_of_key e.0) ≡ false = sym (keys_tie k e.0) ∙ ap is_eq is in
          let apart = λ (a : cells_eq key (cells_of_key e.0) ≡ true) (b : cells_eq key (cells_of_key k) ≡ true).
          let to_k = (cells_Decides key (cells_of_key k)).0 b in
          let to_e = (cells_Decides key (cells_of_key e.0)).0 a in
          true≢false (sym ((cells_Decides (cells_of_key k) (cells_of_key e.0)).1 (sym to_k ∙ to_e)) ∙ other) in
          rw later (cond_swap (cells_eq key (cells_of_key e.0)) (cells_eq key (cells_of_key k)) (Some e.1) (Some v) (found key es) apart)

cond_or : {A : Type 0} (b : Bool) (x : A) (o p : Option A) → cond b (Some x) (option_or o p) ≡ option_or (cond b (Some x) o) p
cond_or true x o p = refl
cond_or false x o p = refl

cond_map : {A B : Type 0} (f : A → B) (b : Bool) (x : A) (o : Option A) → cond b (Some (f x)) (option_map f o) ≡ option_map f (cond b (Some x) o)
cond_map f true x o = refl
cond_map f false x o = refl

module _ {X : Type 0} (t : X → Bool) where
  -- the places of a list that starts one later
  pub position_later : (n : ℕ) (xs : List X) → position_from t (n + 1) xs ≡ option_map suc (position_from t n xs)
  position_later n [] = refl
  position_later n (x ∷ xs) = rw (position_later (n + 1) xs, add-one n) (cond_map suc (t x) n (position_from t (suc n) xs))

  -- the first place in two lists
  pub position-append : (n : ℕ) (xs ys : List X) → position_from t n (xs ++ ys) ≡ option_or (position_from t n xs) (position_from t (n + length xs) ys)
  position-append n [] ys = rw (add-zero n) refl
  position-append n (x ∷ xs) ys =
      let e : n + 1 + length xs ≡ n + suc (length xs) = omega arith in
      rw (position-append (n + 1) xs ys, e) (cond_or (t x) n (position_from t (n + 1) xs) (position_from t (n + suc (length xs)) ys))

none_then : {A B : Type 0} (o : Option A) → option_and_then {U = B} (λ _. None) o ≡ None
none_then None = refl
none_then (Some x) = refl

get_later : {A : Type 0} (x : A) (xs : List A) (o : Option ℕ) → option_and_then (slice_get (x ∷ xs)) (option_map suc o) ≡ option_and_then (slice_get xs) o
get_later x xs None = refl
get_later x xs (Some i) = refl

-- the cell at the place of a name is the cell under the name
cell_at_place : (columns : Columns) (row : List Cell) (name : List ℕ)
    → unwrap_or (cell_at row (position_from (λ column. bytes_eq name column.0) 0 columns)) no_cell ≡ cell_under name (zip (names_of columns) row)
cell_at_place [] row name = refl
cell_at_place (column ∷ columns) [] name = ap (λ o. unwrap_or o no_cell) (none_then (position_from (λ column. bytes_eq name column.0) 0 (column ∷ columns)))
cell_at_place (column ∷ columns) (cell ∷ row) name = by (bytes_eq name column.0) (position_later (λ column. bytes_eq name column.0) 0 columns) (cell_at_place columns row name)
  where
    by : (b : Bool) → position_from (λ column. bytes_eq name column.0) 1 columns ≡ option_map suc (position_from (λ column. bytes_eq name column.0) 0 columns)
        → unwrap_or (cell_at row (position_from (λ column. bytes_eq name column.0) 0 columns)) no_cell ≡ cell_under name (zip (names_of columns) row)
        → unwrap_or (cell_at (cell ∷ row) (cond b (Some 0) (position_from (λ column. bytes_eq name column.0) 1 columns))) no_cell
        ≡ cond b cell (cell_under name (zip (names_of columns) row))
    by true later same = refl
    by false later same = rw later (ap (λ o. unwrap_or o no_cell) (get_later cell row (position_from (λ column. bytes_eq name column.0) 0 columns)) ∙ same)

-- the cells at the places of the key's columns are the key cells
pub places_key : (shape : TableShape) (row : List Cell) → cells_at row (key_places shape) ≡ key_of shape row
places_key shape row = by shape.key
  where
    by : (names : List (List ℕ)) → cells_at row (map (place_of shape.columns) names) ≡ map (λ name. cell_under name (zip (names_of shape.columns) row)) names
    by [] = refl
    by (name ∷ names) =
        let one = ap (λ place. unwrap_or (cell_at row place) no_cell) (position_from-zero (λ column. bytes_eq name column.0) shape.columns) ∙ cell_at_place shape.columns row name in
        ap₂ (λ (x : Cell) (xs : List Cell). x ∷ xs) one (by names)
