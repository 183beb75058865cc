-- The ranks of sorted places are numbers that a numbering may deal.
use Rattle.std.proofs.Common.{◌≡◌, ◌≢◌, ℕ, zero, suc, ◌+◌, ◌<◌, ◌≤◌}
use Rattle.std.proofs.Common.{Bool, true, false, List, [], ◌∷◌, ◌++◌, map, zip, length}
use Rattle.std.proofs.Common.{get_or, pos, refl, sym, ap, ap₂, ◌∙◌, subst, subst₂, All}
use Rattle.std.proofs.Common.{arith}
use Rattle.std.proofs.Common.{IsPermutation, eqb, set, inl, inr}
use Rattle.std.proofs.lemmas.Bool.{eqb-false, cases_lt}
use Rattle.std.proofs.lemmas.List.{length-set, get_or-set_other, get_or-set_same}
use Rattle.std.proofs.lemmas.List.Elements.{All-nil, All-cons, All-head, All-tail}
use Rattle.std.proofs.lemmas.List.Sorted.{All-permutation, length_permutation}
use Rattle.std.proofs.lemmas.Simd.{map-map}
use Rattle.std.proofs.lemmas.Map.Keys.{IsDistinct-IsPermutation, apart_from_distinct}
use Rattle.std.specs.List.{AllByRecursion as Each, IsDistinct}
use Rattle.nq_model.specs.Bags.{Reordered}
use Rattle.nq_model.specs.NamedRows.{no_cell}
use Rattle.nq_model.specs.Numberings.{Rises, Numbers, IsBefore, EachTwo, count_from, numbered, key_lt}
use Rattle.nq_model.specs.declared.table.Cell.{Cell}
use Rattle.nq_model.specs.declared.table.Cell.TheVariants as cell
use Rattle.nq_model.proofs.Bags.{reordered_sym, matched_length}
use Rattle.nq_model.proofs.Numberings.{each_two_reordered, reordered_map, key_ranks}
use Rattle.rows.specs.Held.{number_cells}
use Rattle.rows.specs.Places.{row_at}
use Rattle.row_order.specs.Keys.{key_of, keys_at}
use Rattle.row_order.proofs.Counting.{count_next}
use Rattle.sql_eval.specs.Dealing.{AreRanks}
use Rattle.sql_joins.proofs.Reordering.{reordered_from_permutation}

pub count_length : (a n : ℕ) → length (count_from a n) ≡ n
count_length a zero = refl
count_length a (suc n) = ap suc (count_length (suc a) n)

-- one number more
pub counted_on : (places more : List ℕ) (place : ℕ) → places ≡ count_from 0 place
    → more ≡ places ++ place ∷ [] → more ≡ count_from 0 (place + 1)
counted_on places more place so_far is =
    let next : suc place ≡ place + 1 = omega arith in
    let same : place ≡ 0 + place = omega arith in
    is ∙ ap (λ (l : List ℕ). l ++ place ∷ []) so_far
    ∙ ap (λ (m : ℕ). count_from 0 place ++ m ∷ []) same
    ∙ sym (count_next 0 place) ∙ ap (count_from 0) next

count_below : (a n end : ℕ) → a + n ≤ end → All (λ p. p < end) (count_from a n)
count_below a zero end h = All-nil (λ p. p < end)
count_below a (suc n) end h = All-cons (λ p. p < end) a (count_from (suc a) n) (omega (arith, h)) (count_below (suc a) n end (omega (arith, h)))

count_above : (a x n : ℕ) → x < a → Each (λ y. eqb x y ≡ false) (count_from a n)
count_above a x zero h = tt
count_above a x (suc n) h = (apart x a h, count_above (suc a) x n (omega (arith, h)))
  where
    apart : (x y : ℕ) → x < y → eqb x y ≡ false
    apart x y h = grind (arith, h)

count_distinct : (a n : ℕ) → IsDistinct eqb (count_from a n)
unfolding IsDistinct
count_distinct a zero = tt
count_distinct a (suc n) = (count_above (suc a) a n (omega arith), count_distinct (suc a) n)

-- places of so many rows, in any order
pub place_below : (places : List ℕ) → IsPermutation (count_from 0 (length places)) places → (k : ℕ) → k < length places → get_or places k 0 < length places
place_below places p k h =
    All-permutation (λ (q : ℕ). q < length places) (count_from 0 (length places)) places p (count_below 0 (length places) (length places) (omega arith)) k 0 h

eqb_flips : (x y : ℕ) → eqb x y ≡ eqb y x
eqb_flips x y = grind arith

places_differ : (places : List ℕ) → IsPermutation (count_from 0 (length places)) places → (j k : ℕ) → j < k → k < length places → get_or places j 0 ≢ get_or places k 0
places_differ places p j k below h =
    eqb-false (get_or places j 0) (get_or places k 0) (apart_from_distinct eqb places j k 0 (IsDistinct-IsPermutation eqb eqb_flips (count_from 0 (length places)) places p (count_distinct 0 (length places))) below h)

-- the first so many places have their ranks
pub record RankedTo (places : List ℕ) (i : ℕ) (ranks : List ℕ) : Type 0 where
  pub as_many : length ranks ≡ length places
  pub ranked : (k : ℕ) → k < i → get_or ranks (get_or places k 0) 0 ≡ k + 1

pub rank_next : (places : List ℕ) → IsPermutation (count_from 0 (length places)) places → (i : ℕ) (ranks : List ℕ) → i < length places → RankedTo places i ranks → RankedTo places (i + 1) (set ranks (get_or places i 0) (i + 1))
rank_next places p i ranks h so_far = record {
  as_many = length-set ranks (get_or places i 0) (i + 1) ∙ so_far.as_many;
  ranked = λ k below. elim (cases_lt k i) [
    | inl before ↦ get_or-set_other ranks (get_or places i 0) (get_or places k 0) (i + 1) 0 (places_differ places p k i before h) ∙ so_far.ranked k before
    | inr not ↦
        let same : k ≡ i = omega arith in
        let room : get_or places i 0 < length ranks = let b = place_below places p i h in omega (arith, b, so_far.as_many) in
        subst (λ (n : ℕ). get_or (set ranks (get_or places i 0) (i + 1)) (get_or places n 0) 0 ≡ n + 1) (sym same) (get_or-set_same ranks (get_or places i 0) (i + 1) 0 room)
  ];
}

-- reading a list at all places gives the list
shifted : {A : Type 0} (f : ℕ → A) (a n : ℕ) → map f (count_from (suc a) n) ≡ map (λ p. f (suc p)) (count_from a n)
shifted f a zero = refl
shifted f a (suc n) = ap (λ (l : List _). f (suc a) ∷ l) (shifted f (suc a) n)

pub read_all : {A : Type 0} (xs : List A) (d : A) → map (λ p. get_or xs p d) (count_from 0 (length xs)) ≡ xs
read_all [] d = refl
read_all (x ∷ xs) d = ap (λ (l : List _). x ∷ l) (shifted (λ p. get_or (x ∷ xs) p d) 0 (length xs) ∙ read_all xs d)

-- the numbers at all places as cells
pub all_cells : (numbers : List ℕ)
    → number_cells numbers
    ≡ map (λ p. cell.Int (pos (get_or numbers p 0))) (count_from 0 (length numbers))
all_cells numbers =
    ap number_cells (sym (read_all numbers 0))
    ∙ map-map (λ n. cell.Int (pos n)) (λ p. get_or numbers p 0) (count_from 0 (length numbers))

-- elements at places whose ranks count on
counted : {K : Type 0} (rank : ℕ → ℕ) (key : ℕ → K) (places : List ℕ) (a : ℕ) → ((k : ℕ) → k < length places → rank (get_or places k 0) ≡ k + a) → map (λ p. (rank p, key p)) places ≡ numbered a (map key places)
counted rank key [] a h = refl
counted rank key (p ∷ places) a h =
    let first : rank p ≡ a = let e = h 0 (omega arith) in omega (arith, e) in
    ap₂ (λ n (l : List _). (n, key p) ∷ l) first (counted rank key places (suc a) (λ k below. let e = h (suc k) (omega (arith, below)) in omega (arith, e)))

zip_read : {A B C : Type 0} (f : C → A) (g : C → B) (zs : List C) → map (λ z. (f z, g z)) zs ≡ zip (map f zs) (map g zs)
zip_read f g [] = refl
zip_read f g (z ∷ zs) = ap (λ (l : List _). (f z, g z) ∷ l) (zip_read f g zs)

each_and : {A : Type 0} (P Q : A → Type 0) (xs : List A) → Each P xs → Each Q xs → Each (λ x. P x × Q x) xs
each_and P Q [] e f = tt
each_and P Q (x ∷ xs) e f = ((e.0, f.0), each_and P Q xs e.1 f.1)

-- a sorted list, counted, keeps the order
module _ {K : Type 0} (lt : K → K → Bool) (never : (x : K) → lt x x ≡ false) where
  head_before : (x : K) (a b : ℕ) → a < b → (xs : List K) → Each (λ p. IsBefore lt (a, x) p) (numbered b xs)
  head_before x a b h [] = tt
  head_before x a b h (y ∷ xs) = (λ t. h, head_before x a (suc b) (omega (arith, h)) xs)

  none_before : (x : K) (a b : ℕ) (xs : List K) → Each (λ y. lt y x ≡ false) xs → Each (λ p. IsBefore lt p (a, x)) (numbered b xs)
  none_before x a b [] e = tt
  none_before x a b (y ∷ xs) e = (λ t. absurd (clash (lt y x) e.0 t), none_before x a (suc b) xs e.1)
    where
      clash : (b : Bool) → b ≡ false → b ≡ true → ⊥
      clash true e t = absurd (cc)
      clash false e t = absurd (cc)

  counted_in_order : (a : ℕ) (xs : List K) → Rises lt xs → EachTwo (IsBefore lt) (numbered a xs)
  counted_in_order a [] r = tt
  counted_in_order a (x ∷ xs) r = (
    (λ t. let e : lt x x ≡ false = never x in absurd (cc), head_before x a (suc a) (omega arith) xs),
    each_and (λ p. IsBefore lt p (a, x)) (λ p. Each (λ q. IsBefore lt p q) (numbered (suc a) xs)) (numbered (suc a) xs) (none_before x a (suc a) xs r.0) (counted_in_order (suc a) xs r.1),
  )

  first_of_zip : {A : Type 0} (ns : List ℕ) (ks : List A) → length ns ≡ length ks → map (λ (p : ℕ × A). p.0) (zip ns ks) ≡ ns
  first_of_zip [] ks e = refl
  first_of_zip (n ∷ ns) [] e = absurd (omega (arith, e))
  first_of_zip (n ∷ ns) (k ∷ ks) e = ap (λ (l : List ℕ). n ∷ l) (first_of_zip ns ks (omega (arith, e)))

  numbers_counted : (a : ℕ) (xs : List K) → map (λ (p : ℕ × K). p.0) (numbered a xs) ≡ count_from a (length xs)
  numbers_counted a [] = refl
  numbers_counted a (x ∷ xs) = ap (λ (l : List ℕ). a ∷ l) (numbers_counted (suc a) xs)

  -- pairs of number and key that are those of the sorted keys, counted from 1
  numbers_from_pairs : (keys sorted : List K) (ns : List ℕ) → length ns ≡ length keys → Reordered (zip ns keys) (numbered 1 sorted) → Rises lt sorted → Numbers lt keys ns
  numbers_from_pairs keys sorted ns len m up =
      let firsts : Reordered ns (count_from 1 (length sorted)) = subst₂ (λ (a b : List ℕ). Reordered a b) (first_of_zip ns keys len) (numbers_counted 1 sorted) (reordered_map (λ (p : ℕ × K). p.0) (zip ns keys) (numbered 1 sorted) m) in
      let many : length sorted ≡ length keys = sym (sym len ∙ matched_length (λ x y. x ≡ y) ns (count_from 1 (length sorted)) firsts ∙ count_length 1 (length sorted)) in
      record {
        as_many = len;
        each_once = subst (λ n. Reordered ns (count_from 1 n)) many firsts;
        in_order = each_two_reordered (IsBefore lt) (numbered 1 sorted) (zip ns keys) (reordered_sym (zip ns keys) (numbered 1 sorted) m) (counted_in_order 1 sorted up);
      }

-- ranks of places at which the elements do not fall
numbers_by_places : {K : Type 0} (lt : K → K → Bool) → ((x : K) → lt x x ≡ false) → (keys : List K) (d : K) (places ranks : List ℕ)
    → IsPermutation (count_from 0 (length keys)) places → Rises lt (map (λ p. get_or keys p d) places) → AreRanks places ranks → Numbers lt keys ranks
numbers_by_places {K} lt never keys d places ranks p up r =
    let key : ℕ → K = λ q. get_or keys q d in
    let rank : ℕ → ℕ = λ q. get_or ranks q 0 in
    let all : List ℕ = count_from 0 (length keys) in
    let many : length places ≡ length keys = length_permutation all places p ∙ count_length 0 (length keys) in
    let ranks_many : length ranks ≡ length keys = r.as_many ∙ many in
    let ranks_read : map rank all ≡ ranks = subst (λ n. map rank (count_from 0 n) ≡ ranks) ranks_many (read_all ranks 0) in
    let here : map (λ q. (rank q, key q)) all ≡ zip ranks keys = zip_read rank key all ∙ ap₂ (λ (l : List ℕ) (m : List K). zip l m) ranks_read (read_all keys d) in
    let there : map (λ q. (rank q, key q)) places ≡ numbered 1 (map key places) = counted rank key places 1 r.ranked in
    let moved : Reordered (zip ranks keys) (numbered 1 (map key places)) = subst₂ (λ (a b : List (ℕ × K)). Reordered a b) here there (reordered_map (λ q. (rank q, key q)) all places (reordered_from_permutation all places p)) in
    numbers_from_pairs lt never keys (map key places) ranks ranks_many moved up

-- the key of a row under all its columns is the row
key_whole : (row : List Cell) (width : ℕ) → length row ≡ width → key_of (count_from 0 width) row ≡ row
key_whole row width e = subst (λ (n : ℕ). key_of (count_from 0 n) row ≡ row) e (read_all row no_cell)

keys_whole : (rows : List (List Cell)) (width : ℕ) → All (λ row. length row ≡ width) rows → (places : List ℕ) → All (λ p. p < length rows) places → keys_at rows (count_from 0 width) places ≡ map (λ p. row_at rows p) places
keys_whole rows width wide [] h = refl
keys_whole rows width wide (p ∷ places) h =
    ap₂ (λ (k : List Cell) (l : List (List Cell)). k ∷ l) (key_whole (row_at rows p) width (wide p [] (All-head (λ p. p < length rows) p places h))) (keys_whole rows width wide places (All-tail (λ p. p < length rows) p places h))

pub ranks_number : (rows : List (List Cell)) (width : ℕ) (places ranks : List ℕ) → All (λ row. length row ≡ width) rows → IsPermutation (count_from 0 (length rows)) places
    → Rises key_lt (keys_at rows (count_from 0 width) places) → AreRanks places ranks → Numbers key_lt rows ranks
ranks_number rows width places ranks wide p up r =
    let within : All (λ q. q < length rows) places = All-permutation (λ (q : ℕ). q < length rows) (count_from 0 (length rows)) places p (count_below 0 (length rows) (length rows) (omega arith)) in
    numbers_by_places key_lt key_ranks.irreflexive rows [] places ranks p (subst (Rises key_lt) (keys_whole rows width wide places within) up) r

-- places of so many rows are as many
pub all_places : (n : ℕ) (places : List ℕ) → IsPermutation (count_from 0 n) places → IsPermutation (count_from 0 (length places)) places
all_places n places p =
    subst (λ (m : ℕ). IsPermutation (count_from 0 m) places) (sym (length_permutation (count_from 0 n) places p ∙ count_length 0 n)) p
