-- One more key list is numbered.
use Rattle.std.proofs.Common.{◌≡◌, ℕ, zero, suc, ◌+◌, ◌<◌, ◌≤◌, List, [], ◌∷◌, ◌++◌, map, zip, take, get_or, length, Bool, true, false, not, ◌&&◌, nat_le, if◌then◌else◌, ap₂, refl, sym, ap, ◌∙◌, subst, arith}
use Rattle.std.specs.List.{AllByRecursion as Each}
use Rattle.std.proofs.lemmas.Bool.Decides.{nat_tests}
use Rattle.std.proofs.lemmas.List.{take_all}
use Rattle.nq_model.specs.Bags.{Reordered, here}
use Rattle.nq_model.specs.Numberings.{Numbers, count_from, IsBefore, EachTwo, key_lt}
use Rattle.nq_model.specs.declared.table.Cell.{Cell}
use Rattle.nq_model.proofs.Bags.{reordered_refl, reordered_trans, reordered_sym, reordered_comm, reordered_swap}
use Rattle.nq_model.proofs.Numberings.{key_ranks, reordered_map, each_reordered}
use Rattle.reference_sql.specs.declared.number.Ties.{Ties}
use Rattle.reference_sql.specs.declared.number.Ties.TheVariants.{AsTheyArise, Reversed}
use Rattle.reference_sql.specs.Dealing.{is_earlier, IsAbove, IsBelow, IsPlace, raise, next_place}

raised : (m n : ℕ) → m ≤ n → raise m n ≡ n + 1
raised m n h = ap (λ b. if b then n + 1 else n) (let e : nat_le m n ≡ true = grind (arith, nat_tests) in e)

kept : (m n : ℕ) → n < m → raise m n ≡ n
kept m n h = ap (λ b. if b then n + 1 else n) (let e : nat_le m n ≡ false = grind (arith, nat_tests) in e)

data Order (m n : ℕ) : Type 0 where
  Less : n < m → Order m n
  More : m ≤ n → Order m n

order : (m n : ℕ) → Order m n
order zero n = More (omega arith)
order (suc m) zero = Less (omega arith)
order (suc m) (suc n) = go (order m n)
  where
    go : Order m n → Order (suc m) (suc n)
    go (Less h) = Less (omega (arith, h))
    go (More h) = More (omega (arith, h))

-- raising keeps the order
raise_rises : (m a b : ℕ) → a < b → raise m a < raise m b
raise_rises m a b h = go (order m a) (order m b)
  where
    go : Order m a → Order m b → raise m a < raise m b
    go (Less x) (Less y) = let e = kept m a x in let f = kept m b y in omega (arith, e, f, h)
    go (Less x) (More y) = let e = kept m a x in let f = raised m b y in omega (arith, e, f, h)
    go (More x) (Less y) = absurd (omega (arith, x, y, h))
    go (More x) (More y) = let e = raised m a x in let f = raised m b y in omega (arith, e, f, h)

all_raised : (m a n : ℕ) → m ≤ a → map (raise m) (count_from a n) ≡ count_from (suc a) n
all_raised m a zero h = refl
all_raised m a (suc n) h =
    let e : raise m a ≡ suc a = raised m a h ∙ omega arith in
    ap (λ x. x ∷ map (raise m) (count_from (suc a) n)) e ∙ ap (λ (l : List ℕ). suc a ∷ l) (all_raised m (suc a) n (omega (arith, h)))

-- m among the others, which make room
room : (m a n : ℕ) → a ≤ m → m ≤ a + n → Reordered (m ∷ map (raise m) (count_from a n)) (count_from a (suc n))
room m a zero low high = let e : m ≡ a = omega (arith, low, high) in subst (λ x. Reordered (m ∷ []) (x ∷ [])) e (reordered_refl (m ∷ []))
room m a (suc n) low high = go (order m a) (λ h. room m (suc a) n (omega (arith, h)) (omega (arith, high)))
  where
    go : Order m a → (a < m → Reordered (m ∷ map (raise m) (count_from (suc a) n)) (count_from (suc a) (suc n))) → Reordered (m ∷ map (raise m) (count_from a (suc n))) (count_from a (suc (suc n)))
    go (More h) rest =
        let e : m ≡ a = omega (arith, low, h) in
        subst (λ x. Reordered (m ∷ map (raise m) (count_from a (suc n))) (x ∷ count_from (suc a) (suc n))) e
        (subst (λ (l : List ℕ). Reordered (m ∷ map (raise m) (count_from a (suc n))) (m ∷ l)) (all_raised m a (suc n) h) (reordered_refl (m ∷ map (raise m) (count_from a (suc n)))))
    go (Less h) rest =
        subst (λ x. Reordered (m ∷ x ∷ map (raise m) (count_from (suc a) n)) (count_from a (suc (suc n)))) (sym (kept m a h))
        (reordered_trans (m ∷ a ∷ map (raise m) (count_from (suc a) n)) (a ∷ m ∷ map (raise m) (count_from (suc a) n)) (count_from a (suc (suc n)))
        (reordered_swap (m ∷ []) (a ∷ []) (map (raise m) (count_from (suc a) n)))
        (a, count_from (suc a) (suc n), here, refl, rest h))

-- lists of pairs
each_put_last : {A : Type 0} (P : A → Type 0) (xs : List A) (y : A) → Each P xs → P y → Each P (xs ++ y ∷ [])
each_put_last P [] y e h = (h, tt)
each_put_last P (x ∷ xs) y e h = (e.0, each_put_last P xs y e.1 h)

each_mapped : {A B : Type 0} (P : A → Type 0) (Q : B → Type 0) (f : A → B) → ((x : A) → P x → Q (f x)) → (xs : List A) → Each P xs → Each Q (map f xs)
each_mapped P Q f h [] e = tt
each_mapped P Q f h (x ∷ xs) e = (h x e.0, each_mapped P Q f h xs e.1)

each_both : {A : Type 0} (P Q R : A → Type 0) → ((x : A) → P x → Q x → R x) → (xs : List A) → Each P xs → Each Q xs → Each R xs
each_both P Q R h [] e f = tt
each_both P Q R h (x ∷ xs) e f = (h x e.0 f.0, each_both P Q R h xs e.1 f.1)

each_zip : {K : Type 0} (P : ℕ → Type 0) (ns : List ℕ) (ks : List K) → Each P ns → Each (λ p. P p.0) (zip ns ks)
each_zip P [] ks e = tt
each_zip P (n ∷ ns) [] e = tt
each_zip P (n ∷ ns) (k ∷ ks) e = (e.0, each_zip P ns ks e.1)

zip_raised : {K : Type 0} (m : ℕ) (ns : List ℕ) (ks : List K) (k : K) → length ns ≡ length ks → zip (map (raise m) ns ++ m ∷ []) (ks ++ k ∷ []) ≡ map (λ p. (raise m p.0, p.1)) (zip ns ks) ++ (m, k) ∷ []
zip_raised m [] [] k e = refl
zip_raised m [] (x ∷ ks) k e = absurd (omega (arith, e))
zip_raised m (n ∷ ns) [] k e = absurd (omega (arith, e))
zip_raised m (n ∷ ns) (x ∷ ks) k e = ap (λ (l : List (ℕ × _)). (raise m n, x) ∷ l) (zip_raised m ns ks k (omega (arith, e)))

length_last : {A : Type 0} (xs : List A) (y : A) → length (xs ++ y ∷ []) ≡ suc (length xs)
length_last [] y = refl
length_last (x ∷ xs) y = ap suc (length_last xs y)

length_mapped : {A B : Type 0} (f : A → B) (xs : List A) → length (map f xs) ≡ length xs
length_mapped f [] = refl
length_mapped f (x ∷ xs) = ap suc (length_mapped f xs)

length_zip : {K : Type 0} (ns : List ℕ) (ks : List K) → length ns ≡ length ks → length (zip ns ks) ≡ length ks
length_zip [] [] e = refl
length_zip [] (k ∷ ks) e = absurd (omega (arith, e))
length_zip (n ∷ ns) [] e = absurd (omega (arith, e))
length_zip (n ∷ ns) (k ∷ ks) e = ap suc (length_zip ns ks (omega (arith, e)))

no_key_below_itself : (key : List Cell) → key_lt key key ≡ true → ⊥
no_key_below_itself key h = let e = key_ranks.irreflexive key in absurd (cc)

-- one more key is numbered, and the numbers from its own on are raised
pub one_more : (keys : List (List Cell)) (ns : List ℕ) (key : List Cell) (m : ℕ) → Numbers key_lt keys ns → IsPlace (zip ns keys) key m → Numbers key_lt (keys ++ key ∷ []) (map (raise m) ns ++ m ∷ [])
one_more keys ns key m numbers place = record {
  as_many = length_last (map (raise m) ns) m ∙ ap suc (length_mapped (raise m) ns ∙ numbers.as_many) ∙ sym (length_last keys key);
  each_once = subst (λ n. Reordered (map (raise m) ns ++ m ∷ []) (count_from 1 n)) (sym (length_last keys key))
      (reordered_trans (map (raise m) ns ++ m ∷ []) (m ∷ map (raise m) ns) (count_from 1 (suc (length keys))) (reordered_comm (map (raise m) ns) (m ∷ []))
      (reordered_trans (m ∷ map (raise m) ns) (m ∷ map (raise m) (count_from 1 (length keys))) (count_from 1 (suc (length keys)))
      (m, map (raise m) (count_from 1 (length keys)), here, refl, reordered_map (raise m) ns (count_from 1 (length keys)) numbers.each_once)
      (let low = place.low in let high = place.high in let len = length_zip ns keys numbers.as_many in room m 1 (length keys) (omega (arith, low)) (omega (arith, high, len)))));
  in_order = subst (λ (l : List (ℕ × List Cell)). EachTwo (IsBefore key_lt) l) (sym (zip_raised m ns keys key numbers.as_many))
      (each_put_last (λ x. Each (λ y. IsBefore key_lt x y) (map (λ p. (raise m p.0, p.1)) (zip ns keys) ++ (m, key) ∷ [])) (map (λ p. (raise m p.0, p.1)) (zip ns keys)) (m, key)
      (each_mapped (λ p. Each (IsBefore key_lt p) (zip ns keys) × IsAbove key m p) (λ x. Each (λ y. IsBefore key_lt x y) (map (λ p. (raise m p.0, p.1)) (zip ns keys) ++ (m, key) ∷ [])) (λ p. (raise m p.0, p.1))
      (λ p h. each_put_last (IsBefore key_lt (raise m p.0, p.1)) (map (λ q. (raise m q.0, q.1)) (zip ns keys)) (m, key)
      (each_mapped (IsBefore key_lt p) (IsBefore key_lt (raise m p.0, p.1)) (λ q. (raise m q.0, q.1)) (λ q b l. raise_rises m p.0 q.0 (b l)) (zip ns keys) h.0)
      (λ l. let less = h.1 l in let e = kept m p.0 less in omega (arith, e, less)))
      (zip ns keys)
      (each_both (λ p. Each (IsBefore key_lt p) (zip ns keys)) (IsAbove key m) (λ p. Each (IsBefore key_lt p) (zip ns keys) × IsAbove key m p) (λ p a b. (a, b)) (zip ns keys) numbers.in_order place.above))
      (each_put_last (IsBefore key_lt (m, key)) (map (λ q. (raise m q.0, q.1)) (zip ns keys)) (m, key)
      (each_mapped (IsBelow key m) (IsBefore key_lt (m, key)) (λ q. (raise m q.0, q.1)) (λ q b l. let more = b l in let e = raised m q.0 more in omega (arith, e, more)) (zip ns keys) place.below)
      (λ l. absurd (no_key_below_itself key l))));
}

-- what holds of a place once the first i pairs are looked at
pub record SoFar (pairs : List (ℕ × List Cell)) (key : List Cell) (i m : ℕ) : Type 0 where
  pub low : 1 ≤ m
  pub high : m ≤ length pairs + 1
  pub above : Each (IsAbove key m) (take i pairs)
  pub below : Each (IsBelow key m) pairs

each_counted : (a n : ℕ) → Each (λ x. (a ≤ x) × (x < a + n)) (count_from a n)
each_counted a zero = tt
each_counted a (suc n) = ((omega arith, omega arith), each_both (λ x. (suc a ≤ x) × (x < suc a + n)) (λ x. Unit {0}) (λ x. (a ≤ x) × (x < a + suc n)) (λ x h u. (omega (arith, h.0), omega (arith, h.1))) (count_from (suc a) n) (each_counted (suc a) n) (units (count_from (suc a) n)))
  where
    units : (xs : List ℕ) → Each (λ x. Unit {0}) xs
    units [] = tt
    units (x ∷ xs) = (tt, units xs)

-- each number is from 1 to as many as there are keys
numbers_within : (keys : List (List Cell)) (ns : List ℕ) → Numbers key_lt keys ns → Each (λ p. (1 ≤ p.0) × (p.0 < 1 + length keys)) (zip ns keys)
numbers_within keys ns numbers = each_zip (λ n. (1 ≤ n) × (n < 1 + length keys)) ns keys
    (each_reordered (λ n. (1 ≤ n) × (n < 1 + length keys)) (count_from 1 (length keys)) ns (reordered_sym ns (count_from 1 (length keys)) numbers.each_once) (each_counted 1 (length keys)))

each_weaker : {A : Type 0} (P Q : A → Type 0) → ((x : A) → P x → Q x) → (xs : List A) → Each P xs → Each Q xs
each_weaker P Q h [] e = tt
each_weaker P Q h (x ∷ xs) e = (h x e.0, each_weaker P Q h xs e.1)

pub none_yet : (keys : List (List Cell)) (ns : List ℕ) (key : List Cell) → Numbers key_lt keys ns → SoFar (zip ns keys) key 0 1
none_yet keys ns key numbers = record {
  low = omega arith;
  high = omega arith;
  above = tt;
  below = each_weaker (λ p. (1 ≤ p.0) × (p.0 < 1 + length keys)) (IsBelow key 1) (λ p h l. h.0) (zip ns keys) (numbers_within keys ns numbers);
}

each_at : {A : Type 0} (P : A → Type 0) (xs : List A) (i : ℕ) (d : A) → i < length xs → Each P xs → P (get_or xs i d)
each_at P [] i d h e = absurd (omega (arith, h))
each_at P (x ∷ xs) zero d h e = e.0
each_at P (x ∷ xs) (suc i) d h e = each_at P xs i d (omega (arith, h)) e.1

each_more : {A : Type 0} (P : A → Type 0) (xs : List A) (i : ℕ) (d : A) → i < length xs → Each P (take i xs) → P (get_or xs i d) → Each P (take (suc i) xs)
each_more P [] i d h e p = absurd (omega (arith, h))
each_more P (x ∷ xs) zero d h e p = (p, tt)
each_more P (x ∷ xs) (suc i) d h e p = (e.0, each_more P xs i d (omega (arith, h)) e.1 p)

zip_at : {K : Type 0} (ns : List ℕ) (ks : List K) (i n : ℕ) (k : K) → length ns ≡ length ks → i < length ns → get_or (zip ns ks) i (n, k) ≡ (get_or ns i n, get_or ks i k)
zip_at [] ks i n k e h = absurd (omega (arith, h))
zip_at (m ∷ ns) [] i n k e h = absurd (omega (arith, e))
zip_at (m ∷ ns) (l ∷ ks) zero n k e h = refl
zip_at (m ∷ ns) (l ∷ ks) (suc i) n k e h = zip_at ns ks i n k (omega (arith, e)) (omega (arith, h))

-- an earlier key is below what the key is below
earlier_below : (ties : Ties) (before key other : List Cell) → is_earlier ties before key ≡ true → key_lt key other ≡ true → key_lt before other ≡ true
earlier_below Reversed before key other e l = key_ranks.transitive before key other e l
earlier_below AsTheyArise before key other e l = go (key_lt key before) (key_lt before key) refl refl e
  where
    go : (a b : Bool) → key_lt key before ≡ a → key_lt before key ≡ b → not a ≡ true → key_lt before other ≡ true
    go true b f g h = absurd (cc)
    go false true f g h = key_ranks.transitive before key other g l
    go false false f g h = subst (λ (z : List Cell). key_lt z other ≡ true) (key_ranks.connected key before f g) l

-- what is not earlier is not below
later_above : (ties : Ties) (before key : List Cell) → is_earlier ties before key ≡ false → key_lt before key ≡ true → ⊥
later_above Reversed before key e l = let x : true ≡ false = sym l ∙ e in absurd (cc)
later_above AsTheyArise before key e l = go (key_lt key before) refl e
  where
    go : (a : Bool) → key_lt key before ≡ a → not a ≡ false → ⊥
    go true f h = no_key_below_itself before (key_ranks.transitive before key before l f)
    go false f h = absurd (cc)

-- one more pair is looked at
pub one_looked : (ties : Ties) (keys : List (List Cell)) (ns : List ℕ) (key : List Cell) (i m n : ℕ) (k : List Cell) → Numbers key_lt keys ns → i < length ns → n ≡ get_or ns i n → k ≡ get_or keys i k
    → SoFar (zip ns keys) key i m → SoFar (zip ns keys) key (suc i) (next_place ties key m (n, k))
one_looked ties keys ns key i m n k numbers within n_is k_is so_far = go (is_earlier ties k key) (nat_le m n) refl refl
  where
    pair_is : get_or (zip ns keys) i (n, k) ≡ (n, k)
    pair_is = zip_at ns keys i n k numbers.as_many within ∙ ap₂ (λ x (y : List Cell). (x, y)) (sym n_is) (sym k_is)

    inside : i < length (zip ns keys)
    inside = let e = length_zip ns keys numbers.as_many in let f = numbers.as_many in omega (arith, within, e, f)

    at_pair : (P : ℕ × List Cell → Type 0) → Each P (zip ns keys) → P (n, k)
    at_pair P e = subst P pair_is (each_at P (zip ns keys) i (n, k) inside e)

    stays : IsAbove key m (n, k) → SoFar (zip ns keys) key (suc i) m
    stays h = record { low = so_far.low; high = so_far.high; above = each_more (IsAbove key m) (zip ns keys) i (n, k) inside so_far.above (subst (IsAbove key m) (sym pair_is) h); below = so_far.below }

    moves : is_earlier ties k key ≡ true → m ≤ n → SoFar (zip ns keys) key (suc i) (n + 1)
    moves e h = record {
      low = omega arith;
      high = let w = (at_pair (λ p. (1 ≤ p.0) × (p.0 < 1 + length keys)) (numbers_within keys ns numbers)).1 in let l = length_zip ns keys numbers.as_many in omega (arith, w, l);
      above = each_more (IsAbove key (n + 1)) (zip ns keys) i (n, k) inside
          (each_weaker (IsAbove key m) (IsAbove key (n + 1)) (λ p a l. let x = a l in omega (arith, x, h)) (take i (zip ns keys)) so_far.above)
          (subst (IsAbove key (n + 1)) (sym pair_is) (λ l. omega arith));
      below = each_weaker (IsBefore key_lt (n, k)) (IsBelow key (n + 1)) (λ p b l. let x = b (earlier_below ties k key p.1 e l) in omega (arith, x)) (zip ns keys) (at_pair (λ p. Each (IsBefore key_lt p) (zip ns keys)) numbers.in_order);
    }

    go : (a b : Bool) → is_earlier ties k key ≡ a → nat_le m n ≡ b → SoFar (zip ns keys) key (suc i) (if a && b then n + 1 else m)
    go true true e f = moves e (let h : m ≤ n = grind (arith, nat_tests) in h)
    go true false e f = stays (λ l. let h : n < m = grind (arith, nat_tests) in h)
    go false b e f = stays (λ l. absurd (later_above ties k key e l))

pub all_looked : (keys : List (List Cell)) (ns : List ℕ) (key : List Cell) (i m : ℕ) → length (zip ns keys) ≤ i → SoFar (zip ns keys) key i m → IsPlace (zip ns keys) key m
all_looked keys ns key i m all so_far = record { low = so_far.low; high = so_far.high; above = subst (λ (l : List (ℕ × List Cell)). Each (IsAbove key m) l) (take_all i (zip ns keys) all) so_far.above; below = so_far.below }

at_any : {A : Type 0} (xs : List A) (i : ℕ) (d e : A) → i < length xs → get_or xs i d ≡ get_or xs i e
at_any [] i d e h = absurd (omega (arith, h))
at_any (x ∷ xs) zero d e h = refl
at_any (x ∷ xs) (suc i) d e h = at_any xs i d e (omega (arith, h))

pub looked : (ties : Ties) (keys : List (List Cell)) (ns : List ℕ) (key : List Cell) (i m n : ℕ) (k : List Cell) (next : ℕ) → Numbers key_lt keys ns → i < length ns → n ≡ get_or ns i 0 → k ≡ get_or keys i k
    → next ≡ next_place ties key m (n, k) → SoFar (zip ns keys) key i m → SoFar (zip ns keys) key (i + 1) next
looked ties keys ns key i m n k next numbers within n_is k_is is so_far =
    let e : suc i ≡ i + 1 = omega arith in
    subst (λ x. SoFar (zip ns keys) key (i + 1) x) (sym is) (subst (λ j. SoFar (zip ns keys) key j (next_place ties key m (n, k))) e (one_looked ties keys ns key i m n k numbers within (n_is ∙ at_any ns i 0 n within) k_is so_far))

pub looked_at_all : (keys : List (List Cell)) (ns : List ℕ) (key : List Cell) (i m : ℕ) → Numbers key_lt keys ns → length ns ≤ i → SoFar (zip ns keys) key i m → IsPlace (zip ns keys) key m
looked_at_all keys ns key i m numbers all so_far =
    all_looked keys ns key i m (let e = length_zip ns keys numbers.as_many in let f = numbers.as_many in omega (arith, all, e, f)) so_far

take_more : {A : Type 0} (xs : List A) (i : ℕ) (d : A) → i < length xs → take (suc i) xs ≡ take i xs ++ get_or xs i d ∷ []
take_more [] i d h = absurd (omega (arith, h))
take_more (x ∷ xs) zero d h = refl
take_more (x ∷ xs) (suc i) d h = ap (λ (l : List _). x ∷ l) (take_more xs i d (omega (arith, h)))

-- the numbers of the first keys, with one more
pub numbered_more : (keys : List (List Cell)) (ns more : List ℕ) (i m : ℕ) (key : List Cell) → i < length keys → key ≡ get_or keys i key → Numbers key_lt (take i keys) ns → IsPlace (zip ns (take i keys)) key m → more ≡ map (raise m) ns ++ m ∷ [] → Numbers key_lt (take (i + 1) keys) more
numbered_more keys ns more i m key within is numbers place made =
    let e : suc i ≡ i + 1 = omega arith in
    let front : take (i + 1) keys ≡ take i keys ++ key ∷ [] = ap (λ n. take n keys) (sym e) ∙ take_more keys i key within ∙ ap (λ (k : List Cell). take i keys ++ k ∷ []) (sym is) in
    subst (λ (l : List (List Cell)). Numbers key_lt l more) (sym front) (subst (λ (l : List ℕ). Numbers key_lt (take i keys ++ key ∷ []) l) (sym made) (one_more (take i keys) ns key m numbers place))
