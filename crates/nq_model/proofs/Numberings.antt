-- However ties are numbered, the number n stands for the n-th key; and key lists are in a total order.
use Rattle.std.proofs.Common.{◌≡◌, ℕ, zero, suc, ◌+◌, ◌<◌, ◌≤◌, List, [], ◌∷◌, map, refl, sym, ap, ◌∙◌, subst, Bool, true, false, length, zip, arith, get_or, ◌-◌, ap₂, subst₂}
use Rattle.std.specs.List.{AllByRecursion as Each}
use Rattle.std.specs.Ordering.{is_lt, ordering_reverse}
use Rattle.std.specs.declared.cmp.Ordering.{Ordering}
use Rattle.std.specs.declared.cmp.Ordering.TheVariants.{Less, Equal, Greater}
use Rattle.std.specs.Cmp.{IsTotalOrder}
use Rattle.std.specs.Cmp.Lexicographic.{slice_cmp, lists_total}
use Rattle.nq_model.specs.Cells.{cell_cmp}
use Rattle.nq_model.proofs.Canonical.{cell_order, lists_tie}
use Rattle.nq_model.specs.Bags.{Pick, here, there, Reordered}
use Rattle.nq_model.specs.Numberings.{Ranks, count_from, numbered, IsBefore, EachTwo, Rises, Numbers, TellsApart, key_lt}
use Rattle.nq_model.proofs.Bags.{pick_length, reordered_refl, reordered_trans, reordered_sym, matched_map}

pub each_pick : {A : Type 0} (P : A → Type 0) {y : A} {ys rest : List A} → Pick y ys rest → Each P ys → P y × Each P rest
each_pick P here e = e
each_pick P (there p) e = let r = each_pick P p e.1 in (r.0, (e.0, r.1))

pub each_put : {A : Type 0} (P : A → Type 0) {y : A} {ys rest : List A} → Pick y ys rest → P y → Each P rest → Each P ys
each_put P here h e = (h, e)
each_put P (there p) h e = (e.0, each_put P p h e.1)

pub each_reordered : {A : Type 0} (P : A → Type 0) (xs ys : List A) → Reordered xs ys → Each P xs → Each P ys
each_reordered P [] ys m e = subst (λ (l : List _). Each P l) (sym m) tt
each_reordered P (x ∷ xs) ys m e = each_put P m.2 (subst P m.3 e.0) (each_reordered P xs m.1 m.4 e.1)

pub each_map : {A : Type 0} (P Q : A → Type 0) → ((x : A) → P x → Q x) → (xs : List A) → Each P xs → Each Q xs
each_map P Q t [] e = tt
each_map P Q t (x ∷ xs) e = (t x e.0, each_map P Q t xs e.1)

pub each_two_reordered : {A : Type 0} (R : A → A → Type 0) (xs ys : List A) → Reordered xs ys → EachTwo R xs → EachTwo R ys
each_two_reordered R xs ys m e =
    each_reordered (λ x. Each (λ y. R x y) ys) xs ys m (each_map (λ x. Each (λ y. R x y) xs) (λ x. Each (λ y. R x y) ys) (λ x h. each_reordered (λ y. R x y) xs ys m h) xs e)

-- what stands beside a picked element
pub pick_zip : {A B : Type 0} {n : A} {ns rest : List A} → Pick n ns rest → (ks : List B) → length ns ≡ length ks → (k : B) × (left : List B) × Pick (n, k) (zip ns ks) (zip rest left) × Pick k ks left
pick_zip here [] e = absurd (omega arith)
pick_zip here (k ∷ ks) e = (k, ks, here, here)
pick_zip (there p) [] e = absurd (omega arith)
pick_zip (there p) (k ∷ ks) e = let r = pick_zip p ks (omega arith) in (r.0, k ∷ r.1, there r.2, there r.3)

pub pick_same : {A : Type 0} {z y : A} {ys left : List A} → Pick z (y ∷ ys) left → z ≡ y → Reordered left ys
pick_same {ys = ys} here e = reordered_refl ys
pick_same {z = z} (there {rest = rest} p) e = (z, rest, p, sym e, reordered_refl rest)

pub reordered_tail : {A : Type 0} (x : A) (xs ys : List A) → Reordered (x ∷ xs) (x ∷ ys) → Reordered xs ys
reordered_tail x xs ys m = reordered_trans xs m.1 ys m.4 (pick_same m.2 (sym m.3))

empty_pick : {A : Type 0} {y : A} {rest : List A} → Pick y [] rest → ⊥
empty_pick p = elim p [ ]

true_or_false : (b : Bool) → (b ≡ true → ⊥) → b ≡ false
true_or_false true h = absurd (h refl)
true_or_false false h = refl

-- two lists that do not fall and have the same elements are one
module _ {K : Type 0} (lt : K → K → Bool) (o : Ranks lt) where
  head_low : (x y : K) (xs ys : List K) → Reordered (x ∷ xs) (y ∷ ys) → Rises lt (y ∷ ys) → lt x y ≡ false
  head_low x y xs ys m g =
      subst (λ z. lt z y ≡ false) (sym m.3) (each_pick (λ z. lt z y ≡ false) m.2 (o.irreflexive y, g.0)).0

  pub same_rising : (xs ys : List K) → Reordered xs ys → Rises lt xs → Rises lt ys → xs ≡ ys
  same_rising [] ys m f g = sym m
  same_rising (x ∷ xs) [] m f g = absurd (empty_pick m.2)
  same_rising (x ∷ xs) (y ∷ ys) m f g =
      let e : x ≡ y = o.connected x y (head_low x y xs ys m g) (head_low y x ys xs (reordered_sym (x ∷ xs) (y ∷ ys) m) f) in
      let t : Reordered xs ys = reordered_tail y xs ys (subst (λ z. Reordered (z ∷ xs) (y ∷ ys)) e m) in
      subst (λ z. x ∷ xs ≡ z ∷ ys) e (ap (λ (l : List K). x ∷ l) (same_rising xs ys t f.1 g.1))

-- a list in another order, with what stands beside each element
pub reordered_zip : {A B : Type 0} (ms ns : List A) (ks : List B) → Reordered ms ns → length ns ≡ length ks → (os : List B) × Reordered (zip ms os) (zip ns ks) × Reordered os ks × (length os ≡ length ms)
reordered_zip [] [] [] m e = ([], refl, refl, refl)
reordered_zip [] [] (k ∷ ks) m e = absurd (omega arith)
reordered_zip [] (n ∷ ns) ks m e = absurd (cc)
reordered_zip (x ∷ ms) ns ks m e =
    let p = pick_zip m.2 ks e in
    let r = reordered_zip ms m.1 p.1 m.4 (omega (arith, pick_length m.2, pick_length p.3)) in
    (p.0 ∷ r.0, ((m.0, p.0), zip m.1 p.1, p.2, ap (λ z. (z, p.0)) m.3, r.1), (p.0, p.1, p.3, refl, r.2), ap suc r.3)

pub zip_count : {K : Type 0} (a : ℕ) (os : List K) → zip (count_from a (length os)) os ≡ numbered a os
zip_count a [] = refl
zip_count a (x ∷ os) = ap (λ (l : List _). (a, x) ∷ l) (zip_count (suc a) os)

-- numbers that keep the order make a list that does not fall
above : {K : Type 0} (lt : K → K → Bool) (x : K) (a b : ℕ) → a < b → (xs : List K) → Each (λ p. IsBefore lt p (a, x)) (numbered b xs) → Each (λ y. lt y x ≡ false) xs
above lt x a b h [] e = tt
above lt x a b h (y ∷ xs) e = (true_or_false (lt y x) (λ t. let u : b < a = e.0 t in omega arith), above lt x a (suc b) (omega arith) xs e.1)

each_two_tail : {A : Type 0} (R : A → A → Type 0) (x : A) (xs : List A) → EachTwo R (x ∷ xs) → EachTwo R xs
each_two_tail R x xs e = each_map (λ y. Each (λ z. R y z) (x ∷ xs)) (λ y. Each (λ z. R y z) xs) (λ y h. h.1) xs e.1

pub rises_numbered : {K : Type 0} (lt : K → K → Bool) (a : ℕ) (xs : List K) → EachTwo (IsBefore lt) (numbered a xs) → Rises lt xs
rises_numbered lt a [] e = tt
rises_numbered lt a (x ∷ xs) e = (
  above lt x a (suc a) (omega arith) xs (each_map (λ p. Each (λ q. IsBefore lt p q) ((a, x) ∷ numbered (suc a) xs)) (λ p. IsBefore lt p (a, x)) (λ p h. h.0) (numbered (suc a) xs) e.1),
  rises_numbered lt (suc a) xs (each_two_tail (IsBefore lt) (a, x) (numbered (suc a) xs) e),
)

-- the fact on numberings: however ties are numbered, the pairs of number and key are those of the sorted keys, counted from 1
pub numbers_fixed : {K : Type 0} (lt : K → K → Bool) → Ranks lt → (keys sorted : List K) (ns : List ℕ) → Numbers lt keys ns → Reordered keys sorted → Rises lt sorted → Reordered (zip ns keys) (numbered 1 sorted)
numbers_fixed lt o keys sorted ns h perm up =
    let r = reordered_zip (count_from 1 (length keys)) ns keys (reordered_sym ns (count_from 1 (length keys)) h.each_once) h.as_many in
    let len : length r.0 ≡ length keys = r.3 ∙ count_length 1 (length keys) in
    let pairs : zip (count_from 1 (length keys)) r.0 ≡ numbered 1 r.0 = subst (λ n. zip (count_from 1 n) r.0 ≡ numbered 1 r.0) len (zip_count 1 r.0) in
    let there_is : Reordered (zip ns keys) (numbered 1 r.0) = subst (λ (l : List _). Reordered (zip ns keys) l) pairs (reordered_sym (zip (count_from 1 (length keys)) r.0) (zip ns keys) r.1) in
    let rising : Rises lt r.0 = rises_numbered lt 1 r.0 (each_two_reordered (IsBefore lt) (zip ns keys) (numbered 1 r.0) there_is h.in_order) in
    let one : r.0 ≡ sorted = same_rising lt o r.0 sorted (reordered_trans r.0 keys sorted r.2 perm) rising up in
    subst (λ (l : List _). Reordered (zip ns keys) (numbered 1 l)) one there_is
  where
    count_length : (a n : ℕ) → length (count_from a n) ≡ n
    count_length a zero = refl
    count_length a (suc n) = ap suc (count_length (suc a) n)

-- the n-th element, counted from a
abbrev IsNth : {K : Type 0} → ℕ → List K → (ℕ × K) → Type 0
IsNth a sorted p = (a ≤ p.0) × (p.0 < a + length sorted) × ((d : _) → get_or sorted (p.0 - a) d ≡ p.1)

each_nth : {K : Type 0} (a : ℕ) (sorted : List K) → Each (IsNth a sorted) (numbered a sorted)
each_nth a [] = tt
each_nth a (k ∷ ks) = (
  (omega arith, omega arith, λ d. let e : a - a ≡ 0 = omega arith in rw e),
  each_map (IsNth (suc a) ks) (IsNth a (k ∷ ks)) (λ p h. (omega (arith, h.0), omega (arith, h.1), λ d. let e : p.0 - a ≡ suc (p.0 - suc a) = omega (arith, h.0) in rw e (h.2 d))) (numbered (suc a) ks) (each_nth (suc a) ks),
)

-- so the combination with the number n has the n-th of the sorted key lists
pub number_stands_for : {K : Type 0} (lt : K → K → Bool) → Ranks lt → (keys sorted : List K) (ns : List ℕ) → Numbers lt keys ns → Reordered keys sorted → Rises lt sorted → Each (IsNth 1 sorted) (zip ns keys)
number_stands_for lt o keys sorted ns h perm up =
    each_reordered (IsNth 1 sorted) (numbered 1 sorted) (zip ns keys) (reordered_sym (zip ns keys) (numbered 1 sorted) (numbers_fixed lt o keys sorted ns h perm up)) (each_nth 1 sorted)

-- the same over elements that their keys tell apart
zip_map_right : {X K : Type 0} (key : X → K) (ns : List ℕ) (xs : List X) → zip ns (map key xs) ≡ map (λ p. (p.0, key p.1)) (zip ns xs)
zip_map_right key [] xs = refl
zip_map_right key (n ∷ ns) [] = refl
zip_map_right key (n ∷ ns) (x ∷ xs) = ap (λ (l : List _). (n, key x) ∷ l) (zip_map_right key ns xs)

numbered_map : {X K : Type 0} (key : X → K) (a : ℕ) (xs : List X) → map (λ (p : ℕ × X). (p.0, key p.1)) (numbered a xs) ≡ numbered a (map key xs)
numbered_map key a [] = refl
numbered_map key a (x ∷ xs) = ap (λ (l : List _). (a, key x) ∷ l) (numbered_map key (suc a) xs)

count_length : (a n : ℕ) → length (count_from a n) ≡ n
count_length a zero = refl
count_length a (suc n) = ap suc (count_length (suc a) n)

pub length_map : {X K : Type 0} (key : X → K) (xs : List X) → length (map key xs) ≡ length xs
length_map key [] = refl
length_map key (x ∷ xs) = ap suc (length_map key xs)

pub reordered_map : {X K : Type 0} (key : X → K) (xs ys : List X) → Reordered xs ys → Reordered (map key xs) (map key ys)
reordered_map key xs ys m = matched_map (λ x y. x ≡ y) (λ x y. x ≡ y) key key (λ x y e. ap key e) xs ys m

same_elements : {X K : Type 0} (key : X → K) (xs ys : List X) → Each (λ x. Each (λ y. key x ≡ key y → x ≡ y) ys) xs → map key xs ≡ map key ys → xs ≡ ys
same_elements key [] [] h e = refl
same_elements key [] (y ∷ ys) h e = absurd (cc)
same_elements key (x ∷ xs) [] h e = absurd (cc)
same_elements key (x ∷ xs) (y ∷ ys) h e =
    let k : key x ≡ key y = cc in
    let t : map key xs ≡ map key ys = cc in
    ap₂ (λ z (l : List _). z ∷ l) (h.0.0 k) (same_elements key xs ys (each_map (λ x. Each (λ z. key x ≡ key z → x ≡ z) (y ∷ ys)) (λ x. Each (λ z. key x ≡ key z → x ≡ z) ys) (λ z g. g.1) xs h.1) t)

pub numbers_fixed_by : {X K : Type 0} (lt : K → K → Bool) (key : X → K) → Ranks lt → (xs sorted : List X) (ns : List ℕ) → TellsApart key xs → Numbers lt (map key xs) ns → Reordered xs sorted → Rises lt (map key sorted) → Reordered (zip ns xs) (numbered 1 sorted)
numbers_fixed_by lt key o xs sorted ns apart h perm up =
    let n = length (map key xs) in
    let many : length ns ≡ length xs = h.as_many ∙ length_map key xs in
    let r = reordered_zip (count_from 1 n) ns xs (reordered_sym ns (count_from 1 n) h.each_once) many in
    let len : length r.0 ≡ n = r.3 ∙ count_length 1 n in
    let pairs : zip (count_from 1 n) r.0 ≡ numbered 1 r.0 = subst (λ m. zip (count_from 1 m) r.0 ≡ numbered 1 r.0) len (zip_count 1 r.0) in
    let there_is : Reordered (zip ns xs) (numbered 1 r.0) = subst (λ (l : List _). Reordered (zip ns xs) l) pairs (reordered_sym (zip (count_from 1 n) r.0) (zip ns xs) r.1) in
    let keyed : Reordered (zip ns (map key xs)) (numbered 1 (map key r.0)) = subst₂ (λ (a b : List _). Reordered a b) (sym (zip_map_right key ns xs)) (numbered_map key 1 r.0) (reordered_map (λ p. (p.0, key p.1)) (zip ns xs) (numbered 1 r.0) there_is) in
    let rising : Rises lt (map key r.0) = rises_numbered lt 1 (map key r.0) (each_two_reordered (IsBefore lt) (zip ns (map key xs)) (numbered 1 (map key r.0)) keyed h.in_order) in
    let to_sorted : Reordered r.0 sorted = reordered_trans r.0 xs sorted r.2 perm in
    let keys : map key r.0 ≡ map key sorted = same_rising lt o (map key r.0) (map key sorted) (reordered_map key r.0 sorted to_sorted) rising up in
    let both = each_two_mixed (λ x y. key x ≡ key y → x ≡ y) xs r.0 sorted (reordered_sym r.0 xs r.2) perm apart in
    let one : r.0 ≡ sorted = same_elements key r.0 sorted both keys in
    subst (λ (l : List _). Reordered (zip ns xs) (numbered 1 l)) one there_is
  where
    each_two_mixed : {A : Type 0} (R : A → A → Type 0) (xs ys zs : List A) → Reordered xs ys → Reordered xs zs → EachTwo R xs → Each (λ y. Each (λ z. R y z) zs) ys
    each_two_mixed R xs ys zs m n e = each_reordered (λ y. Each (λ z. R y z) zs) xs ys m (each_map (λ x. Each (λ y. R x y) xs) (λ x. Each (λ z. R x z) zs) (λ x g. each_reordered (λ z. R x z) xs zs n g) xs e)

-- key lists are in a total order
lt_less : (r : Ordering) → is_lt r ≡ true → r ≡ Less
lt_less Less h = refl
lt_less Equal h = absurd (cc)
lt_less Greater h = absurd (cc)

neither : (r s : Ordering) → r ≡ ordering_reverse s → is_lt r ≡ false → is_lt s ≡ false → r ≡ Equal
neither Less s e h k = absurd (cc)
neither Equal s e h k = refl
neither Greater Less e h k = absurd (cc)
neither Greater Equal e h k = absurd (cc)
neither Greater Greater e h k = absurd (cc)

own : (r : Ordering) → r ≡ ordering_reverse r → is_lt r ≡ false
own Less e = absurd (cc)
own Equal e = refl
own Greater e = refl

keys_total : IsTotalOrder (slice_cmp cell_cmp)
keys_total = lists_total cell_order.total

pub key_ranks : Ranks key_lt
key_ranks = record {
  irreflexive = λ x. own (slice_cmp cell_cmp x x) (keys_total.antisymm x x);
  transitive = λ x y z h k. ap is_lt (keys_total.trans x y z (lt_less (slice_cmp cell_cmp x y) h) (lt_less (slice_cmp cell_cmp y z) k));
  connected = λ x y h k. lists_tie cell_cmp cell_order.ties x y (neither (slice_cmp cell_cmp x y) (slice_cmp cell_cmp y x) (keys_total.antisymm x y) h k);
}
