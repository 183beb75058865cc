-- The numbers that ROW_NUMBER may deal, with free ties (SQL:2003), and the order of key lists.
use Rattle.std.specs.Prelude.{◌≡◌, ℕ, zero, suc, ◌<◌, List, [], ◌∷◌, length, Bool, true, false, zip, ⊤}
use Rattle.std.specs.List.{AllByRecursion as Each}
use Rattle.std.specs.Ordering.{is_lt}
use Rattle.std.specs.Cmp.Lexicographic.{slice_cmp}
use Rattle.nq_model.specs.Cells.{cell_cmp}
use Rattle.nq_model.specs.declared.table.Cell.{Cell}
use Rattle.nq_model.specs.Bags.{Reordered}

-- a strict test of keys that is a total order
pub record Ranks {K : Type 0} (lt : K → K → Bool) : Type 0 where
  pub irreflexive : (x : K) → lt x x ≡ false
  pub transitive : (x y z : K) → lt x y ≡ true → lt y z ≡ true → lt x z ≡ true
  pub connected : (x y : K) → lt x y ≡ false → lt y x ≡ false → x ≡ y

-- a, a + 1 and so on, n of them
abbrev pub count_from : ℕ → ℕ → List ℕ
count_from a zero = []
count_from a (suc n) = a ∷ count_from (suc a) n

-- each element with its number from a on
abbrev pub numbered : {K : Type 0} → ℕ → List K → List (ℕ × K)
numbered a [] = []
numbered a (k ∷ ks) = (a, k) ∷ numbered (suc a) ks

-- of two elements the one with the smaller key has the smaller number
abbrev pub IsBefore : {K : Type 0} → (K → K → Bool) → (ℕ × K) → (ℕ × K) → Type 0
IsBefore lt p q = lt p.1 q.1 ≡ true → p.0 < q.0

-- R holds of each two elements, in both directions
abbrev pub EachTwo : {A : Type 0} → (A → A → Type 0) → List A → Type 0
EachTwo R xs = Each (λ x. Each (λ y. R x y) xs) xs

-- the list does not fall
abbrev pub Rises : {K : Type 0} → (K → K → Bool) → List K → Type 0
Rises lt [] = ⊤
Rises lt (x ∷ xs) = Each (λ y. lt y x ≡ false) xs × Rises lt xs

-- ns are numbers that a numbering may deal to elements with these keys: each of 1 to n once, a smaller key a smaller number, and ties in any way
pub record Numbers {K : Type 0} (lt : K → K → Bool) (keys : List K) (ns : List ℕ) : Type 0 where
  pub as_many : length ns ≡ length keys
  pub each_once : Reordered ns (count_from 1 (length keys))
  pub in_order : EachTwo (IsBefore lt) (zip ns keys)

-- key lists are compared by the first cell that differs, a prefix before the longer
abbrev pub key_lt : List Cell → List Cell → Bool
key_lt xs ys = is_lt (slice_cmp cell_cmp xs ys)

-- the keys of these elements tell them apart
abbrev pub TellsApart : {X K : Type 0} → (X → K) → List X → Type 0
TellsApart key xs = EachTwo (λ x y. key x ≡ key y → x ≡ y) xs
