-- Runs of places whose rows stand under one index.
use Rattle.std.proofs.Common.{◌≡◌, ℕ, ℤ, zero, suc, ◌+◌, ◌-◌, ◌<◌, List, [], ◌∷◌, ◌++◌, refl, sym, ap, ap₂, ◌∙◌, subst, Bool, true, false, cond, ◌&&◌, filter, get_or, length, take, drop, drop-cons, slice_range, All, arith}
use Rattle.std.specs.List.{AllByRecursion as Each}
use Rattle.std.specs.Ordering.{int_eq}
use Rattle.std.proofs.lemmas.Bool.Decides.{Decides-int_eq}
use Rattle.std.proofs.lemmas.List.Elements.{recursion_from_All}
use Rattle.nq_model.specs.declared.table.Cell.{Cell}
use Rattle.answer_text.specs.Indexes.{is_index}
use Rattle.answer_text.specs.Spans.{index_of}

-- 1. indexes

both : (a b : Bool) → a && b ≡ true → (a ≡ true) × (b ≡ true)
both true b h = (refl, h)
both false b h = absurd (cc)

pub same_index : (i j : ℤ × ℤ) → is_index i j ≡ true → i ≡ j
same_index i j h =
    let parts = both (int_eq i.0 j.0) (int_eq i.1 j.1) h in
    ap₂ (λ (x y : ℤ). (x, y)) ((Decides-int_eq i.0 j.0).0 parts.0)
    ((Decides-int_eq i.1 j.1).0 parts.1)

pub index_itself : (i : ℤ × ℤ) → is_index i i ≡ true
index_itself i = ap₂ (λ (a b : Bool). a && b) ((Decides-int_eq i.0 i.0).1 refl)
    ((Decides-int_eq i.1 i.1).1 refl)

-- 2. lists

take_none : (k : ℕ) → take {A = ℕ} k [] ≡ []
take_none zero = refl
take_none (suc k) = refl

pub take_split : (xs : List ℕ) (m k n : ℕ) → n ≡ m + k → take n xs ≡ take m xs ++ take k (drop m xs)
take_split xs zero k n e = ap (λ j. take j xs) (let same : n ≡ k = omega (arith, e) in same)
take_split [] (suc m) k zero e = absurd (omega (arith, e))
take_split [] (suc m) k (suc n) e = sym (take_none k)
take_split (x ∷ xs) (suc m) k zero e = absurd (omega (arith, e))
take_split (x ∷ xs) (suc m) k (suc n) e = ap (λ (l : List ℕ). x ∷ l)
    (take_split xs m k n (omega (arith, e)))

pub filter_both : (q : ℕ → Bool) (xs ys : List ℕ) → filter q (xs ++ ys) ≡ filter q xs ++ filter q ys
filter_both q [] ys = refl
filter_both q (x ∷ xs) ys = go (q x) (filter_both q xs ys)
  where
    go : (b : Bool) → filter q (xs ++ ys) ≡ filter q xs ++ filter q ys
        → cond b (x ∷ filter q (xs ++ ys)) (filter q (xs ++ ys))
        ≡ cond b (x ∷ filter q xs) (filter q xs) ++ filter q ys
    go true rest = ap (λ (l : List ℕ). x ∷ l) rest
    go false rest = rest

pub filter_all : (q : ℕ → Bool) (xs : List ℕ) → Each (λ x. q x ≡ true) xs → filter q xs ≡ xs
filter_all q [] h = refl
filter_all q (x ∷ xs) h = ap (λ (b : Bool). cond b (x ∷ filter q xs) (filter q xs)) h.0
    ∙ ap (λ (l : List ℕ). x ∷ l) (filter_all q xs h.1)

pub filter_no : (q : ℕ → Bool) (xs : List ℕ) → Each (λ x. q x ≡ false) xs → filter q xs ≡ []
filter_no q [] h = refl
filter_no q (x ∷ xs) h = ap (λ (b : Bool). cond b (x ∷ filter q xs) (filter q xs)) h.0
    ∙ filter_no q xs h.1

pub each_also : (P Q : ℕ → Type 0) → ((x : ℕ) → P x → Q x) → (xs : List ℕ) → Each P xs → Each Q xs
each_also P Q f [] h = tt
each_also P Q f (x ∷ xs) h = (f x h.0, each_also P Q f xs h.1)

-- 3. runs

module _ (rows : List (List Cell)) (places : List ℕ) where
  -- the places of a run, from its first
  pub run_each : (start n end : ℕ) (index : ℤ × ℤ) → start < length places → end ≡ start + 1 + n
      → index ≡ index_of rows (get_or places start 0)
      → All (λ p. is_index (index_of rows p) index ≡ true) (take n (drop (start + 1) places))
      → Each (λ p. is_index (index_of rows p) index ≡ true) (slice_range places start end)
  run_each start n end index below e own more =
      let P : ℕ → Type 0 = λ p. is_index (index_of rows p) index ≡ true in
      let next : suc start ≡ start + 1 = omega arith in
      let many : end - start ≡ suc n = omega (arith, e) in
      let run : slice_range places start end ≡ get_or places start 0
      ∷ take n (drop (start + 1) places) = ap₂ (λ (k : ℕ) (l : List ℕ). take k l) many
      (drop-cons places start 0 below ∙ ap (λ (k : ℕ). get_or places start 0
      ∷ drop k places) next) in
      let first : P (get_or places start 0) = subst (λ (i : ℤ × ℤ). is_index i index ≡ true) own
      (index_itself index) in
      subst (Each P) (sym run) (first, recursion_from_All P (take n (drop (start + 1) places)) more)
