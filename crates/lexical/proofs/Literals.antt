-- A literal closes at a quote.
use Rattle.std.proofs.Common.{◌≡◌, ℕ, suc, ◌+◌, ◌-◌, ◌≤◌, ◌<◌, Bool, true, false, true≢false, if◌then◌else◌, get_or, ◌⊎◌, inl, inr, option_map, List, [], ◌∷◌, length, drop, Option, Some, None, refl, ap, sym, ◌∙◌, arith}
use Rattle.std.proofs.lemmas.Bool.Decides.{nat_tests}
use Rattle.std.proofs.lemmas.List.{get_or-drop, length-drop}
use Rattle.nq_model.specs.QueryTokens.{is_quote, literal_len}

-- a literal closes at a quote
abbrev pub Closes : Bool → List ℕ → ℕ → Type 0
Closes after bs n = ((n ≡ 0) × (after ≡ true)) ⊎ ((1 ≤ n) × (n ≤ length bs) × (get_or bs (n - 1) 0 ≡ 39))

one_more : (after : Bool) (b : ℕ) (bs : List ℕ) (n m : ℕ) → (after ≡ true → b ≡ 39) → Closes after bs n → m ≡ suc n → Closes false (b ∷ bs) m
one_more after b bs n m q (inl z) e =
    inr (omega (arith, e), omega (arith, e, z.0), let g : m - 1 ≡ 0 = omega (arith, e, z.0) in rw g (q z.1))
one_more after b bs n m q (inr h) e =
    let g : m - 1 ≡ suc (n - 1) = omega (arith, e, h.0) in
    let l = h.1 in
    inr (omega (arith, e), omega (arith, e, l), rw g h.2)

from_false : (b : ℕ) (bs : List ℕ) (m : ℕ) → Closes false bs m → Closes true bs m
from_false b bs m (inl z) = absurd (cc)
from_false b bs m (inr h) = inr h

is_39 : (b : ℕ) → is_quote b ≡ true → b ≡ 39
is_39 b e = grind (arith, nat_tests)

some_is : (o : Option ℕ) (m : ℕ) → option_map suc o ≡ Some m → (n : ℕ) × (o ≡ Some n) × (m ≡ suc n)
some_is None m e = absurd (cc)
some_is (Some n) m e = (n, refl, sym (some_same (suc n) m e))
  where
    some_same : (a b : ℕ) → Some a ≡ Some b → a ≡ b
    some_same a b e = cc

pub literal_closes : (after : Bool) (bs : List ℕ) (m : ℕ) → literal_len after bs ≡ Some m → Closes after bs m
literal_closes false [] m e = absurd (cc)
literal_closes true [] m e = inl (some_zero m e, refl)
  where
    some_zero : (m : ℕ) → Some 0 ≡ Some m → m ≡ 0
    some_zero m e = cc
literal_closes false (b ∷ bs) m e =
    let s = some_is (literal_len (is_quote b) bs) m e in
    one_more (is_quote b) b bs s.0 m (is_39 b) (literal_closes (is_quote b) bs s.0 s.1) s.2
literal_closes true (b ∷ bs) m e = by (is_quote b) refl e (λ n h. literal_closes false bs n h)
  where
    some_zero : (m : ℕ) → Some 0 ≡ Some m → m ≡ 0
    some_zero m e = cc

    by : (q : Bool) → is_quote b ≡ q → (if q then option_map suc (literal_len false bs) else Some 0) ≡ Some m → ((n : ℕ) → literal_len false bs ≡ Some n → Closes false bs n) → Closes true (b ∷ bs) m
    by true h g r = let s = some_is (literal_len false bs) m g in from_false b (b ∷ bs) m (one_more false b bs s.0 m (λ x. absurd (cc)) (r s.0 s.1) s.2)
    by false h g r = inl (some_zero m g, refl)

pub literal_within : (bs : List ℕ) (m : ℕ) → literal_len false bs ≡ Some m → m ≤ length bs
literal_within bs m e = elim (literal_closes false bs m e) [ inl z ↦ omega (arith, z.0) | inr h ↦ h.1 ]

-- the quote that closes a literal, in the whole text
pub closing : (text rest : List ℕ) (place n : ℕ) → rest ≡ drop (place + 1) text → place < length text → literal_len false rest ≡ Some n
    → (1 ≤ n) × (place + n < length text) × (get_or text (place + n) 0 ≡ 39)
closing text rest place n e h k = elim (literal_closes false rest n k) as (λ _. (1 ≤ n) × (place + n < length text) × (get_or text (place + n) 0 ≡ 39)) [
  | inl z ↦ absurd (true≢false (sym z.1))
  | inr c ↦ by c.0 c.1 c.2
]
  where
    by : 1 ≤ n → n ≤ length rest → get_or rest (n - 1) 0 ≡ 39 → (1 ≤ n) × (place + n < length text) × (get_or text (place + n) 0 ≡ 39)
    by p q r =
        let l : length rest ≡ length text - (place + 1) = ap length e ∙ length-drop (place + 1) text in
        let i : place + n ≡ place + 1 + (n - 1) = omega (arith, p) in
        (p, omega (arith, q, l, h), ap (λ m. get_or text m 0) i ∙ sym (get_or-drop (place + 1) text (n - 1) 0) ∙ ap (λ (l : List ℕ). get_or l (n - 1) 0) (sym e) ∙ r)
