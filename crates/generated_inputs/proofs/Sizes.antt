-- Words that name a size.
use Rattle.std.proofs.Common.{◌≡◌, ◌+◌, ◌<◌, ◌≤◌, ℕ, Bool, true, false, not, ◌&&◌, nat_eq, nat_le, List, [], ◌∷◌, length, All, Some, None, cond, refl, sym, ap, ◌∙◌, subst, arith}
use Rattle.std.proofs.lemmas.List.{take_all}
use Rattle.std.proofs.lemmas.Bool.Decides.{nat_tests}
use Rattle.std.specs.List.{prefix_len}
use Rattle.nq_model.specs.QueryTokens.{is_digit, value_from}
use Rattle.lexical.specs.Digits.{IsDigit}
use Rattle.lexical.proofs.Fronts.{all_run}
use Rattle.generated_inputs.specs.Sizes.{size_of}

-- a word of digits alone
pub digits_alone : (word : List ℕ) → length word ≤ prefix_len is_digit word → All IsDigit word
digits_alone word h =
    subst (λ (l : List ℕ). All IsDigit l) (take_all (prefix_len is_digit word) word h) (all_run is_digit IsDigit is_one word)
  where
    is_one : (c : ℕ) → is_digit c ≡ true → IsDigit c
    is_one c e = (grind (arith, nat_tests), grind (arith, nat_tests))

second_fails : (a b c d : Bool) (v : ℕ) → b ≡ false → None ≡ cond (a && (b && (c && d))) (Some v) None
second_fails true true c d v e = absurd (cc)
second_fails true false c d v e = refl
second_fails false b c d v e = refl

third_fails : (a b c d : Bool) (v : ℕ) → c && d ≡ false → None ≡ cond (a && (b && (c && d))) (Some v) None
third_fails true true c d v e = ap (λ (t : Bool). cond t (Some v) None) (sym e)
third_fails true false c d v e = refl
third_fails false b c d v e = refl

all_hold : (a b c d : Bool) (v : ℕ) → a ≡ true → b ≡ true → c ≡ true → d ≡ true → Some v ≡ cond (a && (b && (c && d))) (Some v) None
all_hold true true true true v e f g h = refl
all_hold false b c d v e f g h = absurd (cc)
all_hold true false c d v e f g h = absurd (cc)
all_hold true true false d v e f g h = absurd (cc)
all_hold true true true false v e f g h = absurd (cc)

pub no_word : (word : List ℕ) → length word ≡ 0 → None ≡ size_of word
unfolding size_of
no_word [] e = refl
no_word (b ∷ bs) e = absurd (omega (arith, e))

pub zero_first : (word : List ℕ) (b : ℕ) (bs : List ℕ) → word ≡ b ∷ bs → nat_eq b 48 ≡ true → None ≡ size_of word
unfolding size_of
zero_first word b bs is zero = go (nat_eq b 48) zero ∙ ap size_of (sym is)
  where
    go : (t : Bool) → t ≡ true → None ≡ cond (not t && (nat_eq (prefix_len is_digit (b ∷ bs)) (length (b ∷ bs)) && (nat_le 1 (value_from 0 (b ∷ bs)) && nat_le (value_from 0 (b ∷ bs)) 5000))) (Some (value_from 0 (b ∷ bs))) None
    go true e = refl
    go false e = absurd (cc)

pub other_bytes : (word : List ℕ) → prefix_len is_digit word < length word → None ≡ size_of word
unfolding size_of
other_bytes [] h = refl
other_bytes (b ∷ bs) h =
    let differ : nat_eq (prefix_len is_digit (b ∷ bs)) (length (b ∷ bs)) ≡ false = grind (arith, nat_tests, h) in
    second_fails (not (nat_eq b 48)) (nat_eq (prefix_len is_digit (b ∷ bs)) (length (b ∷ bs))) (nat_le 1 (value_from 0 (b ∷ bs))) (nat_le (value_from 0 (b ∷ bs)) 5000) (value_from 0 (b ∷ bs)) differ

pub out_of_range : (word : List ℕ) → nat_le 1 (value_from 0 word) && nat_le (value_from 0 word) 5000 ≡ false → None ≡ size_of word
unfolding size_of
out_of_range [] e = refl
out_of_range (b ∷ bs) e =
    third_fails (not (nat_eq b 48)) (nat_eq (prefix_len is_digit (b ∷ bs)) (length (b ∷ bs))) (nat_le 1 (value_from 0 (b ∷ bs))) (nat_le (value_from 0 (b ∷ bs)) 5000) (value_from 0 (b ∷ bs)) e

pub too_small : (word : List ℕ) (value : ℕ) → value ≡ value_from 0 word → value < 1 → None ≡ size_of word
too_small word value is h = out_of_range word (ap (λ (v : ℕ). nat_le 1 v && nat_le v 5000) (sym is) ∙ small)
  where
    small : nat_le 1 value && nat_le value 5000 ≡ false
    small = grind (arith, nat_tests, h)

pub too_great : (word : List ℕ) (value : ℕ) → value ≡ value_from 0 word → 5000 < value → None ≡ size_of word
too_great word value is h = out_of_range word (ap (λ (v : ℕ). nat_le 1 v && nat_le v 5000) (sym is) ∙ great)
  where
    great : nat_le 1 value && nat_le value 5000 ≡ false
    great = grind (arith, nat_tests, h)

pub within : (word : List ℕ) (c value : ℕ) (cs : List ℕ) → word ≡ c ∷ cs → nat_eq c 48 ≡ false → length word ≤ prefix_len is_digit word → value ≡ value_from 0 word → 1 ≤ value → value ≤ 5000
    → Some value ≡ size_of word
unfolding size_of
within word c value cs is nonzero all_digits value_is from to =
    let digits : length (c ∷ cs) ≤ prefix_len is_digit (c ∷ cs) = subst (λ (l : List ℕ). length l ≤ prefix_len is_digit l) is all_digits in
    let is_value : value ≡ value_from 0 (c ∷ cs) = value_is ∙ ap (value_from 0) is in
    let run : prefix_len is_digit (c ∷ cs) ≤ length (c ∷ cs) = prefix_within (c ∷ cs) in
    let first : not (nat_eq c 48) ≡ true = ap not nonzero in
    let all : nat_eq (prefix_len is_digit (c ∷ cs)) (length (c ∷ cs)) ≡ true = grind (arith, nat_tests, run, digits) in
    let low : nat_le 1 (value_from 0 (c ∷ cs)) ≡ true = ap (λ (v : ℕ). nat_le 1 v) (sym is_value) ∙ is_low in
    let high : nat_le (value_from 0 (c ∷ cs)) 5000 ≡ true = ap (λ (v : ℕ). nat_le v 5000) (sym is_value) ∙ is_high in
    ap (λ (v : ℕ). Some v) is_value
    ∙ all_hold (not (nat_eq c 48)) (nat_eq (prefix_len is_digit (c ∷ cs)) (length (c ∷ cs))) (nat_le 1 (value_from 0 (c ∷ cs))) (nat_le (value_from 0 (c ∷ cs)) 5000) (value_from 0 (c ∷ cs)) first all low high
    ∙ ap size_of (sym is)
  where
    prefix_within : (bs : List ℕ) → prefix_len is_digit bs ≤ length bs
    prefix_within [] = omega arith
    prefix_within (d ∷ ds) = by (is_digit d) (prefix_within ds)
      where
        by : (t : Bool) → prefix_len is_digit ds ≤ length ds → cond t (1 + prefix_len is_digit ds) 0 ≤ length (d ∷ ds)
        by true h = omega (arith, h)
        by false h = omega arith

    is_low : nat_le 1 value ≡ true
    is_low = grind (arith, nat_tests, from)

    is_high : nat_le value 5000 ≡ true
    is_high = grind (arith, nat_tests, to)

pub ruleset size_rules = (digits_alone, no_word, zero_first, other_bytes, too_small, too_great, within)
