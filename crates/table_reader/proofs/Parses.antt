-- What `parse` says of a cell's number.
use Rattle.std.proofs.Common.{◌≡◌, ◌≢◌, ◌<◌, ◌+◌, ◌^◌, ◌==◌, ◌&&◌, ℕ, ℤ, pos, nat_lt, Bool, true, false, List, [], ◌∷◌, length, get_or, Option, Some, None, Result, Ok, Err, refl, ap, arith, if◌then◌else◌, w64}
use Rattle.std.specs.Result.{OkIff, result_ok}
use Rattle.std.specs.Str.{all_ascii_digits}
use Rattle.std.specs.Str.Parse.{digits_value, ParsesSigned}
use Rattle.std.proofs.lemmas.Str.Parse.{IsNumeralModel, numerals_by_value, tells_all_ascii_digits, parse_signed_minus, parse_signed_plain}
use Rattle.table_reader.specs.Spelling.{is_numeral, minus_of, plain_of, int_of}

own : IsNumeralModel (λ ds. all_ascii_digits ds ≡ true) (digits_value 10)
own = numerals_by_value (λ ds. all_ascii_digits ds ≡ true) tells_all_ascii_digits

-- what is right exactly where a fact holds is what a test of the fact chooses
chosen : {E : Type 0} (r : Result ℤ E) (Q : Type 0) (x : ℤ) (b : Bool) → OkIff r Q x → (b ≡ true → Q) → (Q → b ≡ true) → result_ok r ≡ (if b then Some x else None)
chosen (Ok y) Q x true (q, e) to from = ap Some e
chosen (Ok y) Q x false (q, e) to from = let wrong : false ≡ true = from q in cc
chosen (Err e) Q x true never to from = absurd (never (to refl))
chosen (Err e) Q x false never to from = refl

both : (a b c : Bool) → (a && (b && c)) ≡ true → (a ≡ true) × (b ≡ true) × (c ≡ true)
both true true c h = (refl, refl, h)
both true false c h = cc
both false b c h = cc

joined : (a b c : Bool) → a ≡ true → b ≡ true → c ≡ true → (a && (b && c)) ≡ true
joined a b c p q r = rw (p, q, r) refl

pub numeral_to : (ds : List ℕ) (n : ℕ) → is_numeral ds n ≡ true → (all_ascii_digits ds ≡ true) × (0 < length ds) × (digits_value 10 ds < n)
numeral_to ds n h =
    let parts = both (all_ascii_digits ds) (nat_lt 0 (length ds)) (nat_lt (digits_value 10 ds) n) h in
    (parts.0, grind (arith, parts.1), grind (arith, parts.2))

numeral_from : (ds : List ℕ) (n : ℕ) → (all_ascii_digits ds ≡ true) × (0 < length ds) × (digits_value 10 ds < n) → is_numeral ds n ≡ true
numeral_from ds n h =
    joined (all_ascii_digits ds) (nat_lt 0 (length ds)) (nat_lt (digits_value 10 ds) n) h.0 (grind (arith, h.1)) (grind (arith, h.2))

minus_parsed : {E : Type 0} (c : ℕ) (ds : List ℕ) (r : Result ℤ E) → ParsesSigned w64 10 (c ∷ ds) r → c ≡ 45 → result_ok r ≡ minus_of ds
minus_parsed c ds r h e =
    chosen r _ _ (is_numeral ds (2 ^ 63 + 1)) (parse_signed_minus own w64 (c ∷ ds) r h e)
    (λ t. let p = numeral_to ds (2 ^ 63 + 1) t in (p.0, p.1, omega (arith, p.2)))
    (λ q. numeral_from ds (2 ^ 63 + 1) (q.0, q.1, omega (arith, q.2)))

plain_parsed : {E : Type 0} (c : ℕ) (ds : List ℕ) (r : Result ℤ E) → ParsesSigned w64 10 (c ∷ ds) r → c ≢ 45 → c ≢ 43 → result_ok r ≡ plain_of (c ∷ ds)
plain_parsed c ds r h e f =
    chosen r _ _ (is_numeral (c ∷ ds) (2 ^ 63)) (parse_signed_plain own w64 (c ∷ ds) r h f e)
    (λ t. let p = numeral_to (c ∷ ds) (2 ^ 63) t in (p.0, p.1, p.2))
    (λ q. numeral_from (c ∷ ds) (2 ^ 63) (q.0, q.1, q.2))

by_sign : (b : Bool) (c : ℕ) (x y z : Option ℤ) → (c == 45) ≡ b → (c ≡ 45 → x ≡ y) → (c ≢ 45 → x ≡ z) → x ≡ (if b then y else z)
by_sign true c x y z e here there = here (grind (arith, e))
by_sign false c x y z e here there = there (λ same. grind (arith, e, same))

pub parsed : {E : Type 0} (bs : List ℕ) (r : Result ℤ E) → ParsesSigned w64 10 bs r → get_or bs 0 0 ≢ 43 → result_ok r ≡ int_of bs
unfolding int_of
parsed [] r h f = chosen r _ (pos 0) false (parse_signed_plain own w64 [] r h f (λ e. grind (arith, e))) (λ e. cc) (λ q. absurd (omega (arith, q.1)))
parsed (c ∷ ds) r h f = by_sign (c == 45) c (result_ok r) (minus_of ds) (plain_of (c ∷ ds)) refl (minus_parsed c ds r h) (λ e. plain_parsed c ds r h e f)

pub plus_is_none : (bs : List ℕ) → get_or bs 0 0 ≡ 43 → int_of bs ≡ None
unfolding int_of
plus_is_none [] e = refl
plus_is_none (c ∷ ds) e = rw e refl

pub ruleset int_rules = (parsed, plus_is_none)
