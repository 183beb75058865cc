-- The names in the text of a let form can be written.
use Rattle.std.proofs.Common.{◌≡◌, ◌≢◌, ℕ, zero, suc, ◌+◌, ◌≤◌, ◌<◌, ◌^◌, [], ◌∷◌, ◌++◌, length, Contains, arith, length-append, ⊎_elim}
use Rattle.std.specs.List.{AllByRecursion as Each}
use Rattle.std.specs.Int.Digits.{digits_of}
use Rattle.std.proofs.lemmas.Int.Digits.{length-digits_of-le}
use Rattle.std.proofs.lemmas.List.Elements.{Contains-append_cases}
use Rattle.nq_model.specs.NamedRows.{Label}
use Rattle.nq_model.specs.Tables.{IsProperName}
use Rattle.nq_model.proofs.Numberings.{length_map}
use Rattle.sql_profile.specs.WritableNames.{IsWritableName}
use Rattle.flatten.specs.Names.{number_text, with_name, let_alias, alias, outer_column, number_name, answer_name, one_name}
use Rattle.flatten.proofs.Apart.{number_text_above}

abbrev pub Plain : Label → Type 0
Plain l = Contains l 34 → ⊥

plain_digits : (xs : Label) → Each (λ c. 48 ≤ c) xs → Plain xs
plain_digits [] h (k, within, is) = absurd (omega (arith, within))
plain_digits (x ∷ xs) h (zero, within, is) = let e : x ≡ 34 = is in absurd (omega (arith, e, h.0))
plain_digits (x ∷ xs) h (suc k, within, is) = plain_digits xs h.1 (k, omega (arith, within), is)

pub plain_cons : (c : ℕ) (xs : Label) → c ≢ 34 → Plain xs → Plain (c ∷ xs)
plain_cons c xs other h (zero, within, is) = absurd (other is)
plain_cons c xs other h (suc k, within, is) = h (k, omega (arith, within), is)

plain_none : Plain []
plain_none (k, within, is) = absurd (omega (arith, within))

plain_append : (xs ys : Label) → Plain xs → Plain ys → Plain (xs ++ ys)
plain_append xs ys h k m = ⊎_elim (λ a. h a) (λ b. k b) (Contains-append_cases xs ys 34 m)

pub number_plain : (k : ℕ) → Plain (number_text k)
number_plain k = plain_digits (number_text k) (number_text_above k)

pub number_short : (k : ℕ) → k < 2 ^ 63 → length (number_text k) ≤ 19
number_short zero h = omega arith
number_short (suc k) h =
    let few : length (digits_of 10 (suc k)) ≤ 19 = length-digits_of-le 10 19 (suc k) (omega arith) (omega (arith, h)) in
    omega (arith, few, length_map (λ d. 48 + d) (digits_of 10 (suc k)))

pub proper_writable : (l : Label) → IsProperName l → IsWritableName l
proper_writable l h = record { some = omega (arith, h.some_byte); few = omega (arith, h.short); no_quote = h.no_quote }

pub with_writable : (k : ℕ) → k < 2 ^ 63 → IsWritableName (with_name k)
unfolding with_name
with_writable k h = record {
  some = omega arith;
  few = omega (arith, number_short k h);
  no_quote = plain_cons 113 (46 ∷ number_text k) (λ (e : 113 ≡ 34). omega (arith, e)) (plain_cons 46 (number_text k) (λ (e : 46 ≡ 34). omega (arith, e)) (number_plain k));
}

pub alias_writable : (k : ℕ) → k < 2 ^ 63 → IsWritableName (alias k)
unfolding alias
alias_writable k h = record {
  some = omega arith;
  few = omega (arith, number_short k h);
  no_quote = plain_cons 120 (number_text k) (λ (e : 120 ≡ 34). omega (arith, e)) (number_plain k);
}

pub outer_writable : (k : ℕ) (l : Label) → k < 2 ^ 63 → IsProperName l → IsWritableName (outer_column k l)
unfolding outer_column
outer_writable k l h p = record {
  some = omega arith;
  few = omega (arith, number_short k h, p.short, length-append (number_text k) (46 ∷ l));
  no_quote = plain_cons 120 (number_text k ++ 46 ∷ l) (λ (e : 120 ≡ 34). omega (arith, e)) (plain_append (number_text k) (46 ∷ l) (number_plain k) (plain_cons 46 l (λ (e : 46 ≡ 34). omega (arith, e)) p.no_quote));
}

pub let_writable : IsWritableName let_alias
unfolding let_alias
let_writable = record { some = omega arith; few = omega arith; no_quote = plain_cons 122 [] (λ (e : 122 ≡ 34). omega (arith, e)) plain_none }

pub number_writable : IsWritableName number_name
unfolding number_name
number_writable = record { some = omega arith; few = omega arith; no_quote = plain_cons 110 [] (λ (e : 110 ≡ 34). omega (arith, e)) plain_none }

two_plain : (b : ℕ) → b ≢ 34 → Plain (111 ∷ b ∷ [])
two_plain b h = plain_cons 111 (b ∷ []) (λ (e : 111 ≡ 34). omega (arith, e)) (plain_cons b [] h plain_none)

pub one_writable : IsWritableName one_name
unfolding one_name
one_writable = record {
  some = omega arith;
  few = omega arith;
  no_quote = plain_cons 111 (110 ∷ 101 ∷ []) (λ (e : 111 ≡ 34). omega (arith, e)) (plain_cons 110 (101 ∷ []) (λ (e : 110 ≡ 34). omega (arith, e)) (plain_cons 101 [] (λ (e : 101 ≡ 34). omega (arith, e)) plain_none));
}

pub answer_writable : (k : ℕ) → k < 2 ^ 63 → IsWritableName (answer_name k)
unfolding answer_name
answer_writable zero h = record { some = omega arith; few = omega arith; no_quote = two_plain 116 (λ (e : 116 ≡ 34). omega (arith, e)) }
answer_writable (suc zero) h = record { some = omega arith; few = omega arith; no_quote = two_plain 110 (λ (e : 110 ≡ 34). omega (arith, e)) }
answer_writable (suc (suc k)) h =
    let small : suc k < 2 ^ 63 = omega (arith, h) in
    record {
      some = omega arith;
      few = omega (arith, number_short (suc k) small);
      no_quote = plain_cons 99 (number_text (suc k)) (λ (e : 99 ≡ 34). omega (arith, e)) (number_plain (suc k));
    }
