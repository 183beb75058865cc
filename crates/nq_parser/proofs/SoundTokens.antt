-- The words among the tokens of a text are words of at most 64 bytes, and the numbers have 63 bits.
use Rattle.std.proofs.Common.{◌≡◌, ℕ, zero, suc, ◌+◌, ◌<◌, ◌≤◌, ◌^◌, Bool, true, false, if◌then◌else◌, ◌==◌, nat_le, List, [], ◌∷◌, length, take, drop, refl, subst, arith, rules, Option, Some, None, Result, Ok, Err}
use Rattle.std.proofs.lemmas.Bool.Decides.{nat_tests}
use Rattle.std.specs.Prelude.{⊤}
use Rattle.std.specs.List.{AllByRecursion as Each, prefix_len}
use Rattle.nq_model.specs.SchemaTokens.{is_white, begins_word, is_word_byte, is_comment_byte}
use Rattle.nq_model.specs.Proper.{IsQueryWord}
use Rattle.nq_model.specs.QueryTokens.{Constant, Number, Literal, Token, Word, Value, Oper, Sign, End, is_digit, is_quote, Stop, NoToken, TooLarge, Front, Gap, Takes, Stops, symbols, begins_with, symbol_front, word_front, value_from, number_front, literal_len, literal_front, is_order_mark, front, with_token, go_on, tokens_from, tokens_of}

abbrev pub IsSoundConstant : Constant → Type 0
IsSoundConstant (Number n digits) = n < 2 ^ 63
IsSoundConstant (Literal spelled) = ⊤

-- a word that a query can spell, a number of 63 bits, or any other token
abbrev pub IsSoundToken : Token → Type 0
IsSoundToken (Word p w) = IsQueryWord w
IsSoundToken (Value p c) = IsSoundConstant c
IsSoundToken (Oper p op) = ⊤
IsSoundToken (Sign p m) = ⊤
IsSoundToken (End p) = ⊤

abbrev IsSoundFront : Front → Type 0
IsSoundFront (Gap n) = ⊤
IsSoundFront (Takes n t) = (p : ℕ) → IsSoundToken (t p)
IsSoundFront (Stops f) = ⊤

sound_if : (b : Bool) (x y : Front) → (b ≡ true → IsSoundFront x) → IsSoundFront y → IsSoundFront (if b then x else y)
sound_if true x y h g = h refl
sound_if false x y h g = g

word_bytes : (bs : List ℕ) → Each (λ c. is_word_byte c ≡ true) (take (prefix_len is_word_byte bs) bs)
word_bytes [] = tt
word_bytes (b ∷ bs) = go (is_word_byte b) refl (word_bytes bs)
  where
    go : (t : Bool) → is_word_byte b ≡ t → Each (λ c. is_word_byte c ≡ true) (take (prefix_len is_word_byte bs) bs) →
        Each (λ c. is_word_byte c ≡ true) (take (if t then 1 + prefix_len is_word_byte bs else 0) (b ∷ bs))
    go true e rest =
        let i : suc (prefix_len is_word_byte bs) ≡ 1 + prefix_len is_word_byte bs = omega arith in
        let P : ℕ → Type 0 = λ k. Each (λ c. is_word_byte c ≡ true) (take k (b ∷ bs)) in
        subst P i (e, rest)
    go false e rest = tt

at_most : (m n : ℕ) → nat_le m n ≡ true → m ≤ n
at_most m n e = grind (arith, nat_tests)

taken_length : (n : ℕ) (bs : List ℕ) → length (take n bs) ≤ n
taken_length zero bs = omega arith
taken_length (suc n) [] = omega arith
taken_length (suc n) (b ∷ bs) = let h = taken_length n bs in omega (arith, h)

word_sound : (b : ℕ) (bs : List ℕ) → begins_word b ≡ true → IsSoundFront (word_front (suc (prefix_len is_word_byte bs)) (b ∷ bs))
word_sound b bs h =
    sound_if (nat_le (suc (prefix_len is_word_byte bs)) 64) (Takes (suc (prefix_len is_word_byte bs)) (λ p. Word p (take (suc (prefix_len is_word_byte bs)) (b ∷ bs)))) (Stops NoToken)
    (λ e p. record {
      word = (h, word_bytes bs);
      short = let l = taken_length (suc (prefix_len is_word_byte bs)) (b ∷ bs) in let f = at_most (suc (prefix_len is_word_byte bs)) 64 e in omega (arith, l, f);
    }) tt

number_sound : (n : ℕ) (bs : List ℕ) → IsSoundFront (number_front n bs)
number_sound n bs =
    sound_if (nat_le (value_from 0 (take n bs)) 9223372036854775807) (Takes n (λ p. Value p (Number (value_from 0 (take n bs)) n))) (Stops TooLarge)
    (λ e p. let f = at_most (value_from 0 (take n bs)) 9223372036854775807 e in omega (arith, f)) tt

literal_sound : (o : Option ℕ) (bs : List ℕ) → IsSoundFront (literal_front o bs)
literal_sound None bs = tt
literal_sound (Some n) bs = λ p. tt

abbrev AllSound : List (List ℕ × (ℕ → Token)) → Type 0
AllSound [] = ⊤
AllSound (s ∷ ss) = ((p : ℕ) → IsSoundToken (s.1 p)) × AllSound ss

symbol_sound : (ss : List (List ℕ × (ℕ → Token))) (bs : List ℕ) → AllSound ss → IsSoundFront (symbol_front ss bs)
symbol_sound [] bs h = tt
symbol_sound (s ∷ ss) bs h = sound_if (begins_with s.0 bs) (Takes (length s.0) s.1) (symbol_front ss bs) (λ e. h.0) (symbol_sound ss bs h.1)

table_sound : AllSound symbols
table_sound = search rules depth 60

front_sound : (place b : ℕ) (bs : List ℕ) → IsSoundFront (front place b bs)
front_sound place b bs =
    let k : Front = symbol_front symbols (b ∷ bs) in
    let m : Front = if is_order_mark place (b ∷ bs) then Gap 3 else k in
    let l : Front = if is_quote b then literal_front (literal_len false bs) bs else m in
    let d : Front = if is_digit b then number_front (suc (prefix_len is_digit bs)) (b ∷ bs) else l in
    let w : Front = if begins_word b then word_front (suc (prefix_len is_word_byte bs)) (b ∷ bs) else d in
    sound_if (is_white b) (Gap 1) (if b == 35 then Gap (suc (prefix_len is_comment_byte bs)) else w) (λ e. tt)
    (sound_if (b == 35) (Gap (suc (prefix_len is_comment_byte bs))) w (λ e. tt)
    (sound_if (begins_word b) (word_front (suc (prefix_len is_word_byte bs)) (b ∷ bs)) d (λ e. word_sound b bs e)
    (sound_if (is_digit b) (number_front (suc (prefix_len is_digit bs)) (b ∷ bs)) l (λ e. number_sound (suc (prefix_len is_digit bs)) (b ∷ bs))
    (sound_if (is_quote b) (literal_front (literal_len false bs) bs) m (λ e. literal_sound (literal_len false bs) bs)
    (sound_if (is_order_mark place (b ∷ bs)) (Gap 3) k (λ e. tt)
    (symbol_sound symbols (b ∷ bs) table_sound))))))

with_sound : (t : Token) (r : Result (List Token) (ℕ × Stop)) (ts : List Token) → with_token t r ≡ Ok ts → IsSoundToken t → ((us : List Token) → r ≡ Ok us → Each IsSoundToken us) → Each IsSoundToken ts
with_sound t (Ok us) ts e s h =
    let i : t ∷ us ≡ ts = cc in
    let P : List Token → Type 0 = λ z. Each IsSoundToken z in
    subst P i (s, h us refl)
with_sound t (Err x) ts e s h = absurd (cc)

last_sound : (place : ℕ) (ts : List Token) → tokens_from 0 place [] ≡ Ok ts → Each IsSoundToken ts
last_sound place ts e =
    let i : End place ∷ [] ≡ ts = cc in
    let P : List Token → Type 0 = λ z. Each IsSoundToken z in
    subst P i (tt, tt)

from_sound : (n place : ℕ) (bs : List ℕ) (ts : List Token) → tokens_from n place bs ≡ Ok ts → Each IsSoundToken ts
from_sound zero place [] ts e = last_sound place ts e
from_sound (suc n) place [] ts e = last_sound place ts e
from_sound zero place (b ∷ bs) ts e =
    let i : [] ≡ ts = cc in
    let P : List Token → Type 0 = λ z. Each IsSoundToken z in
    subst P i tt
from_sound (suc n) place (b ∷ bs) ts e = go (front place b bs) (front_sound place b bs) e (λ q xs us i. from_sound n q xs us i)
  where
    go : (c : Front) → IsSoundFront c → go_on place (b ∷ bs) c (tokens_from n) ≡ Ok ts → ((q : ℕ) (xs : List ℕ) (us : List Token) → tokens_from n q xs ≡ Ok us → Each IsSoundToken us) → Each IsSoundToken ts
    go (Gap k) s e r = r (place + k) (drop k (b ∷ bs)) ts e
    go (Takes k t) s e r = with_sound (t place) (tokens_from n (place + k) (drop k (b ∷ bs))) ts e (s place) (λ us i. r (place + k) (drop k (b ∷ bs)) us i)
    go (Stops f) s e r = absurd (cc)

pub text_sound : (text : List ℕ) (ts : List Token) → tokens_of text ≡ Ok ts → Each IsSoundToken ts
text_sound text ts e = from_sound (length text) 0 text ts e
