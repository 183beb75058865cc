-- The tokens of a text end with its end.
use Rattle.std.proofs.Common.{◌≡◌, ℕ, zero, suc, ◌+◌, ◌≤◌, Bool, true, false, if◌then◌else◌, ◌==◌, nat_le, List, [], ◌∷◌, length, take, drop, refl, sym, ◌∙◌, ap, arith, rules, Option, Some, None, Result, Ok, Err, length-drop}
use Rattle.std.specs.Prelude.{⊤}
use Rattle.std.specs.List.{prefix_len}
use Rattle.nq_model.specs.SchemaTokens.{is_white, begins_word, is_word_byte, is_comment_byte}
use Rattle.nq_model.specs.QueryTokens.{Token, Word, Value, Number, End, is_digit, is_quote, Stop, NoToken, TooLarge, Front, Gap, Takes, Stops, symbols, begins_with, symbol_front, word_front, value_from, number_front, literal_len, literal_front, is_order_mark, front, with_token, go_on, tokens_from, tokens_of}
use Rattle.nq_parser.specs.Reading.{Ends}

abbrev IsLong : Front → Type 0
IsLong (Gap n) = 1 ≤ n
IsLong (Takes n t) = 1 ≤ n
IsLong (Stops f) = ⊤

long_if : (b : Bool) (x y : Front) → IsLong x → IsLong y → IsLong (if b then x else y)
long_if true x y h g = h
long_if false x y h g = g

abbrev AllLong : List (List ℕ × (ℕ → Token)) → Type 0
AllLong [] = ⊤
AllLong (s ∷ ss) = (1 ≤ length s.0) × AllLong ss

symbol_long : (ss : List (List ℕ × (ℕ → Token))) (bs : List ℕ) → AllLong ss → IsLong (symbol_front ss bs)
symbol_long [] bs h = tt
symbol_long (s ∷ ss) bs h = long_if (begins_with s.0 bs) (Takes (length s.0) s.1) (symbol_front ss bs) h.0 (symbol_long ss bs h.1)

word_long : (n : ℕ) (bs : List ℕ) → 1 ≤ n → IsLong (word_front n bs)
word_long n bs h = long_if (nat_le n 64) (Takes n (λ p. Word p (take n bs))) (Stops NoToken) h tt

number_long : (n : ℕ) (bs : List ℕ) → 1 ≤ n → IsLong (number_front n bs)
number_long n bs h = long_if (nat_le (value_from 0 (take n bs)) 9223372036854775807) (Takes n (λ p. Value p (Number (value_from 0 (take n bs)) n))) (Stops TooLarge) h tt

literal_long : (o : Option ℕ) (bs : List ℕ) → IsLong (literal_front o bs)
literal_long None bs = tt
literal_long (Some n) bs = omega arith

table_long : AllLong symbols
table_long = search rules depth 30

front_long : (place b : ℕ) (bs : List ℕ) → IsLong (front place b bs)
front_long place b bs =
    let k : Front = symbol_front symbols (b ∷ bs) in
    let m : Front = if is_order_mark place (b ∷ bs) then Gap 3 else k in
    let l : Front = if is_quote b then literal_front (literal_len false bs) bs else m in
    let d : Front = if is_digit b then number_front (suc (prefix_len is_digit bs)) (b ∷ bs) else l in
    let w : Front = if begins_word b then word_front (suc (prefix_len is_word_byte bs)) (b ∷ bs) else d in
    long_if (is_white b) (Gap 1) (if b == 35 then Gap (suc (prefix_len is_comment_byte bs)) else w) (omega arith)
    (long_if (b == 35) (Gap (suc (prefix_len is_comment_byte bs))) w (omega arith)
    (long_if (begins_word b) (word_front (suc (prefix_len is_word_byte bs)) (b ∷ bs)) d (word_long (suc (prefix_len is_word_byte bs)) (b ∷ bs) (omega arith))
    (long_if (is_digit b) (number_front (suc (prefix_len is_digit bs)) (b ∷ bs)) l (number_long (suc (prefix_len is_digit bs)) (b ∷ bs) (omega arith))
    (long_if (is_quote b) (literal_front (literal_len false bs) bs) m (literal_long (literal_len false bs) bs)
    (long_if (is_order_mark place (b ∷ bs)) (Gap 3) k (omega arith)
    (symbol_long symbols (b ∷ bs) table_long))))))

with_end : (t : Token) (r : Result (List Token) (ℕ × Stop)) (ts : List Token) → with_token t r ≡ Ok ts → ((us : List Token) → r ≡ Ok us → Ends us) → Ends ts
with_end t (Ok us) ts e h =
    let g = h us refl in
    let i : t ∷ us ≡ ts = cc in
    (t ∷ g.0, g.1, sym i ∙ ap (λ z. t ∷ z) g.2)
with_end t (Err x) ts e h = absurd (cc)

from_ends : (n place : ℕ) (bs : List ℕ) (ts : List Token) → length bs ≤ n → tokens_from n place bs ≡ Ok ts → Ends ts
from_ends zero place [] ts h e = let i : End place ∷ [] ≡ ts = cc in ([], place, sym i)
from_ends (suc n) place [] ts h e = let i : End place ∷ [] ≡ ts = cc in ([], place, sym i)
from_ends zero place (b ∷ bs) ts h e = absurd (omega arith)
from_ends (suc n) place (b ∷ bs) ts h e = go (front place b bs) (front_long place b bs) e (λ q xs us g i. from_ends n q xs us g i)
  where
    shorter : (k : ℕ) → 1 ≤ k → length (drop k (b ∷ bs)) ≤ n
    shorter k l = omega (arith, length-drop k (b ∷ bs))

    go : (c : Front) → IsLong c → go_on place (b ∷ bs) c (tokens_from n) ≡ Ok ts → ((q : ℕ) (xs : List ℕ) (us : List Token) → length xs ≤ n → tokens_from n q xs ≡ Ok us → Ends us) → Ends ts
    go (Gap k) l e r = r (place + k) (drop k (b ∷ bs)) ts (shorter k l) e
    go (Takes k t) l e r = with_end (t place) (tokens_from n (place + k) (drop k (b ∷ bs))) ts e (λ us i. r (place + k) (drop k (b ∷ bs)) us (shorter k l) i)
    go (Stops f) l e r = absurd (cc)

pub text_ends : (text : List ℕ) (ts : List Token) → tokens_of text ≡ Ok ts → Ends ts
text_ends text ts e = from_ends (length text) 0 text ts (omega arith) e
