-- Each piece that is cut off a text has a byte, so a text has at most one token more than bytes, and its tokens
-- end with the end of the text.
use Rattle.std.proofs.Common.{◌≡◌, ℕ, zero, suc, ◌+◌, ◌≤◌, Bool, true, false, if◌then◌else◌, List, [], ◌∷◌, ◌++◌, length, take, drop, map, Option, Some, None, Result, Ok, Err, refl, ap, subst, arith}
use Rattle.std.specs.List.{AllByRecursion as Each, prefix_len}
use Rattle.std.proofs.lemmas.List.{length-drop}
use Rattle.nq_model.specs.SchemaTokens.{is_word_byte, is_comment_byte}
use Rattle.sql_profile.specs.Tokens.{Edition, Token, End, Stuck, NoToken, TooLarge, Front, Gap, Takes, Stops, is_name_byte, is_digit, begins_with, same_bytes, capital, keywords, symbols, symbol_front, word_front, number_front, name_front, literal_len, literal_front, front, with_token, go_on, tokens_from, tokens_of}

-- what is cut off has a byte
abbrev pub Moves : Front → Type 0
Moves (Gap n) = 1 ≤ n
Moves (Takes n t) = 1 ≤ n
Moves (Stops f) = Unit {0}

record Moving (f : Front) : Type 0 where
  moves : Moves f

either : (b : Bool) (x y : Front) → Moving x → Moving y → Moving (if b then x else y)
either true x y m n = m
either false x y m n = n

gap : (n : ℕ) → 1 ≤ n → Moving (Gap n)
gap n h = record { moves = h }

taken : (n : ℕ) (t : ℕ → Token) → 1 ≤ n → Moving (Takes n t)
taken n t h = record { moves = h }

stuck : (f : Stuck) → Moving (Stops f)
stuck f = record { moves = tt }

symbol_moves : (table : List (List ℕ × (ℕ → Token))) (bs : List ℕ) → Each (λ s. 1 ≤ length s.0) table → Moving (symbol_front table bs)
symbol_moves [] bs e = stuck NoToken
symbol_moves (s ∷ ss) bs e = either (begins_with s.0 bs) (Takes (length s.0) s.1) (symbol_front ss bs) (taken (length s.0) s.1 e.0) (symbol_moves ss bs e.1)

word_moves : (table : List (List ℕ × (ℕ → Token))) (word : List ℕ) → 1 ≤ length word → Moving (word_front table word)
word_moves [] word h = stuck NoToken
word_moves (k ∷ ks) word h = either (same_bytes k.0 (map capital word)) (Takes (length word) k.1) (word_front ks word) (taken (length word) k.1 h) (word_moves ks word h)

number_moves : (digits : List ℕ) → 1 ≤ length digits → Moving (number_front digits)
number_moves digits h = either _ _ _ (taken (length digits) _ h) (stuck TooLarge)

name_moves : (n : ℕ) (bs rest : List ℕ) → Moving (name_front n bs rest)
name_moves n bs [] = stuck NoToken
name_moves n bs (q ∷ rest) = either _ _ _ (taken (n + 2) _ (omega arith)) (stuck NoToken)

literal_moves : (o : Option ℕ) (bs : List ℕ) → Moving (literal_front o bs)
literal_moves None bs = stuck NoToken
literal_moves (Some n) bs = taken (suc n) _ (omega arith)

some_taken : (k b : ℕ) (bs : List ℕ) → 1 ≤ length (take (suc k) (b ∷ bs))
some_taken k b bs = omega arith

table_moves : Each (λ s. 1 ≤ length s.0) symbols
table_moves = (omega arith, (omega arith, (omega arith, (omega arith, (omega arith, (omega arith, (omega arith, (omega arith, (omega arith, (omega arith, (omega arith, (omega arith, (omega arith, (omega arith, tt))))))))))))))

front_moves : (edition : Edition) (place b : ℕ) (bs : List ℕ) → Moving (front edition place b bs)
front_moves edition place b bs =
    either _ _ _ (gap 1 (omega arith))
    (either _ _ _ (gap (suc (prefix_len is_comment_byte bs)) (omega arith))
    (either _ _ _ (word_moves (keywords edition) (take (suc (prefix_len is_word_byte bs)) (b ∷ bs)) (some_taken (prefix_len is_word_byte bs) b bs))
    (either _ _ _ (number_moves (take (suc (prefix_len is_digit bs)) (b ∷ bs)) (some_taken (prefix_len is_digit bs) b bs))
    (either _ _ _ (name_moves (prefix_len is_name_byte bs) bs (drop (prefix_len is_name_byte bs) bs))
    (either _ _ _ (literal_moves (literal_len false bs) bs)
    (either _ _ _ (gap 3 (omega arith)) (symbol_moves symbols (b ∷ bs) table_moves)))))))

-- the tokens of so many bytes: not many, and the last is the end
record Cut (bytes : ℕ) (ts : List Token) : Type 0 where
  pub few : length ts ≤ suc bytes
  pub before : List Token
  pub place : ℕ
  pub ends : ts ≡ before ++ End place ∷ []

pub ok_same : {A E : Type 0} (x y : A) → ◌≡◌ {A = Result A E} (Ok x) (Ok y) → x ≡ y
ok_same x y e = cc

pub fewer : (n b : ℕ) (bs : List ℕ) → 1 ≤ n → length (drop n (b ∷ bs)) ≤ length bs
fewer n b bs h = let e = length-drop n (b ∷ bs) in omega (arith, e, h)

cut_from : (edition : Edition) (n place : ℕ) (bs : List ℕ) (ts : List Token) → length bs ≤ n → tokens_from edition n place bs ≡ Ok ts → Cut (length bs) ts
cut_from edition n place [] ts h e =
    subst (λ (l : List Token). Cut 0 l) (ok_same (End place ∷ []) ts e) (record { few = omega arith; before = []; place = place; ends = refl })
cut_from edition zero place (b ∷ bs) ts h e = absurd (omega (arith, h))
cut_from edition (suc n) place (b ∷ bs) ts h e =
    go (front edition place b bs) (front_moves edition place b bs).moves e (λ p rest us g k. cut_from edition n p rest us g k)
  where
    later : (m : ℕ) → 1 ≤ m → length (drop m (b ∷ bs)) ≤ n
    later m k = let f = fewer m b bs k in omega (arith, f, h)

    more : (m : ℕ) → 1 ≤ m → (us : List Token) → Cut (length (drop m (b ∷ bs))) us → Cut (length (b ∷ bs)) us
    more m k us c = let f = fewer m b bs k in let few = c.few in record { few = omega (arith, few, f); before = c.before; place = c.place; ends = c.ends }

    put : (t : Token) (r : Result (List Token) (ℕ × Stuck)) (m : ℕ) → 1 ≤ m → with_token t r ≡ Ok ts → ((us : List Token) → r ≡ Ok us → Cut (length (drop m (b ∷ bs))) us) → Cut (length (b ∷ bs)) ts
    put t (Err x) m k e c = absurd (cc)
    put t (Ok us) m k e c =
        let f = fewer m b bs k in let d = c us refl in let few = d.few in
        subst (λ (l : List Token). Cut (length (b ∷ bs)) l) (ok_same (t ∷ us) ts e)
        (record { few = omega (arith, few, f); before = t ∷ d.before; place = d.place; ends = ap (λ (l : List Token). t ∷ l) d.ends })

    go : (f : Front) → Moves f → go_on place (b ∷ bs) f (tokens_from edition n) ≡ Ok ts → ((p : ℕ) (rest : List ℕ) (us : List Token) → length rest ≤ n → tokens_from edition n p rest ≡ Ok us → Cut (length rest) us) → Cut (length (b ∷ bs)) ts
    go (Gap m) k e c = more m k ts (c (place + m) (drop m (b ∷ bs)) ts (later m k) e)
    go (Takes m t) k e c = put (t place) (tokens_from edition n (place + m) (drop m (b ∷ bs))) m k e (λ us g. c (place + m) (drop m (b ∷ bs)) us (later m k) g)
    go (Stops f) k e c = absurd (cc)

-- the tokens of a whole text
pub tokens_few : (edition : Edition) (text : List ℕ) (ts : List Token) → tokens_of edition text ≡ Ok ts → length ts ≤ suc (length text)
tokens_few edition text ts e = (cut_from edition (length text) 0 text ts (omega arith) e).few

pub tokens_end : (edition : Edition) (text : List ℕ) (ts : List Token) → tokens_of edition text ≡ Ok ts → (before : List Token) × (place : ℕ) × (ts ≡ before ++ End place ∷ [])
tokens_end edition text ts e = let c = cut_from edition (length text) 0 text ts (omega arith) e in (c.before, c.place, c.ends)
