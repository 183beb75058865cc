-- Texts are cut into tokens piece by piece.
use Rattle.std.proofs.Common.{◌≡◌, ℕ, zero, suc, ◌+◌, ◌≤◌, Bool, true, false, cond, ◌&&◌, ◌==◌, nat_le, if◌then◌else◌, List, [], ◌∷◌, ◌++◌, length, take, drop, Result, Ok, refl, sym, ap, ◌∙◌, subst, arith}
use Rattle.std.specs.List.{AllByRecursion as Each, prefix_len}
use Rattle.std.proofs.lemmas.Bool.Decides.{nat_tests}
use Rattle.sql_profile.specs.Tokens.{First, Token, Name, Comma, Dot, Key, As, From, End, Gap, Takes, Stops, NoToken, Stuck, is_name_byte, name_front, symbols, symbol_front, front, with_token, go_on, tokens_from, tokens_of}
use Rattle.sql_profile.proofs.TokenCuts.{fewer}

-- the bytes at a place are cut into these tokens, by every count that is not too small
pub record Reads (place : ℕ) (bs : List ℕ) (ts : List Token) : Type 0 where
  pub cut : (n : ℕ) → length bs ≤ n → tokens_from First n place bs ≡ Ok ts

pub read_end : (place : ℕ) → Reads place [] (End place ∷ [])
read_end place = record { cut = λ n h. refl }

pub read_gap : (place b : ℕ) (bs : List ℕ) (ts : List Token) (m : ℕ) → front First place b bs ≡ Gap m → 1 ≤ m → Reads (place + m) (drop m (b ∷ bs)) ts → Reads place (b ∷ bs) ts
read_gap place b bs ts m is some rest = record { cut = go }
  where
    go : (n : ℕ) → length (b ∷ bs) ≤ n → tokens_from First n place (b ∷ bs) ≡ Ok ts
    go zero h = absurd (omega (arith, h))
    go (suc n) h = ap (λ f. go_on place (b ∷ bs) f (tokens_from First n)) is ∙ rest.cut n (let e = fewer m b bs some in omega (arith, e, h))

pub read_token : (place b : ℕ) (bs : List ℕ) (ts : List Token) (m : ℕ) (t : ℕ → Token) → front First place b bs ≡ Takes m t → 1 ≤ m → Reads (place + m) (drop m (b ∷ bs)) ts → Reads place (b ∷ bs) (t place ∷ ts)
read_token place b bs ts m t is some rest = record { cut = go }
  where
    go : (n : ℕ) → length (b ∷ bs) ≤ n → tokens_from First n place (b ∷ bs) ≡ Ok (t place ∷ ts)
    go zero h = absurd (omega (arith, h))
    go (suc n) h =
        ap (λ f. go_on place (b ∷ bs) f (tokens_from First n)) is ∙ ap (λ (r : Result (List Token) (ℕ × Stuck)). with_token (t place) r) (rest.cut n (let e = fewer m b bs some in omega (arith, e, h)))

-- a name in quotes
name_len : (name rest : List ℕ) → Each (λ b. is_name_byte b ≡ true) name → prefix_len is_name_byte (name ++ 34 ∷ rest) ≡ length name
name_len [] rest e = refl
name_len (b ∷ bs) rest e = ap (λ t. cond t (1 + prefix_len is_name_byte (bs ++ 34 ∷ rest)) 0) e.0 ∙ ap (λ n. 1 + n) (name_len bs rest e.1) ∙ omega arith

pub front_taken : (xs ys : List ℕ) → take (length xs) (xs ++ ys) ≡ xs
front_taken [] ys = refl
front_taken (x ∷ xs) ys = ap (λ (l : List ℕ). x ∷ l) (front_taken xs ys)

pub front_dropped : (xs ys : List ℕ) → drop (length xs) (xs ++ ys) ≡ ys
front_dropped [] ys = refl
front_dropped (x ∷ xs) ys = front_dropped xs ys

quoted_dropped : (name rest : List ℕ) → drop (length name + 2) (34 ∷ (name ++ 34 ∷ rest)) ≡ rest
quoted_dropped name rest =
    let e : length name + 2 ≡ suc (suc (length name)) = omega arith in
    ap (λ n. drop n (34 ∷ (name ++ 34 ∷ rest))) e ∙ go name
  where
    go : (name : List ℕ) → drop (suc (length name)) (name ++ 34 ∷ rest) ≡ rest
    go [] = refl
    go (x ∷ xs) = go xs

-- 1 to 128 bytes without a double quote
pub record IsWritable (name : List ℕ) : Type 0 where
  pub some : 1 ≤ length name
  pub few : length name ≤ 128
  pub plain : Each (λ b. is_name_byte b ≡ true) name

name_taken : (name rest : List ℕ) (k : ℕ) → IsWritable name → k ≡ length name → name_front k (name ++ 34 ∷ rest) (drop k (name ++ 34 ∷ rest)) ≡ Takes (length name + 2) (λ p. Name p name)
name_taken name rest k w is =
    ap (λ n. name_front n (name ++ 34 ∷ rest) (drop n (name ++ 34 ∷ rest))) is
    ∙ ap (λ (l : List ℕ). name_front (length name) (name ++ 34 ∷ rest) l) (front_dropped name (34 ∷ rest))
    ∙ ap (λ b. if b then Takes (length name + 2) (λ p. Name p (take (length name) (name ++ 34 ∷ rest))) else Stops NoToken) inside
    ∙ ap (λ (l : List ℕ). Takes (length name + 2) (λ p. Name p l)) (front_taken name (34 ∷ rest))
  where
    inside : (nat_le 1 (length name) && nat_le (length name) 128) ≡ true
    inside = let low = w.some in let high = w.few in grind (arith, nat_tests, low, high)

pub read_name : (place : ℕ) (name rest : List ℕ) (ts : List Token) → IsWritable name → Reads (place + (length name + 2)) rest ts → Reads place (34 ∷ (name ++ 34 ∷ rest)) (Name place name ∷ ts)
read_name place name rest ts w r =
    read_token place 34 (name ++ 34 ∷ rest) ts (length name + 2) (λ p. Name p name) (name_taken name rest (prefix_len is_name_byte (name ++ 34 ∷ rest)) w (name_len name rest w.plain)) (omega arith)
    (subst (λ (l : List ℕ). Reads (place + (length name + 2)) l ts) (sym (quoted_dropped name rest)) r)

-- no mark stands at a comma or a dot
pub no_mark : (b : Bool) → (b && false) ≡ false
no_mark true = refl
no_mark false = refl

pub read_comma : (place : ℕ) (rest : List ℕ) (ts : List Token) → Reads (place + 1) rest ts → Reads place (44 ∷ rest) (Comma place ∷ ts)
read_comma place rest ts r = read_token place 44 rest ts 1 (λ p. Comma p) (ap (λ b. if b then Gap 3 else symbol_front symbols (44 ∷ rest)) (no_mark (place == 0))) (omega arith) r

pub read_dot : (place : ℕ) (rest : List ℕ) (ts : List Token) → Reads (place + 1) rest ts → Reads place (46 ∷ rest) (Dot place ∷ ts)
read_dot place rest ts r = read_token place 46 rest ts 1 (λ p. Dot p) (ap (λ b. if b then Gap 3 else symbol_front symbols (46 ∷ rest)) (no_mark (place == 0))) (omega arith) r

pub read_space : (place : ℕ) (rest : List ℕ) (ts : List Token) → Reads (place + 1) rest ts → Reads place (32 ∷ rest) ts
read_space place rest ts r = read_gap place 32 rest ts 1 refl (omega arith) r

pub read_as : (place : ℕ) (rest : List ℕ) (ts : List Token) → Reads (place + 2) (32 ∷ rest) ts → Reads place (65 ∷ 83 ∷ 32 ∷ rest) (Key place As ∷ ts)
read_as place rest ts r = read_token place 65 (83 ∷ 32 ∷ rest) ts 2 (λ p. Key p As) refl (omega arith) r

pub read_from : (place : ℕ) (rest : List ℕ) (ts : List Token) → Reads (place + 4) (32 ∷ rest) ts → Reads place (70 ∷ 82 ∷ 79 ∷ 77 ∷ 32 ∷ rest) (Key place From ∷ ts)
read_from place rest ts r = read_token place 70 (82 ∷ 79 ∷ 77 ∷ 32 ∷ rest) ts 4 (λ p. Key p From) refl (omega arith) r

pub read_all : (text : List ℕ) (ts : List Token) → Reads 0 text ts → tokens_of First text ≡ Ok ts
read_all text ts r = r.cut (length text) (omega arith)
