-- The tokens of a printed text, read one after the other.
use Rattle.std.proofs.Common.{◌≡◌, ℕ, suc, ◌+◌, ◌*◌, ◌-◌, ◌<◌, ◌^◌, Bool, true, false, cond, ◌&&◌, ◌==◌, nat_eq, nat_le, if◌then◌else◌, List, [], ◌∷◌, ◌++◌, length, take, drop, codes, Some, refl, sym, ap, ◌∙◌, subst, arith}
use Rattle.std.specs.Option.{option_map}
use Rattle.std.specs.List.{prefix_len}
use Rattle.std.specs.Fmt.{decimal}
use Rattle.std.specs.Int.{IsInRange}
use Rattle.std.specs.Str.Parse.{AllDigits, digits_value_after}
use Rattle.std.proofs.lemmas.Bool.Decides.{nat_tests}
use Rattle.std.proofs.lemmas.Fmt.{decimal_is_IsNumeral}
use Rattle.std.proofs.lemmas.Str.{digit_value_digit}
use Rattle.std.proofs.lemmas.Str.Parse.{digit_from_value}
use Rattle.nq_model.specs.Canonical.{doubled_quotes}
use Rattle.nq_model.specs.SchemaTokens.{is_white, begins_word, is_word_byte}
use Rattle.nq_model.specs.declared.term.Binary.{Binary}
use Rattle.nq_model.specs.declared.term.Binary.TheVariants.{Add, Sub, Mul, Eq, Ne, Lt, Le, Gt, Ge, And, Or}
use Rattle.sql_profile.specs.Tokens.{First, Token, Value, Number, Literal, Truth, Oper, Open, Close, Key, Stop, Gap, Takes, Stops, TooLarge, Front, begins_with, is_digit, is_quote, keywords, symbols, symbol_front, word_front, literal_len, literal_front, number_from, number_front, front, unquoted, unquoted_from}
use Rattle.sql_profile.specs.Printed.{between_operands}
use Rattle.sql_profile.proofs.Lexed.{Reads, read_token, read_space, front_taken, front_dropped, no_mark}

-- what may stand behind a word, a number or a literal: nothing, or no byte of these
abbrev pub Parts : List ℕ → Type 0
Parts [] = Unit {0}
Parts (b ∷ bs) = (is_word_byte b ≡ false) × (is_digit b ≡ false) × (is_quote b ≡ false)

pub read_open : (place : ℕ) (rest : List ℕ) (ts : List Token) → Reads (place + 1) rest ts → Reads place (40 ∷ rest) (Open place ∷ ts)
read_open place rest ts r = read_token place 40 rest ts 1 (λ p. Open p) (ap (λ b. if b then Gap 3 else symbol_front symbols (40 ∷ rest)) (no_mark (place == 0))) (omega arith) r

pub read_close : (place : ℕ) (rest : List ℕ) (ts : List Token) → Reads (place + 1) rest ts → Reads place (41 ∷ rest) (Close place ∷ ts)
read_close place rest ts r = read_token place 41 rest ts 1 (λ p. Close p) (ap (λ b. if b then Gap 3 else symbol_front symbols (41 ∷ rest)) (no_mark (place == 0))) (omega arith) r

-- `*` and `)`
pub read_star : (place : ℕ) (rest : List ℕ) (ts : List Token) → Reads (place + 1) (41 ∷ rest) ts → Reads place (42 ∷ 41 ∷ rest) (Oper place Mul ∷ ts)
read_star place rest ts r = read_token place 42 (41 ∷ rest) ts 1 (λ p. Oper p Mul) (ap (λ b. if b then Gap 3 else symbol_front symbols (42 ∷ 41 ∷ rest)) (no_mark (place == 0))) (omega arith) r

-- `0` and `)`
pub read_zero : (place : ℕ) (rest : List ℕ) (ts : List Token) → Reads (place + 1) (41 ∷ rest) ts → Reads place (48 ∷ 41 ∷ rest) (Value place (Number 0 1) ∷ ts)
read_zero place rest ts r = read_token place 48 (41 ∷ rest) ts 1 (λ p. Value p (Number 0 1)) refl (omega arith) r

pub read_minus : (place : ℕ) (rest : List ℕ) (ts : List Token) → Reads (place + 1) (32 ∷ rest) ts → Reads place (45 ∷ 32 ∷ rest) (Oper place Sub ∷ ts)
read_minus place rest ts r = read_token place 45 (32 ∷ rest) ts 1 (λ p. Oper p Sub) (ap (λ b. if b then Gap 3 else symbol_front symbols (45 ∷ 32 ∷ rest)) (no_mark (place == 0))) (omega arith) r

-- how many bytes an operator has
abbrev pub oper_len : Binary → ℕ
oper_len Ne = 2
oper_len Le = 2
oper_len Ge = 2
oper_len Or = 2
oper_len And = 3
oper_len _ = 1

abbrev after_mark : ℕ → List ℕ → (t : Bool) → Front
after_mark place bs t = if t then Gap 3 else symbol_front symbols bs

-- an operator between two spaces
pub read_oper : (op : Binary) (place : ℕ) (rest : List ℕ) (ts : List Token) → Reads (place + 1 + oper_len op + 1) rest ts → Reads place (between_operands op ++ rest) (Oper (place + 1) op ∷ ts)
read_oper Add place rest ts r = read_space place _ _ (read_token (place + 1) 43 _ _ 1 (λ p. Oper p Add) (ap (after_mark place (43 ∷ 32 ∷ rest)) (no_mark (place + 1 == 0))) (omega arith) (read_space (place + 1 + 1) _ _ r))
read_oper Sub place rest ts r = read_space place _ _ (read_token (place + 1) 45 _ _ 1 (λ p. Oper p Sub) (ap (after_mark place (45 ∷ 32 ∷ rest)) (no_mark (place + 1 == 0))) (omega arith) (read_space (place + 1 + 1) _ _ r))
read_oper Mul place rest ts r = read_space place _ _ (read_token (place + 1) 42 _ _ 1 (λ p. Oper p Mul) (ap (after_mark place (42 ∷ 32 ∷ rest)) (no_mark (place + 1 == 0))) (omega arith) (read_space (place + 1 + 1) _ _ r))
read_oper Eq place rest ts r = read_space place _ _ (read_token (place + 1) 61 _ _ 1 (λ p. Oper p Eq) (ap (after_mark place (61 ∷ 32 ∷ rest)) (no_mark (place + 1 == 0))) (omega arith) (read_space (place + 1 + 1) _ _ r))
read_oper Ne place rest ts r = read_space place _ _ (read_token (place + 1) 60 _ _ 2 (λ p. Oper p Ne) (ap (after_mark place (60 ∷ 62 ∷ 32 ∷ rest)) (no_mark (place + 1 == 0))) (omega arith) (read_space (place + 1 + 2) _ _ r))
read_oper Lt place rest ts r = read_space place _ _ (read_token (place + 1) 60 _ _ 1 (λ p. Oper p Lt) (ap (after_mark place (60 ∷ 32 ∷ rest)) (no_mark (place + 1 == 0))) (omega arith) (read_space (place + 1 + 1) _ _ r))
read_oper Le place rest ts r = read_space place _ _ (read_token (place + 1) 60 _ _ 2 (λ p. Oper p Le) (ap (after_mark place (60 ∷ 61 ∷ 32 ∷ rest)) (no_mark (place + 1 == 0))) (omega arith) (read_space (place + 1 + 2) _ _ r))
read_oper Gt place rest ts r = read_space place _ _ (read_token (place + 1) 62 _ _ 1 (λ p. Oper p Gt) (ap (after_mark place (62 ∷ 32 ∷ rest)) (no_mark (place + 1 == 0))) (omega arith) (read_space (place + 1 + 1) _ _ r))
read_oper Ge place rest ts r = read_space place _ _ (read_token (place + 1) 62 _ _ 2 (λ p. Oper p Ge) (ap (after_mark place (62 ∷ 61 ∷ 32 ∷ rest)) (no_mark (place + 1 == 0))) (omega arith) (read_space (place + 1 + 2) _ _ r))
read_oper And place rest ts r = read_space place _ _ (read_token (place + 1) 65 _ _ 3 (λ p. Oper p And) refl (omega arith) (read_space (place + 1 + 3) _ _ r))
read_oper Or place rest ts r = read_space place _ _ (read_token (place + 1) 79 _ _ 2 (λ p. Oper p Or) refl (omega arith) (read_space (place + 1 + 2) _ _ r))

-- TRUE, FALSE and END, whatever stands behind them
pub read_true : (place : ℕ) (rest : List ℕ) (ts : List Token) → Parts rest → Reads (place + 4) rest ts → Reads place (codes "TRUE" ++ rest) (Value place (Truth true) ∷ ts)
read_true place rest ts parts r = read_token place 84 (82 ∷ 85 ∷ 69 ∷ rest) ts 4 (λ p. Value p (Truth true)) (go rest parts) (omega arith) r
  where
    go : (rest : List ℕ) → Parts rest → front First place 84 (82 ∷ 85 ∷ 69 ∷ rest) ≡ Takes 4 (λ p. Value p (Truth true))
    go [] h = refl
    go (b ∷ bs) h = ap (λ t. word_front (keywords First) (take (suc (1 + (1 + (1 + cond t (1 + prefix_len is_word_byte bs) 0)))) (84 ∷ 82 ∷ 85 ∷ 69 ∷ b ∷ bs))) h.0

pub read_false : (place : ℕ) (rest : List ℕ) (ts : List Token) → Parts rest → Reads (place + 5) rest ts → Reads place (codes "FALSE" ++ rest) (Value place (Truth false) ∷ ts)
read_false place rest ts parts r = read_token place 70 (65 ∷ 76 ∷ 83 ∷ 69 ∷ rest) ts 5 (λ p. Value p (Truth false)) (go rest parts) (omega arith) r
  where
    go : (rest : List ℕ) → Parts rest → front First place 70 (65 ∷ 76 ∷ 83 ∷ 69 ∷ rest) ≡ Takes 5 (λ p. Value p (Truth false))
    go [] h = refl
    go (b ∷ bs) h = ap (λ t. word_front (keywords First) (take (suc (1 + (1 + (1 + (1 + cond t (1 + prefix_len is_word_byte bs) 0))))) (70 ∷ 65 ∷ 76 ∷ 83 ∷ 69 ∷ b ∷ bs))) h.0

pub read_stop : (place : ℕ) (rest : List ℕ) (ts : List Token) → Parts rest → Reads (place + 3) rest ts → Reads place (codes "END" ++ rest) (Key place Stop ∷ ts)
read_stop place rest ts parts r = read_token place 69 (78 ∷ 68 ∷ rest) ts 3 (λ p. Key p Stop) (go rest parts) (omega arith) r
  where
    go : (rest : List ℕ) → Parts rest → front First place 69 (78 ∷ 68 ∷ rest) ≡ Takes 3 (λ p. Key p Stop)
    go [] h = refl
    go (b ∷ bs) h = ap (λ t. word_front (keywords First) (take (suc (1 + (1 + cond t (1 + prefix_len is_word_byte bs) 0))) (69 ∷ 78 ∷ 68 ∷ b ∷ bs))) h.0

-- a number
digits_taken : (ds rest : List ℕ) → AllDigits 10 ds → Parts rest → prefix_len is_digit (ds ++ rest) ≡ length ds
digits_taken [] [] d h = refl
digits_taken [] (b ∷ bs) d h = ap (λ t. cond t (1 + prefix_len is_digit bs) 0) h.1
digits_taken (c ∷ cs) rest d h =
    ap (λ t. cond t (1 + prefix_len is_digit (cs ++ rest)) 0) (digit c (digit_from_value c d.0)) ∙ ap (λ n. 1 + n) (digits_taken cs rest d.1 h) ∙ omega arith
  where
    digit : (c : ℕ) → IsInRange 48 57 c → is_digit c ≡ true
    digit c r = grind (arith, nat_tests, r)

numbers_same : (n : ℕ) (ds : List ℕ) → AllDigits 10 ds → number_from n ds ≡ digits_value_after 10 n ds
numbers_same n [] d = refl
numbers_same n (c ∷ cs) d =
    let v = digit_value_digit c (digit_from_value c d.0) in
    numbers_same (10 * n + (c - 48)) cs d.1 ∙ ap (λ m. digits_value_after 10 m cs) (omega (arith, v))

-- the fourth choice
fourth : (v w x y : Bool) (A B C D E : Front) → v ≡ false → w ≡ false → x ≡ false → y ≡ true → (if v then A else (if w then B else (if x then C else (if y then D else E)))) ≡ D
fourth v w x y A B C D E p q r s =
    ap (λ t. if t then A else (if w then B else (if x then C else (if y then D else E)))) p
    ∙ ap (λ t. if t then B else (if x then C else (if y then D else E))) q
    ∙ ap (λ t. if t then C else (if y then D else E)) r
    ∙ ap (λ t. if t then D else E) s

number_front_is : (digits : List ℕ) (k : ℕ) → number_from 0 digits ≡ k → k < 2 ^ 63 → number_front digits ≡ Takes (length digits) (λ p. Value p (Number k (length digits)))
number_front_is digits k is h =
    ap (λ n. if nat_le n 9223372036854775807 then Takes (length digits) (λ p. Value p (Number n (length digits))) else Stops TooLarge) is
    ∙ ap (λ t. if t then Takes (length digits) (λ p. Value p (Number k (length digits))) else Stops TooLarge) small
  where
    small : nat_le k 9223372036854775807 ≡ true
    small = grind (arith, nat_tests, h)

digits_front : (place c : ℕ) (cs rest : List ℕ) (k : ℕ) → AllDigits 10 (c ∷ cs) → Parts rest → number_from 0 (c ∷ cs) ≡ k → k < 2 ^ 63
    → front First place c (cs ++ rest) ≡ Takes (suc (length cs)) (λ p. Value p (Number k (suc (length cs))))
digits_front place c cs rest k d parts is h =
    fourth (is_white c) (begins_with (codes "--") (c ∷ (cs ++ rest))) (begins_word c) (is_digit c) _ _ _ _ _ (white c r) (dash c r) (letter c r) (digit c r)
    ∙ ap (λ n. number_front (take (suc n) (c ∷ (cs ++ rest)))) (digits_taken cs rest d.1 parts)
    ∙ ap (λ (l : List ℕ). number_front (c ∷ l)) (front_taken cs rest)
    ∙ number_front_is (c ∷ cs) k is h
  where
    r : IsInRange 48 57 c
    r = digit_from_value c d.0

    white : (c : ℕ) → IsInRange 48 57 c → is_white c ≡ false
    white c r = grind (arith, nat_tests, r)

    dash : (c : ℕ) → IsInRange 48 57 c → begins_with (codes "--") (c ∷ (cs ++ rest)) ≡ false
    dash c r = ap (λ t. t && begins_with (45 ∷ []) (cs ++ rest)) (let e : (45 == c) ≡ false = grind (arith, nat_tests, r) in e)

    letter : (c : ℕ) → IsInRange 48 57 c → begins_word c ≡ false
    letter c r = grind (arith, nat_tests, r)

    digit : (c : ℕ) → IsInRange 48 57 c → is_digit c ≡ true
    digit c r = grind (arith, nat_tests, r)

read_digits : (place : ℕ) (ds rest : List ℕ) (ts : List Token) (k : ℕ) → 0 < length ds → AllDigits 10 ds → number_from 0 ds ≡ k → k < 2 ^ 63 → Parts rest → Reads (place + length ds) rest ts → Reads place (ds ++ rest) (Value place (Number k (length ds)) ∷ ts)
read_digits place [] rest ts k some d is h parts r = absurd (omega (arith, some))
read_digits place (c ∷ cs) rest ts k some d is h parts r =
    read_token place c (cs ++ rest) ts (suc (length cs)) (λ p. Value p (Number k (suc (length cs)))) (digits_front place c cs rest k d parts is h) (omega arith)
    (subst (λ (l : List ℕ). Reads (place + suc (length cs)) l ts) (sym (front_dropped cs rest)) r)

pub read_number : (place k : ℕ) (rest : List ℕ) (ts : List Token) → k < 2 ^ 63 → Parts rest → Reads (place + length (decimal k)) rest ts → Reads place (decimal k ++ rest) (Value place (Number k (length (decimal k))) ∷ ts)
read_number place k rest ts h parts r =
    let n = decimal_is_IsNumeral k (omega (arith, h)) in
    read_digits place (decimal k) rest ts k n.0.0 n.0.1 (numbers_same 0 (decimal k) n.0.1 ∙ n.1) h parts r

-- a literal
not_quote : (b : ℕ) → nat_eq b 39 ≡ false → is_quote b ≡ false
not_quote b e = grind (arith, nat_tests, e)

pub unquoted_doubled : (t : List ℕ) → unquoted (doubled_quotes t) ≡ t
unquoted_doubled [] = refl
unquoted_doubled (b ∷ bs) = go (nat_eq b 39) refl (unquoted_doubled bs)
  where
    go : (q : Bool) → nat_eq b 39 ≡ q → unquoted_from false (doubled_quotes bs) ≡ bs → unquoted_from false (cond q (39 ∷ 39 ∷ doubled_quotes bs) (b ∷ doubled_quotes bs)) ≡ b ∷ bs
    go true e r = let h : 39 ≡ b = grind (arith, nat_tests, e) in ap (λ (l : List ℕ). 39 ∷ l) r ∙ ap (λ n. n ∷ bs) h
    go false e r = ap (λ q. b ∷ unquoted_from q (doubled_quotes bs)) (not_quote b e) ∙ ap (λ (l : List ℕ). b ∷ l) r

literal_closes : (t rest : List ℕ) → Parts rest → literal_len false (doubled_quotes t ++ 39 ∷ rest) ≡ Some (suc (length (doubled_quotes t)))
literal_closes [] [] h = refl
literal_closes [] (b ∷ bs) h = ap (λ q. option_map suc (if q then option_map suc (literal_len false bs) else Some 0)) h.2
literal_closes (b ∷ bs) rest h = go (nat_eq b 39) refl (literal_closes bs rest h)
  where
    go : (q : Bool) → nat_eq b 39 ≡ q → literal_len false (doubled_quotes bs ++ 39 ∷ rest) ≡ Some (suc (length (doubled_quotes bs)))
        → literal_len false (cond q (39 ∷ 39 ∷ doubled_quotes bs) (b ∷ doubled_quotes bs) ++ 39 ∷ rest) ≡ Some (suc (length (cond q (39 ∷ 39 ∷ doubled_quotes bs) (b ∷ doubled_quotes bs))))
    go true e g = ap (λ o. option_map suc (option_map suc o)) g
    go false e g = ap (λ q. option_map suc (literal_len q (doubled_quotes bs ++ 39 ∷ rest))) (not_quote b e) ∙ ap (λ o. option_map suc o) g

quote_dropped : (t rest : List ℕ) → drop (suc (length t)) (t ++ 39 ∷ rest) ≡ rest
quote_dropped [] rest = refl
quote_dropped (x ∷ xs) rest = quote_dropped xs rest

pub read_literal : (place : ℕ) (t rest : List ℕ) (ts : List Token) → Parts rest → Reads (place + suc (suc (length (doubled_quotes t)))) rest ts
    → Reads place (39 ∷ (doubled_quotes t ++ 39 ∷ rest)) (Value place (Literal (doubled_quotes t)) ∷ ts)
read_literal place t rest ts parts r =
    let q = doubled_quotes t in
    read_token place 39 (q ++ 39 ∷ rest) ts (suc (suc (length q))) (λ p. Value p (Literal q))
    (ap (λ o. literal_front o (q ++ 39 ∷ rest)) (literal_closes t rest parts)
    ∙ ap (λ n. Takes (suc (suc (length q))) (λ p. Value p (Literal (take n (q ++ 39 ∷ rest))))) (let e : suc (length q) - 1 ≡ length q = omega arith in e)
    ∙ ap (λ (l : List ℕ). Takes (suc (suc (length q))) (λ p. Value p (Literal l))) (front_taken q (39 ∷ rest))) (omega arith)
    (subst (λ (l : List ℕ). Reads (place + suc (suc (length q))) l ts) (sym (quote_dropped q rest)) r)
