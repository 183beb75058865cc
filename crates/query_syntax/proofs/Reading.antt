-- The tokens of a printed text, read one after the other.
use Rattle.std.proofs.Common.{◌≡◌, ℕ, zero, suc, ◌+◌, ◌*◌, ◌-◌, ◌<◌, ◌≤◌, ◌^◌, Bool, true, false, cond, ◌&&◌, ◌||◌, ◌==◌, nat_eq, nat_le, if◌then◌else◌, List, [], ◌∷◌, ◌++◌, length, take, drop, codes, Option, Some, None, Ok, refl, sym, ap, ◌∙◌, subst, arith}
use Rattle.std.specs.Option.{option_map}
use Rattle.std.specs.List.{AllByRecursion as Each, prefix_len}
use Rattle.std.specs.Fmt.{decimal}
use Rattle.std.specs.Int.{IsInRange}
use Rattle.std.specs.Str.Parse.{AllDigits, digits_value_after}
use Rattle.std.proofs.lemmas.Bool.Decides.{nat_tests}
use Rattle.std.proofs.lemmas.Fmt.{decimal_is_IsNumeral, length-decimal-le}
use Rattle.std.proofs.lemmas.List.{length-drop}
use Rattle.std.proofs.lemmas.Str.{digit_value_digit}
use Rattle.std.proofs.lemmas.Str.Parse.{digit_from_value}
use Rattle.nq_model.specs.Canonical.{doubled_quotes}
use Rattle.nq_model.specs.Proper.{IsQueryWord}
use Rattle.nq_model.specs.SchemaTokens.{IsWord, is_white, begins_word, is_word_byte}
use Rattle.nq_model.specs.declared.term.Binary.{Binary}
use Rattle.nq_model.specs.declared.term.Binary.TheVariants.{Add, Sub, Mul, Eq, Ne, Lt, Le, Gt, Ge, And, Or}
use Rattle.nq_model.specs.QueryTokens.{Operator, Union, Of, Mark, Opening, Closing, OpeningBag, ClosingBag, Comma, Colon, Dot, Assign, From, Bang, Arrow, Token, Word, Value, Number, Literal, Oper, Sign, End, Front, Gap, Takes, Stops, NoToken, TooLarge, begins_with, is_digit, is_quote, is_order_mark, symbols, symbol_front, word_front, value_from, number_front, literal_len, literal_front, front, with_token, tokens_of}
use Rattle.nq_model.specs.QueryScope.{undoubled}
use Rattle.query_syntax.proofs.Cutting.{rest_of, after_gap, after_token}

-- the bytes at a place are cut into these tokens, which are no more than the bytes and the end
pub record Reads (place : ℕ) (bs : List ℕ) (ts : List Token) : Type 0 where
  pub cut : rest_of place bs ≡ Ok ts
  pub few : length ts ≤ suc (length bs)

pub read_end : (place : ℕ) → Reads place [] (End place ∷ [])
read_end place = record { cut = refl; few = omega arith }

pub read_gap : (place b : ℕ) (bs : List ℕ) (ts : List Token) (m : ℕ) → front place b bs ≡ Gap m → 1 ≤ m → Reads (place + m) (drop m (b ∷ bs)) ts → Reads place (b ∷ bs) ts
read_gap place b bs ts m is some rest =
    let l = length-drop m (b ∷ bs) in
    let few = rest.few in
    record { cut = after_gap place b bs m is ∙ rest.cut; few = omega (arith, l, few) }

pub read_token : (place b : ℕ) (bs : List ℕ) (ts : List Token) (m : ℕ) (t : ℕ → Token) → front place b bs ≡ Takes m t → 1 ≤ m → Reads (place + m) (drop m (b ∷ bs)) ts → Reads place (b ∷ bs) (t place ∷ ts)
read_token place b bs ts m t is some rest =
    let l = length-drop m (b ∷ bs) in
    let few = rest.few in
    record { cut = after_token place b bs m t is ∙ ap (with_token (t place)) rest.cut; few = omega (arith, l, few, some) }

pub read_all : (text : List ℕ) (ts : List Token) → Reads 0 text ts → tokens_of text ≡ Ok ts
read_all text ts r = r.cut

pub front_taken : (xs ys : List ℕ) → take (length xs) (xs ++ ys) ≡ xs
front_taken [] ys = refl
front_taken (x ∷ xs) ys = ap (λ (l : List ℕ). x ∷ l) (front_taken xs ys)

pub front_dropped : (xs ys : List ℕ) → drop (length xs) (xs ++ ys) ≡ ys
front_dropped [] ys = refl
front_dropped (x ∷ xs) ys = front_dropped xs ys

-- what may stand behind a word, a number or a literal: nothing, or no byte of these
abbrev pub Parts : List ℕ → Type 0
Parts [] = Unit {0}
Parts (b ∷ bs) = (is_word_byte b ≡ false) × (is_digit b ≡ false) × (is_quote b ≡ false)

pub read_space : (place : ℕ) (rest : List ℕ) (ts : List Token) → Reads (place + 1) rest ts → Reads place (32 ∷ rest) ts
read_space place rest ts r = read_gap place 32 rest ts 1 refl (omega arith) r

-- symbols
no_mark : (b : Bool) → (b && false) ≡ false
no_mark true = refl
no_mark false = refl

abbrev after_mark : List ℕ → Bool → Front
after_mark bs t = if t then Gap 3 else symbol_front symbols bs

symbol : (place b : ℕ) (bs : List ℕ) (ts : List Token) (m : ℕ) (t : ℕ → Token) → 1 ≤ m → front place b bs ≡ after_mark (b ∷ bs) ((place == 0) && false) → symbol_front symbols (b ∷ bs) ≡ Takes m t
    → Reads (place + m) (drop m (b ∷ bs)) ts → Reads place (b ∷ bs) (t place ∷ ts)
symbol place b bs ts m t some here is r = read_token place b bs ts m t (here ∙ ap (after_mark (b ∷ bs)) (no_mark (place == 0)) ∙ is) some r

-- a symbol that begins no longer one
pub read_open : (place : ℕ) (rest : List ℕ) (ts : List Token) → Reads (place + 1) rest ts → Reads place (40 ∷ rest) (Sign place Opening ∷ ts)
read_open place rest ts r = symbol place 40 rest ts 1 (λ p. Sign p Opening) (omega arith) refl refl r

pub read_close : (place : ℕ) (rest : List ℕ) (ts : List Token) → Reads (place + 1) rest ts → Reads place (41 ∷ rest) (Sign place Closing ∷ ts)
read_close place rest ts r = symbol place 41 rest ts 1 (λ p. Sign p Closing) (omega arith) refl refl r

pub read_open_bag : (place : ℕ) (rest : List ℕ) (ts : List Token) → Reads (place + 1) rest ts → Reads place (91 ∷ rest) (Sign place OpeningBag ∷ ts)
read_open_bag place rest ts r = symbol place 91 rest ts 1 (λ p. Sign p OpeningBag) (omega arith) refl refl r

pub read_close_bag : (place : ℕ) (rest : List ℕ) (ts : List Token) → Reads (place + 1) rest ts → Reads place (93 ∷ rest) (Sign place ClosingBag ∷ ts)
read_close_bag place rest ts r = symbol place 93 rest ts 1 (λ p. Sign p ClosingBag) (omega arith) refl refl r

pub read_comma : (place : ℕ) (rest : List ℕ) (ts : List Token) → Reads (place + 1) rest ts → Reads place (44 ∷ rest) (Sign place Comma ∷ ts)
read_comma place rest ts r = symbol place 44 rest ts 1 (λ p. Sign p Comma) (omega arith) refl refl r

pub read_colon : (place : ℕ) (rest : List ℕ) (ts : List Token) → Reads (place + 1) rest ts → Reads place (58 ∷ rest) (Sign place Colon ∷ ts)
read_colon place rest ts r = symbol place 58 rest ts 1 (λ p. Sign p Colon) (omega arith) refl refl r

pub read_dot : (place : ℕ) (rest : List ℕ) (ts : List Token) → Reads (place + 1) rest ts → Reads place (46 ∷ rest) (Sign place Dot ∷ ts)
read_dot place rest ts r = symbol place 46 rest ts 1 (λ p. Sign p Dot) (omega arith) refl refl r

-- symbols before a space
pub read_assign : (place : ℕ) (rest : List ℕ) (ts : List Token) → Reads (place + 1) (32 ∷ rest) ts → Reads place (61 ∷ 32 ∷ rest) (Sign place Assign ∷ ts)
read_assign place rest ts r = symbol place 61 (32 ∷ rest) ts 1 (λ p. Sign p Assign) (omega arith) refl refl r

pub read_from : (place : ℕ) (rest : List ℕ) (ts : List Token) → Reads (place + 2) (32 ∷ rest) ts → Reads place (60 ∷ 45 ∷ 32 ∷ rest) (Sign place From ∷ ts)
read_from place rest ts r = symbol place 60 (45 ∷ 32 ∷ rest) ts 2 (λ p. Sign p From) (omega arith) refl refl r

pub read_union : (place : ℕ) (rest : List ℕ) (ts : List Token) → Reads (place + 2) (32 ∷ rest) ts → Reads place (43 ∷ 43 ∷ 32 ∷ rest) (Oper place Union ∷ ts)
read_union place rest ts r = symbol place 43 (43 ∷ 32 ∷ rest) ts 2 (λ p. Oper p Union) (omega arith) refl refl r

-- how an operator is spelled, and how many bytes it has
abbrev pub operator_bytes : Binary → List ℕ
operator_bytes Add = codes "+"
operator_bytes Sub = codes "-"
operator_bytes Mul = codes "*"
operator_bytes Eq = codes "=="
operator_bytes Ne = codes "!="
operator_bytes Lt = codes "<"
operator_bytes Le = codes "<="
operator_bytes Gt = codes ">"
operator_bytes Ge = codes ">="
operator_bytes And = codes "&&"
operator_bytes Or = codes "||"

pub read_operator : (op : Binary) (place : ℕ) (rest : List ℕ) (ts : List Token) → Reads (place + length (operator_bytes op)) (32 ∷ rest) ts → Reads place (operator_bytes op ++ 32 ∷ rest) (Oper place (Of op) ∷ ts)
read_operator Add place rest ts r = symbol place 43 (32 ∷ rest) ts 1 (λ p. Oper p (Of Add)) (omega arith) refl refl r
read_operator Sub place rest ts r = symbol place 45 (32 ∷ rest) ts 1 (λ p. Oper p (Of Sub)) (omega arith) refl refl r
read_operator Mul place rest ts r = symbol place 42 (32 ∷ rest) ts 1 (λ p. Oper p (Of Mul)) (omega arith) refl refl r
read_operator Eq place rest ts r = symbol place 61 (61 ∷ 32 ∷ rest) ts 2 (λ p. Oper p (Of Eq)) (omega arith) refl refl r
read_operator Ne place rest ts r = symbol place 33 (61 ∷ 32 ∷ rest) ts 2 (λ p. Oper p (Of Ne)) (omega arith) refl refl r
read_operator Lt place rest ts r = symbol place 60 (32 ∷ rest) ts 1 (λ p. Oper p (Of Lt)) (omega arith) refl refl r
read_operator Le place rest ts r = symbol place 60 (61 ∷ 32 ∷ rest) ts 2 (λ p. Oper p (Of Le)) (omega arith) refl refl r
read_operator Gt place rest ts r = symbol place 62 (32 ∷ rest) ts 1 (λ p. Oper p (Of Gt)) (omega arith) refl refl r
read_operator Ge place rest ts r = symbol place 62 (61 ∷ 32 ∷ rest) ts 2 (λ p. Oper p (Of Ge)) (omega arith) refl refl r
read_operator And place rest ts r = symbol place 38 (38 ∷ 32 ∷ rest) ts 2 (λ p. Oper p (Of And)) (omega arith) refl refl r
read_operator Or place rest ts r = symbol place 124 (124 ∷ 32 ∷ rest) ts 2 (λ p. Oper p (Of Or)) (omega arith) refl refl r

-- what may stand behind `-` and `!`: bytes that make no longer symbol of them
abbrev pub Operand : List ℕ → Type 0
Operand [] = Unit {0}
Operand (b ∷ bs) = ((62 == b) ≡ false) × ((61 == b) ≡ false)

pub read_minus : (place : ℕ) (rest : List ℕ) (ts : List Token) → Operand rest → Reads (place + 1) rest ts → Reads place (45 ∷ rest) (Oper place (Of Sub) ∷ ts)
read_minus place rest ts h r = symbol place 45 rest ts 1 (λ p. Oper p (Of Sub)) (omega arith) refl (go rest h) r
  where
    go : (rest : List ℕ) → Operand rest → symbol_front symbols (45 ∷ rest) ≡ Takes 1 (λ p. Oper p (Of Sub))
    go [] h = refl
    go (b ∷ bs) h = ap (λ t. if t && true then Takes 2 (λ p. Sign p Arrow) else Takes 1 (λ p. Oper p (Of Sub))) h.0

pub read_not : (place : ℕ) (rest : List ℕ) (ts : List Token) → Operand rest → Reads (place + 1) rest ts → Reads place (33 ∷ rest) (Sign place Bang ∷ ts)
read_not place rest ts h r = symbol place 33 rest ts 1 (λ p. Sign p Bang) (omega arith) refl (go rest h) r
  where
    go : (rest : List ℕ) → Operand rest → symbol_front symbols (33 ∷ rest) ≡ Takes 1 (λ p. Sign p Bang)
    go [] h = refl
    go (b ∷ bs) h = ap (λ t. if t && true then Takes 2 (λ p. Oper p (Of Ne)) else Takes 1 (λ p. Sign p Bang)) h.1

-- the choice that is the third, and the fourth
third : (v w x : Bool) (A B C D : Front) → v ≡ false → w ≡ false → x ≡ true → (if v then A else (if w then B else (if x then C else D))) ≡ C
third v w x A B C D p q r =
    ap (λ t. if t then A else (if w then B else (if x then C else D))) p ∙ ap (λ t. if t then B else (if x then C else D)) q ∙ ap (λ t. if t then C else D) r

fourth : (v w x y : Bool) (A B C D E : Front) → v ≡ false → w ≡ false → x ≡ false → y ≡ true → (if v then A else (if w then B else (if x then C else (if y then D else E)))) ≡ D
fourth v w x y A B C D E p q r s =
    ap (λ t. if t then A else (if w then B else (if x then C else (if y then D else E)))) p ∙ third w x y B C D E q r s

-- a word
word_len : (w rest : List ℕ) → Each (λ c. is_word_byte c ≡ true) w → Parts rest → prefix_len is_word_byte (w ++ rest) ≡ length w
word_len [] [] d h = refl
word_len [] (b ∷ bs) d h = ap (λ t. cond t (1 + prefix_len is_word_byte bs) 0) h.0
word_len (c ∷ cs) rest d h = ap (λ t. cond t (1 + prefix_len is_word_byte (cs ++ rest)) 0) d.0 ∙ ap (λ n. 1 + n) (word_len cs rest d.1 h) ∙ omega arith

letters_front : (place c : ℕ) (cs rest : List ℕ) → IsWord (c ∷ cs) → suc (length cs) ≤ 64 → Parts rest → front place c (cs ++ rest) ≡ Takes (suc (length cs)) (λ p. Word p (c ∷ cs))
letters_front place c cs rest w short parts =
    third (is_white c) (c == 35) (begins_word c) _ _ _ _ (white c w.0) (hash c w.0) w.0
    ∙ ap (λ n. word_front (suc n) (c ∷ (cs ++ rest))) (word_len cs rest w.1 parts)
    ∙ ap (λ b. if b then Takes (suc (length cs)) (λ p. Word p (c ∷ take (length cs) (cs ++ rest))) else Stops NoToken) (let e : nat_le (suc (length cs)) 64 ≡ true = grind (arith, nat_tests, short) in e)
    ∙ ap (λ (l : List ℕ). Takes (suc (length cs)) (λ p. Word p (c ∷ l))) (front_taken cs rest)
  where
    white : (c : ℕ) → begins_word c ≡ true → is_white c ≡ false
    white c h = grind (arith, nat_tests, h)

    hash : (c : ℕ) → begins_word c ≡ true → (c == 35) ≡ false
    hash c h = grind (arith, nat_tests, h)

pub read_word : (place : ℕ) (w rest : List ℕ) (ts : List Token) → IsQueryWord w → Parts rest → Reads (place + length w) rest ts → Reads place (w ++ rest) (Word place w ∷ ts)
read_word place [] rest ts w parts r = absurd w.word
read_word place (c ∷ cs) rest ts w parts r =
    read_token place c (cs ++ rest) ts (suc (length cs)) (λ p. Word p (c ∷ cs)) (letters_front place c cs rest w.word w.short parts) (omega arith)
    (subst (λ (l : List ℕ). Reads (place + suc (length cs)) l ts) (sym (front_dropped cs rest)) r)

-- a number
is_ascii_digit : (c : ℕ) → IsInRange 48 57 c → is_digit c ≡ true
is_ascii_digit c r = grind (arith, nat_tests, r)

digits_taken : (ds rest : List ℕ) → AllDigits 10 ds → Parts rest → prefix_len is_digit (ds ++ rest) ≡ length ds
digits_taken [] [] d h = refl
digits_taken [] (b ∷ bs) d h = ap (λ t. cond t (1 + prefix_len is_digit bs) 0) h.1
digits_taken (c ∷ cs) rest d h =
    ap (λ t. cond t (1 + prefix_len is_digit (cs ++ rest)) 0) (is_ascii_digit c (digit_from_value c d.0)) ∙ ap (λ n. 1 + n) (digits_taken cs rest d.1 h) ∙ omega arith

values_same : (n : ℕ) (ds : List ℕ) → AllDigits 10 ds → value_from n ds ≡ digits_value_after 10 n ds
values_same n [] d = refl
values_same n (c ∷ cs) d =
    let v = digit_value_digit c (digit_from_value c d.0) in
    values_same (10 * n + (c - 48)) cs d.1 ∙ ap (λ m. digits_value_after 10 m cs) (omega (arith, v))

abbrev number_of_digits : ℕ → ℕ → Front
number_of_digits size n = if nat_le n 9223372036854775807 then Takes size (λ p. Value p (Number n size)) else Stops TooLarge

digits_front : (place c : ℕ) (cs rest : List ℕ) (k : ℕ) → AllDigits 10 (c ∷ cs) → Parts rest → value_from 0 (c ∷ cs) ≡ k → k < 2 ^ 63
    → front place c (cs ++ rest) ≡ Takes (suc (length cs)) (λ p. Value p (Number k (suc (length cs))))
digits_front place c cs rest k d parts is h =
    fourth (is_white c) (c == 35) (begins_word c) (is_digit c) _ _ _ _ _ (white c r) (hash c r) (letter c r) (is_ascii_digit c r)
    ∙ ap (λ n. number_front (suc n) (c ∷ (cs ++ rest))) (digits_taken cs rest d.1 parts)
    ∙ ap (λ (l : List ℕ). number_of_digits (suc (length cs)) (value_from 0 (c ∷ l))) (front_taken cs rest)
    ∙ ap (number_of_digits (suc (length cs))) is
    ∙ ap (λ t. if t then Takes (suc (length cs)) (λ p. Value p (Number k (suc (length cs)))) else Stops TooLarge) small
  where
    small : nat_le k 9223372036854775807 ≡ true
    small = grind (arith, nat_tests, h)

    r : IsInRange 48 57 c
    r = digit_from_value c d.0

    white : (c : ℕ) → IsInRange 48 57 c → is_white c ≡ false
    white c r = grind (arith, nat_tests, r)

    hash : (c : ℕ) → IsInRange 48 57 c → (c == 35) ≡ false
    hash c r = grind (arith, nat_tests, r)

    letter : (c : ℕ) → IsInRange 48 57 c → begins_word c ≡ false
    letter c r = grind (arith, nat_tests, r)

read_digits : (place : ℕ) (ds rest : List ℕ) (ts : List Token) (k : ℕ) → 0 < length ds → AllDigits 10 ds → value_from 0 ds ≡ k → k < 2 ^ 63 → Parts rest → Reads (place + length ds) rest ts → Reads place (ds ++ rest) (Value place (Number k (length ds)) ∷ ts)
read_digits place [] rest ts k some d is h parts r = absurd (omega (arith, some))
read_digits place (c ∷ cs) rest ts k some d is h parts r =
    read_token place c (cs ++ rest) ts (suc (length cs)) (λ p. Value p (Number k (suc (length cs)))) (digits_front place c cs rest k d parts is h) (omega arith)
    (subst (λ (l : List ℕ). Reads (place + suc (length cs)) l ts) (sym (front_dropped cs rest)) r)

pub read_number : (place k : ℕ) (rest : List ℕ) (ts : List Token) → k < 2 ^ 63 → Parts rest → Reads (place + length (decimal k)) rest ts → Reads place (decimal k ++ rest) (Value place (Number k (length (decimal k))) ∷ ts)
read_number place k rest ts h parts r =
    let n = decimal_is_IsNumeral k (omega (arith, h)) in
    read_digits place (decimal k) rest ts k n.0.0 n.0.1 (values_same 0 (decimal k) n.0.1 ∙ n.1) h parts r

-- a number may stand behind `-`
pub number_operand : (k : ℕ) (rest : List ℕ) → k < 2 ^ 63 → Operand (decimal k ++ rest)
number_operand k rest h = let n = decimal_is_IsNumeral k (omega (arith, h)) in go (decimal k) n.0.0 n.0.1
  where
    go : (ds : List ℕ) → 0 < length ds → AllDigits 10 ds → Operand (ds ++ rest)
    go [] some d = absurd (omega (arith, some))
    go (c ∷ cs) some d = let r = digit_from_value c d.0 in (other c 62 r (omega arith), other c 61 r (omega arith))
      where
        other : (c b : ℕ) → IsInRange 48 57 c → 57 < b → (b == c) ≡ false
        other c b r h = grind (arith, nat_tests, r, h)

-- a letter and a number are a word
pub numbered_word : (k : ℕ) → k < 2 ^ 63 → IsQueryWord (120 ∷ decimal k)
numbered_word k h =
    let n = decimal_is_IsNumeral k (omega (arith, h)) in
    let few = length-decimal-le 19 k (omega arith) (omega (arith, h)) (omega (arith, h)) in
    record { word = (refl, go (decimal k) n.0.1); short = omega (arith, few) }
  where
    byte : (c : ℕ) → IsInRange 48 57 c → is_word_byte c ≡ true
    byte c r = grind (arith, nat_tests, r)

    go : (ds : List ℕ) → AllDigits 10 ds → Each (λ c. is_word_byte c ≡ true) ds
    go [] d = tt
    go (c ∷ cs) d = (byte c (digit_from_value c d.0), go cs d.1)

-- a literal
not_quote : (b : ℕ) → nat_eq b 39 ≡ false → is_quote b ≡ false
not_quote b e = grind (arith, nat_tests, e)

pub undoubled_doubled : (t : List ℕ) → undoubled false (doubled_quotes t) ≡ t
undoubled_doubled [] = refl
undoubled_doubled (b ∷ bs) = go (nat_eq b 39) refl (undoubled_doubled bs)
  where
    go : (q : Bool) → nat_eq b 39 ≡ q → undoubled false (doubled_quotes bs) ≡ bs → undoubled false (cond q (39 ∷ 39 ∷ doubled_quotes bs) (b ∷ doubled_quotes bs)) ≡ b ∷ bs
    go true e r = let h : 39 ≡ b = grind (arith, nat_tests, e) in ap (λ (l : List ℕ). 39 ∷ l) r ∙ ap (λ n. n ∷ bs) h
    go false e r = ap (λ q. b ∷ undoubled q (doubled_quotes bs)) (not_quote b e) ∙ ap (λ (l : List ℕ). b ∷ l) r

literal_closes : (t rest : List ℕ) → Parts rest → literal_len false (doubled_quotes t ++ 39 ∷ rest) ≡ Some (suc (length (doubled_quotes t)))
literal_closes [] [] h = refl
literal_closes [] (b ∷ bs) h = ap (λ q. option_map suc (if q then option_map suc (literal_len false bs) else Some 0)) h.2
literal_closes (b ∷ bs) rest h = go (nat_eq b 39) refl (literal_closes bs rest h)
  where
    go : (q : Bool) → nat_eq b 39 ≡ q → literal_len false (doubled_quotes bs ++ 39 ∷ rest) ≡ Some (suc (length (doubled_quotes bs)))
        → literal_len false (cond q (39 ∷ 39 ∷ doubled_quotes bs) (b ∷ doubled_quotes bs) ++ 39 ∷ rest) ≡ Some (suc (length (cond q (39 ∷ 39 ∷ doubled_quotes bs) (b ∷ doubled_quotes bs))))
    go true e g = ap (λ o. option_map suc (option_map suc o)) g
    go false e g = ap (λ q. option_map suc (literal_len q (doubled_quotes bs ++ 39 ∷ rest))) (not_quote b e) ∙ ap (λ o. option_map suc o) g

quote_dropped : (t rest : List ℕ) → drop (suc (length t)) (t ++ 39 ∷ rest) ≡ rest
quote_dropped [] rest = refl
quote_dropped (x ∷ xs) rest = quote_dropped xs rest

pub read_literal : (place : ℕ) (t rest : List ℕ) (ts : List Token) → Parts rest → Reads (place + suc (suc (length (doubled_quotes t)))) rest ts
    → Reads place (39 ∷ (doubled_quotes t ++ 39 ∷ rest)) (Value place (Literal (doubled_quotes t)) ∷ ts)
read_literal place t rest ts parts r =
    let q = doubled_quotes t in
    read_token place 39 (q ++ 39 ∷ rest) ts (suc (suc (length q))) (λ p. Value p (Literal q))
    (ap (λ o. literal_front o (q ++ 39 ∷ rest)) (literal_closes t rest parts)
    ∙ ap (λ n. Takes (suc (suc (length q))) (λ p. Value p (Literal (take n (q ++ 39 ∷ rest))))) (let e : suc (length q) - 1 ≡ length q = omega arith in e)
    ∙ ap (λ (l : List ℕ). Takes (suc (suc (length q))) (λ p. Value p (Literal l))) (front_taken q (39 ∷ rest))) (omega arith)
    (subst (λ (l : List ℕ). Reads (place + suc (suc (length q))) l ts) (sym (quote_dropped q rest)) r)
