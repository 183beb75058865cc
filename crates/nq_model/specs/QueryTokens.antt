-- The tokens of a query text, each with its place: the longest match first.
use Rattle.std.specs.Prelude.{ℕ, suc, zero, ◌+◌, ◌*◌, ◌-◌, Bool, true, false, ◌&&◌, ◌==◌, nat_le, if◌then◌else◌, List, [], ◌∷◌, length, take, drop, codes, Option, Some, None, Result, Ok, Err}
use Rattle.std.specs.Option.{option_map}
use Rattle.std.specs.List.{prefix_len}
use Rattle.nq_model.specs.SchemaTokens.{is_white, begins_word, is_word_byte, is_comment_byte}
use Rattle.nq_model.specs.declared.term.Binary.{Binary}
use Rattle.nq_model.specs.declared.term.Binary.TheVariants.{Add, Sub, Mul, Eq, Ne, Lt, Le, Gt, Ge, And, Or}

-- what stands between two operands: `++`, or an operator of terms
pub data Operator : Type 0 where
  Union : Operator
  Of : Binary → Operator

-- the symbols that are no operators between two operands
pub data Mark : Type 0 where
  Opening : Mark  -- `(`
  Closing : Mark  -- `)`
  OpeningBag : Mark  -- `[`
  ClosingBag : Mark  -- `]`
  Comma : Mark  -- `,`
  Colon : Mark  -- `:`
  Semicolon : Mark  -- `;`
  Dot : Mark  -- `.`
  Assign : Mark  -- `=`
  From : Mark  -- `<-`
  Arrow : Mark  -- `->`
  Bang : Mark  -- `!`

-- a whole number, with the number of its digits; or a text literal, as it is spelled between its quotes
pub data Constant : Type 0 where
  Number : ℕ → ℕ → Constant
  Literal : List ℕ → Constant

-- a token, which begins with its place; the end of the text is a token
pub data Token : Type 0 where
  Word : ℕ → List ℕ → Token
  Value : ℕ → Constant → Token
  Oper : ℕ → Operator → Token
  Sign : ℕ → Mark → Token
  End : ℕ → Token

-- the number of bytes before the token in the whole text
abbrev pub place_of : Token → ℕ
place_of (Word p w) = p
place_of (Value p c) = p
place_of (Oper p op) = p
place_of (Sign p m) = p
place_of (End p) = p

-- `0` to `9`
abbrev pub is_digit : ℕ → Bool
is_digit b = nat_le 48 b && nat_le b 57

-- `'`
abbrev pub is_quote : ℕ → Bool
is_quote b = b == 39

-- why no token is cut off: none begins here, or the number is too large
pub data Stop : Type 0 where
  NoToken : Stop
  TooLarge : Stop

-- what stands at the front of a text: so many bytes that are no token, so many bytes of a token, or a fault
pub data Front : Type 0 where
  Gap : ℕ → Front
  Takes : ℕ → (ℕ → Token) → Front
  Stops : Stop → Front

-- the symbols, longer ones before those that they begin with
abbrev pub symbols : List (List ℕ × (ℕ → Token))
symbols =
    (codes "++", λ p. Oper p Union)
    ∷ (codes "==", λ p. Oper p (Of Eq))
    ∷ (codes "!=", λ p. Oper p (Of Ne))
    ∷ (codes "<=", λ p. Oper p (Of Le))
    ∷ (codes ">=", λ p. Oper p (Of Ge))
    ∷ (codes "<-", λ p. Sign p From)
    ∷ (codes "->", λ p. Sign p Arrow)
    ∷ (codes "&&", λ p. Oper p (Of And))
    ∷ (codes "||", λ p. Oper p (Of Or))
    ∷ (codes "(", λ p. Sign p Opening)
    ∷ (codes ")", λ p. Sign p Closing)
    ∷ (codes "[", λ p. Sign p OpeningBag)
    ∷ (codes "]", λ p. Sign p ClosingBag)
    ∷ (codes ",", λ p. Sign p Comma)
    ∷ (codes ":", λ p. Sign p Colon)
    ∷ (codes ";", λ p. Sign p Semicolon)
    ∷ (codes ".", λ p. Sign p Dot)
    ∷ (codes "=", λ p. Sign p Assign)
    ∷ (codes "<", λ p. Oper p (Of Lt))
    ∷ (codes ">", λ p. Oper p (Of Gt))
    ∷ (codes "+", λ p. Oper p (Of Add))
    ∷ (codes "-", λ p. Oper p (Of Sub))
    ∷ (codes "*", λ p. Oper p (Of Mul))
    ∷ (codes "!", λ p. Sign p Bang)
    ∷ []

-- whether the second list begins with the first
abbrev pub begins_with : List ℕ → List ℕ → Bool
begins_with [] bs = true
begins_with (c ∷ cs) [] = false
begins_with (c ∷ cs) (b ∷ bs) = c == b && begins_with cs bs

-- the first symbol of the table with which the text begins
abbrev pub symbol_front : List (List ℕ × (ℕ → Token)) → List ℕ → Front
symbol_front [] bs = Stops NoToken
symbol_front (s ∷ ss) bs = if begins_with s.0 bs then Takes (length s.0) s.1 else symbol_front ss bs

-- a word of so many bytes; one of more than 64 is none
abbrev pub word_front : ℕ → List ℕ → Front
word_front n bs = if nat_le n 64 then Takes n (λ p. Word p (take n bs)) else Stops NoToken

-- the number that digits spell behind those that spell n
abbrev pub value_from : ℕ → List ℕ → ℕ
value_from n [] = n
value_from n (b ∷ bs) = value_from (10 * n + (b - 48)) bs

-- a number of so many digits; one above 2^63 - 1 is too large
abbrev pub number_front : ℕ → List ℕ → Front
number_front n bs =
    if nat_le (value_from 0 (take n bs)) 9223372036854775807 then Takes n (λ p. Value p (Number (value_from 0 (take n bs)) n))
    else Stops TooLarge

-- how many bytes stand up to the quote that closes a literal, with this quote; whether the byte before is a
-- quote, which closes unless another follows
abbrev pub literal_len : Bool → List ℕ → Option ℕ
literal_len false [] = None
literal_len true [] = Some 0
literal_len false (b ∷ bs) = option_map suc (literal_len (is_quote b) bs)
literal_len true (b ∷ bs) = if is_quote b then option_map suc (literal_len false bs) else Some 0

-- the literal whose first quote stands before the bytes; one that is not closed is none
abbrev pub literal_front : Option ℕ → List ℕ → Front
literal_front None bs = Stops NoToken
literal_front (Some n) bs = Takes (suc n) (λ p. Value p (Literal (take (n - 1) bs)))

-- EF BB BF at the beginning of the whole text is white space
abbrev pub is_order_mark : ℕ → List ℕ → Bool
is_order_mark place bs = place == 0 && begins_with (0xEF ∷ 0xBB ∷ 0xBF ∷ []) bs

-- what stands at the front of a text that begins at this place with this byte
abbrev pub front : ℕ → ℕ → List ℕ → Front
front place b bs =
    if is_white b then Gap 1
    else (if b == 35 then Gap (suc (prefix_len is_comment_byte bs))
    else (if begins_word b then word_front (suc (prefix_len is_word_byte bs)) (b ∷ bs)
    else (if is_digit b then number_front (suc (prefix_len is_digit bs)) (b ∷ bs)
    else (if is_quote b then literal_front (literal_len false bs) bs
    else (if is_order_mark place (b ∷ bs) then Gap 3
    else symbol_front symbols (b ∷ bs))))))

-- the tokens, with this one before them
abbrev pub with_token : Token → Result (List Token) (ℕ × Stop) → Result (List Token) (ℕ × Stop)
with_token t (Ok ts) = Ok (t ∷ ts)
with_token t (Err e) = Err e

-- what stands at the front of the bytes at a place is cut off, and the rest read on
abbrev pub go_on : ℕ → List ℕ → Front → (ℕ → List ℕ → Result (List Token) (ℕ × Stop)) → Result (List Token) (ℕ × Stop)
go_on place bs (Gap n) rest = rest (place + n) (drop n bs)
go_on place bs (Takes n t) rest = with_token (t place) (rest (place + n) (drop n bs))
go_on place bs (Stops f) rest = Err (place, f)

-- the tokens of a text that begins at a place, or the first place where none is cut off; more than n pieces
-- are not looked at, and a text has no more pieces than bytes
abbrev pub tokens_from : ℕ → ℕ → List ℕ → Result (List Token) (ℕ × Stop)
tokens_from n place [] = Ok (End place ∷ [])
tokens_from zero place (b ∷ bs) = Ok []
tokens_from (suc n) place (b ∷ bs) = go_on place (b ∷ bs) (front place b bs) (tokens_from n)

-- the tokens of a whole text
abbrev pub tokens_of : List ℕ → Result (List Token) (ℕ × Stop)
tokens_of text = tokens_from (length text) 0 text
