-- The tokens of an SQL text, each with its place: the longest match first.
--
-- Keywords in any ASCII case; identifiers in double quotes, of 1 to 128 bytes; whole numbers; text literals in
-- single quotes, a quote inside doubled. A comment runs from `--` to a line feed.
use Rattle.std.specs.Prelude.{ℕ, suc, zero, ◌+◌, ◌*◌, ◌-◌, Bool, true, false, ◌&&◌, ◌==◌, nat_le, if◌then◌else◌, List, [], ◌∷◌, length, take, drop, map, codes, Option, Some, None, Result, Ok, Err}
use Rattle.std.specs.Option.{option_map}
use Rattle.std.specs.List.{prefix_len}
use Rattle.nq_model.specs.SchemaTokens.{is_white, begins_word, is_word_byte, is_comment_byte}
use Rattle.nq_model.specs.declared.term.Binary.{Binary}
use Rattle.nq_model.specs.declared.term.Binary.TheVariants.{Add, Sub, Mul, Eq, Ne, Lt, Le, Gt, Ge, And, Or}

-- the editions of the profile, of which there is one
pub data Edition : Type 0 where
  First : Edition

-- the keywords that are no operator and no constant; `Stop` is END
pub data Keyword : Type 0 where
  With : Keyword
  As : Keyword
  Union : Keyword
  All : Keyword
  Select : Keyword
  From : Keyword
  Where : Keyword
  RowNumber : Keyword
  Over : Keyword
  Order : Keyword
  By : Keyword
  Not : Keyword
  Exists : Keyword
  Case : Keyword
  When : Keyword
  Then : Keyword
  Else : Keyword
  Stop : Keyword
  Count : Keyword
  Sum : Keyword
  Coalesce : Keyword

-- a whole number, with the number of its digits; a text literal, as it is spelled between its quotes; TRUE and FALSE
pub data Constant : Type 0 where
  Number : ℕ → ℕ → Constant
  Literal : List ℕ → Constant
  Truth : Bool → Constant

-- a token, which begins with its place; the end of the text is a token
pub data Token : Type 0 where
  Value : ℕ → Constant → Token
  Name : ℕ → List ℕ → Token
  Key : ℕ → Keyword → Token
  Oper : ℕ → Binary → Token
  Open : ℕ → Token
  Close : ℕ → Token
  Comma : ℕ → Token
  Dot : ℕ → Token
  Semi : ℕ → Token
  End : ℕ → Token

-- the number of bytes before the token in the whole text
abbrev pub place_of : Token → ℕ
place_of (Value p c) = p
place_of (Name p n) = p
place_of (Key p k) = p
place_of (Oper p op) = p
place_of (Open p) = p
place_of (Close p) = p
place_of (Comma p) = p
place_of (Dot p) = p
place_of (Semi p) = p
place_of (End p) = p

-- `0` to `9`
abbrev pub is_digit : ℕ → Bool
is_digit b = nat_le 48 b && nat_le b 57

-- any byte but `"`
abbrev pub is_name_byte : ℕ → Bool
is_name_byte b = if b == 34 then false else true

-- `'`
abbrev pub is_quote : ℕ → Bool
is_quote b = b == 39

-- why no token is cut off: none begins here, or the number is too large
pub data Stuck : Type 0 where
  NoToken : Stuck
  TooLarge : Stuck

-- what stands at the front of a text: so many bytes that are no token, so many bytes of a token, or a fault
pub data Front : Type 0 where
  Gap : ℕ → Front
  Takes : ℕ → (ℕ → Token) → Front
  Stops : Stuck → Front

-- what a word in capitals is
abbrev pub keywords : Edition → List (List ℕ × (ℕ → Token))
keywords First =
    (codes "WITH", λ p. Key p With)
    ∷ (codes "AS", λ p. Key p As)
    ∷ (codes "UNION", λ p. Key p Union)
    ∷ (codes "ALL", λ p. Key p All)
    ∷ (codes "SELECT", λ p. Key p Select)
    ∷ (codes "FROM", λ p. Key p From)
    ∷ (codes "WHERE", λ p. Key p Where)
    ∷ (codes "ROW_NUMBER", λ p. Key p RowNumber)
    ∷ (codes "OVER", λ p. Key p Over)
    ∷ (codes "ORDER", λ p. Key p Order)
    ∷ (codes "BY", λ p. Key p By)
    ∷ (codes "NOT", λ p. Key p Not)
    ∷ (codes "EXISTS", λ p. Key p Exists)
    ∷ (codes "CASE", λ p. Key p Case)
    ∷ (codes "WHEN", λ p. Key p When)
    ∷ (codes "THEN", λ p. Key p Then)
    ∷ (codes "ELSE", λ p. Key p Else)
    ∷ (codes "END", λ p. Key p Stop)
    ∷ (codes "COUNT", λ p. Key p Count)
    ∷ (codes "SUM", λ p. Key p Sum)
    ∷ (codes "COALESCE", λ p. Key p Coalesce)
    ∷ (codes "OR", λ p. Oper p Or)
    ∷ (codes "AND", λ p. Oper p And)
    ∷ (codes "TRUE", λ p. Value p (Truth true))
    ∷ (codes "FALSE", λ p. Value p (Truth false))
    ∷ []

-- the symbols, longer ones before those that they begin with
abbrev pub symbols : List (List ℕ × (ℕ → Token))
symbols =
    (codes "<>", λ p. Oper p Ne)
    ∷ (codes "<=", λ p. Oper p Le)
    ∷ (codes ">=", λ p. Oper p Ge)
    ∷ (codes "=", λ p. Oper p Eq)
    ∷ (codes "<", λ p. Oper p Lt)
    ∷ (codes ">", λ p. Oper p Gt)
    ∷ (codes "+", λ p. Oper p Add)
    ∷ (codes "-", λ p. Oper p Sub)
    ∷ (codes "*", λ p. Oper p Mul)
    ∷ (codes "(", λ p. Open p)
    ∷ (codes ")", λ p. Close p)
    ∷ (codes ",", λ p. Comma p)
    ∷ (codes ".", λ p. Dot p)
    ∷ (codes ";", λ p. Semi p)
    ∷ []

-- whether the second list begins with the first
abbrev pub begins_with : List ℕ → List ℕ → Bool
begins_with [] bs = true
begins_with (c ∷ cs) [] = false
begins_with (c ∷ cs) (b ∷ bs) = c == b && begins_with cs bs

abbrev pub same_bytes : List ℕ → List ℕ → Bool
same_bytes [] [] = true
same_bytes (c ∷ cs) (b ∷ bs) = c == b && same_bytes cs bs
same_bytes _ _ = false

-- an ASCII letter as a capital, any other byte as it is
abbrev pub capital : ℕ → ℕ
capital b = if nat_le 97 b && nat_le b 122 then b - 32 else b

-- the first symbol of the table with which the text begins
abbrev pub symbol_front : List (List ℕ × (ℕ → Token)) → List ℕ → Front
symbol_front [] bs = Stops NoToken
symbol_front (s ∷ ss) bs = if begins_with s.0 bs then Takes (length s.0) s.1 else symbol_front ss bs

-- a word that is a keyword in any case; another is no token
abbrev pub word_front : List (List ℕ × (ℕ → Token)) → List ℕ → Front
word_front [] word = Stops NoToken
word_front (k ∷ ks) word = if same_bytes k.0 (map capital word) then Takes (length word) k.1 else word_front ks word

-- the number that digits spell behind those that spell n
abbrev pub number_from : ℕ → List ℕ → ℕ
number_from n [] = n
number_from n (b ∷ bs) = number_from (10 * n + (b - 48)) bs

-- a number of these digits; one above 2^63 - 1 is too large
abbrev pub number_front : List ℕ → Front
number_front digits =
    if nat_le (number_from 0 digits) 9223372036854775807 then Takes (length digits) (λ p. Value p (Number (number_from 0 digits) (length digits)))
    else Stops TooLarge

-- an identifier of so many bytes, which stand before these; it is closed by a quote
abbrev pub name_front : ℕ → List ℕ → List ℕ → Front
name_front n bs [] = Stops NoToken
name_front n bs (q ∷ rest) = if nat_le 1 n && nat_le n 128 then Takes (n + 2) (λ p. Name p (take n bs)) else Stops NoToken

-- how many bytes stand up to the quote that closes a literal, with this quote; whether the byte before is a
-- quote, which closes unless another follows
abbrev pub literal_len : Bool → List ℕ → Option ℕ
literal_len false [] = None
literal_len true [] = Some 0
literal_len false (b ∷ bs) = option_map suc (literal_len (is_quote b) bs)
literal_len true (b ∷ bs) = if is_quote b then option_map suc (literal_len false bs) else Some 0

-- the literal whose first quote stands before the bytes; one that is not closed is none
abbrev pub literal_front : Option ℕ → List ℕ → Front
literal_front None bs = Stops NoToken
literal_front (Some n) bs = Takes (suc n) (λ p. Value p (Literal (take (n - 1) bs)))

-- EF BB BF at the beginning of the whole text is white space
abbrev pub is_order_mark : ℕ → List ℕ → Bool
is_order_mark place bs = place == 0 && begins_with (0xEF ∷ 0xBB ∷ 0xBF ∷ []) bs

-- what stands at the front of a text that begins at this place with this byte
abbrev pub front : Edition → ℕ → ℕ → List ℕ → Front
front edition place b bs =
    if is_white b then Gap 1
    else (if begins_with (codes "--") (b ∷ bs) then Gap (suc (prefix_len is_comment_byte bs))
    else (if begins_word b then word_front (keywords edition) (take (suc (prefix_len is_word_byte bs)) (b ∷ bs))
    else (if is_digit b then number_front (take (suc (prefix_len is_digit bs)) (b ∷ bs))
    else (if b == 34 then name_front (prefix_len is_name_byte bs) bs (drop (prefix_len is_name_byte bs) bs)
    else (if is_quote b then literal_front (literal_len false bs) bs
    else (if is_order_mark place (b ∷ bs) then Gap 3
    else symbol_front symbols (b ∷ bs)))))))

-- the tokens, with this one before them
abbrev pub with_token : Token → Result (List Token) (ℕ × Stuck) → Result (List Token) (ℕ × Stuck)
with_token t (Ok ts) = Ok (t ∷ ts)
with_token t (Err e) = Err e

-- what stands at the front of the bytes at a place is cut off, and the rest read on
abbrev pub go_on : ℕ → List ℕ → Front → (ℕ → List ℕ → Result (List Token) (ℕ × Stuck)) → Result (List Token) (ℕ × Stuck)
go_on place bs (Gap n) rest = rest (place + n) (drop n bs)
go_on place bs (Takes n t) rest = with_token (t place) (rest (place + n) (drop n bs))
go_on place bs (Stops f) rest = Err (place, f)

-- the tokens of a text that begins at a place, or the first place where none is cut off; more than n pieces
-- are not looked at, and a text has no more pieces than bytes
abbrev pub tokens_from : Edition → ℕ → ℕ → List ℕ → Result (List Token) (ℕ × Stuck)
tokens_from edition n place [] = Ok (End place ∷ [])
tokens_from edition zero place (b ∷ bs) = Ok []
tokens_from edition (suc n) place (b ∷ bs) = go_on place (b ∷ bs) (front edition place b bs) (tokens_from edition n)

-- the tokens of a whole text
abbrev pub tokens_of : Edition → List ℕ → Result (List Token) (ℕ × Stuck)
tokens_of edition text = tokens_from edition (length text) 0 text

-- the bytes of a literal, each doubled quote once; whether the byte before is the first of two quotes
abbrev pub unquoted_from : Bool → List ℕ → List ℕ
unquoted_from first [] = []
unquoted_from true (b ∷ bs) = unquoted_from false bs
unquoted_from false (b ∷ bs) = b ∷ unquoted_from (is_quote b) bs

abbrev pub unquoted : List ℕ → List ℕ
unquoted spelled = unquoted_from false spelled
