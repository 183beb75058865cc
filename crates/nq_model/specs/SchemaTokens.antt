-- The tokens of a schema text, each with its place.
use Rattle.std.specs.Prelude.{◌≡◌, ◌≢◌, ℕ, ◌+◌, Bool, true, false, not, ◌||◌, ◌&&◌, ◌==◌, nat_le, ⊤, List, [], ◌∷◌, ◌++◌, length}
use Rattle.std.specs.List.{AllByRecursion as Each}

-- the tokens that are no words
pub data Mark : Type 0 where
  opening : Mark
  closing : Mark
  comma : Mark
  colon : Mark
  semicolon : Mark

-- what a token says; the end of the text is a token
pub data Symbol : Type 0 where
  word : List ℕ → Symbol
  mark : Mark → Symbol
  end : Symbol

-- a token, and the number of bytes before it in the whole text
pub record Token : Type 0 where
  pub place : ℕ
  pub symbol : Symbol

-- a token at a place
abbrev pub token : ℕ → Symbol → Token
token place symbol = record { place = place; symbol = symbol }

-- `(`, `)`, `,`, `:` and `;`
abbrev pub byte_of : Mark → ℕ
byte_of Mark.opening = 40
byte_of Mark.closing = 41
byte_of Mark.comma = 44
byte_of Mark.colon = 58
byte_of Mark.semicolon = 59

-- space, tab, line feed and carriage return
abbrev pub is_white : ℕ → Bool
is_white b = b == 32 || b == 9 || b == 10 || b == 13

-- `A` to `Z`, `a` to `z` and `_`
abbrev pub begins_word : ℕ → Bool
begins_word b = (nat_le 65 b && nat_le b 90) || (nat_le 97 b && nat_le b 122) || b == 95

-- these and the digits
abbrev pub is_word_byte : ℕ → Bool
is_word_byte b = begins_word b || (nat_le 48 b && nat_le b 57)

-- any byte but a line feed
abbrev pub is_comment_byte : ℕ → Bool
is_comment_byte b = not (b == 10)

-- a byte that begins a word, and bytes of words
abbrev pub IsWord : List ℕ → Type 0
IsWord [] = ⊥
IsWord (b ∷ bs) = (begins_word b ≡ true) × Each (λ c. is_word_byte c ≡ true) bs

-- a text is cut into pieces: the bytes EF BB BF, a byte of white space, `#` and the rest of its line, a word, a mark
pub data Piece : Type 0 where
  byte_order_mark : Piece
  white : ℕ → Piece
  comment : List ℕ → Piece
  word : List ℕ → Piece
  mark : Mark → Piece

-- how a piece is spelled
abbrev pub bytes_of : Piece → List ℕ
bytes_of Piece.byte_order_mark = 0xEF ∷ 0xBB ∷ 0xBF ∷ []
bytes_of (Piece.white b) = b ∷ []
bytes_of (Piece.comment bs) = 35 ∷ bs
bytes_of (Piece.word bs) = bs
bytes_of (Piece.mark m) = byte_of m ∷ []

-- no byte of the kind comes first
abbrev pub Stops : (ℕ → Bool) → List ℕ → Type 0
Stops kind [] = ⊤
Stops kind (b ∷ bs) = kind b ≡ false

-- the piece may stand at a place, before these bytes; a comment and a word are as long as they can be
abbrev pub Fits : ℕ → Piece → List ℕ → Type 0
Fits place Piece.byte_order_mark after = place ≡ 0
Fits place (Piece.white b) after = is_white b ≡ true
Fits place (Piece.comment bs) after = Each (λ b. is_comment_byte b ≡ true) bs × Stops is_comment_byte after
Fits place (Piece.word bs) after = IsWord bs × Stops is_word_byte after
Fits place (Piece.mark m) after = ⊤

-- the bytes of the pieces, and then the rest
abbrev pub text_of : List Piece → List ℕ → List ℕ
text_of [] rest = rest
text_of (p ∷ ps) rest = bytes_of p ++ text_of ps rest

-- each piece may stand where it stands, the first at a place
abbrev pub FitFrom : ℕ → List Piece → List ℕ → Type 0
FitFrom place [] rest = ⊤
FitFrom place (p ∷ ps) rest = Fits place p (text_of ps rest) × FitFrom (place + length (bytes_of p)) ps rest

-- no piece begins these bytes
abbrev pub IsStuck : ℕ → List ℕ → Type 0
IsStuck place bytes = (p : Piece) (after : List ℕ) → Fits place p after → bytes ≢ bytes_of p ++ after

-- the text is cut into these pieces, up to a place at which no piece begins the rest
pub record IsCut (text : List ℕ) (pieces : List Piece) (place : ℕ) (rest : List ℕ) : Type 0 where
  pub whole : text ≡ text_of pieces rest
  pub fit : FitFrom 0 pieces rest
  pub reached : place + length rest ≡ length text
  pub stuck : IsStuck place rest

-- the token of a word or a mark that stands at a place; the other pieces have none
abbrev pub piece_tokens : ℕ → Piece → List Token
piece_tokens place (Piece.word bs) = token place (Symbol.word bs) ∷ []
piece_tokens place (Piece.mark m) = token place (Symbol.mark m) ∷ []
piece_tokens place _ = []

-- the tokens of the pieces, the first of which stands at a place
abbrev pub tokens_from : ℕ → List Piece → List Token
tokens_from place [] = []
tokens_from place (p ∷ ps) = piece_tokens place p ++ tokens_from (place + length (bytes_of p)) ps

-- the end is a token where the pieces reach it
abbrev pub end_token : ℕ → List ℕ → List Token
end_token place [] = token place Symbol.end ∷ []
end_token place (b ∷ bs) = []

-- the tokens of the text, up to the first byte where none begins
abbrev pub HasTokens : List ℕ → List Token → Type 0
HasTokens text tokens = (pieces : List Piece) × (place : ℕ) × (rest : List ℕ) × IsCut text pieces place rest × (tokens ≡ tokens_from 0 pieces ++ end_token place rest)

-- the first byte where no token begins is at this place
abbrev pub HasStray : List ℕ → ℕ → Type 0
HasStray text place = (pieces : List Piece) × (b : ℕ) × (bs : List ℕ) × IsCut text pieces place (b ∷ bs)
