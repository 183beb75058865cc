-- What stands at the front of bytes.
use Rattle.std.specs.Prelude.{◌≡◌, ◌≢◌, ◌==◌, ℕ, true, List, [], ◌∷◌, ◌++◌, length, drop, Option, Some, None, if◌then◌else◌}
use Rattle.nq_model.specs.SchemaTokens.{Mark, Symbol, Token, token, begins_word, Piece, bytes_of, Fits, IsStuck, piece_tokens}
use Rattle.schema_reader.specs.declared.front.Mark.{Mark as CodeMark}
use Rattle.schema_reader.specs.declared.front.Mark.TheVariants as marks
use Rattle.schema_reader.specs.declared.front.Symbol.{Symbol as CodeSymbol}
use Rattle.schema_reader.specs.declared.front.Symbol.TheVariants as symbols
use Rattle.schema_reader.specs.declared.front.Front.{Front}
use Rattle.schema_reader.specs.declared.front.Front.TheVariants as fronts

-- a mark of the reader
abbrev pub mark_view : CodeMark → Mark
mark_view marks.Opening = Mark.opening
mark_view marks.Closing = Mark.closing
mark_view marks.Comma = Mark.comma
mark_view marks.Colon = Mark.colon
mark_view marks.Semicolon = Mark.semicolon

-- a symbol of the reader
abbrev pub symbol_view : CodeSymbol → Symbol
symbol_view (symbols.Word w) = Symbol.word w.now
symbol_view (symbols.Mark m) = Symbol.mark (mark_view m)

-- the mark that a byte is
abbrev pub mark_of : ℕ → Option Mark
mark_of b = if b == 40 then Some Mark.opening
    else (if b == 41 then Some Mark.closing
    else (if b == 44 then Some Mark.comma
    else (if b == 58 then Some Mark.colon
    else (if b == 59 then Some Mark.semicolon else None))))

-- the first byte begins a word
abbrev pub BeginsWord : List ℕ → Type 0
BeginsWord [] = ⊥
BeginsWord (b ∷ bs) = begins_word b ≡ true

-- a piece of n bytes with these tokens stands at the front
pub record HasFront (place : ℕ) (bytes : List ℕ) (n : ℕ) (tokens : List Token) : Type 0 where
  pub piece : Piece
  pub whole : bytes ≡ bytes_of piece ++ drop n bytes
  pub fits : Fits place piece (drop n bytes)
  pub size : length (bytes_of piece) ≡ n
  pub says : piece_tokens place piece ≡ tokens

-- what the answer says of the front of the bytes at a place
abbrev pub IsFront : ℕ → List ℕ → Front → Type 0
IsFront place bytes fronts.End = bytes ≡ []
IsFront place bytes fronts.Stray = (bytes ≢ []) × IsStuck place bytes
IsFront place bytes (fronts.Gap n) = HasFront place bytes n []
IsFront place bytes (fronts.Token s n) = HasFront place bytes n (token place (symbol_view s) ∷ [])
