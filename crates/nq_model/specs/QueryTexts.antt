-- What a query text spells at a depth, and its one fault.
--
-- The faults come in this order: no UTF-8; then no token, or a number that is too large, whichever comes
-- first; then the first token with which the tokens are not open; then, of names, what comes first.
use Rattle.std.specs.Prelude.{◌≡◌, ℕ, ◌&&◌, ◌==◌, cond, codes, List, [], ◌∷◌, ◌++◌, Ok, Err}
use Rattle.std.specs.Str.{bytes_eq}
use Rattle.std.specs.Str.{IsUtf8, IsValidUpTo}
use Rattle.nq_model.specs.OpenLists.{IsFaultAt}
use Rattle.nq_model.specs.OpenLists as open_lists
use Rattle.nq_model.specs.Terms.{PlacedTerm}
use Rattle.nq_model.specs.QueryTokens.{Token, Word, Value, Sign, Number, Semicolon, place_of, Stop, NoToken, TooLarge, tokens_of}
use Rattle.nq_model.specs.QueryGrammar.{Edition, First, Second, Syntax, IsProgram, Within, IsSpelled}
use Rattle.nq_model.specs.QueryScope.{term_of, Wrong, Unbound, TwiceLabel, wrongs}

-- the edition in which the tokens are read: the second behind `nq` `2` `;`
abbrev pub edition_of : List Token → Edition
edition_of (Word p w ∷ Value q (Number n digits) ∷ Sign r Semicolon ∷ ts) = cond (bytes_eq w (codes "nq") && (n == 2 && digits == 1)) Second First
edition_of _ = First

-- the bytes are UTF-8, and these are their tokens
abbrev pub HasTokens : List ℕ → List Token → Type 0
HasTokens text ts = IsUtf8 text × (tokens_of text ≡ Ok ts)

-- the tokens are those of this program, of depth at most d
pub record Derives (d : ℕ) (ts : List Token) (s : Syntax) : Type 0 where
  pub program : IsProgram (edition_of ts) ts s
  pub within : Within d s

-- the text spells the term at depth d
pub record Spells (d : ℕ) (text : List ℕ) (t : PlacedTerm) : Type 0 where
  pub tokens : List Token
  pub cut : HasTokens text tokens
  pub syntax_tree : Syntax
  pub derived : Derives d tokens syntax_tree
  pub bound : wrongs syntax_tree [] ≡ []
  pub same : t ≡ term_of syntax_tree []

-- why a text spells no term
pub data Fault : Type 0 where
  not_utf8 : Fault
  token : Fault
  int_range : Fault
  unexpected : Fault
  deep : Fault
  unbound : Fault
  twice_label : Fault

-- no token is cut off at this place, and before it tokens are
abbrev pub StopsAt : List ℕ → Stop → ℕ → Type 0
StopsAt text f place = IsUtf8 text × (tokens_of text ≡ Err (place, f))

-- the first token with which the tokens are no longer open at depth d has this place
pub record EndsOpen (d : ℕ) (text : List ℕ) (f : open_lists.Fault) (place : ℕ) : Type 0 where
  pub before : List Token
  pub last : Token
  pub after : List Token
  pub cut : HasTokens text (before ++ last ∷ after)
  pub there : place_of last ≡ place
  pub closes : IsFaultAt Token (IsSpelled (edition_of (before ++ last ∷ after))) d before last f

-- the first wrong name of the program
pub record HasWrong (d : ℕ) (text : List ℕ) (w : Wrong) : Type 0 where
  pub tokens : List Token
  pub cut : HasTokens text tokens
  pub syntax_tree : Syntax
  pub derived : Derives d tokens syntax_tree
  pub later : List Wrong
  pub first : wrongs syntax_tree [] ≡ w ∷ later

-- the text has this fault at this place, at depth d
abbrev pub HasFault : ℕ → List ℕ → Fault → ℕ → Type 0
HasFault d text Fault.not_utf8 place = IsValidUpTo text place
HasFault d text Fault.token place = StopsAt text NoToken place
HasFault d text Fault.int_range place = StopsAt text TooLarge place
HasFault d text Fault.unexpected place = EndsOpen d text open_lists.Unexpected place
HasFault d text Fault.deep place = EndsOpen d text open_lists.Deep place
HasFault d text Fault.unbound place = HasWrong d text (Unbound place)
HasFault d text Fault.twice_label place = HasWrong d text (TwiceLabel place)
