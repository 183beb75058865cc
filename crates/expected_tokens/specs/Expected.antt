-- The kinds of tokens with which a program could have gone on.
use Rattle.std.specs.Prelude.{◌≡◌, ℕ, ⊤, Bool, true, false, List, [], ◌∷◌, ◌++◌, Option, Some, None}
use Rattle.std.specs.Prelude.{Result, Ok, Err}
use Rattle.std.specs.List.{Contains}
use Rattle.nq_model.specs.declared.memory.Memory.{Memory}
use Rattle.nq_model.specs.OpenLists.{Fault, IsOpen}
use Rattle.nq_model.specs.QueryTokens.{Token}
use Rattle.nq_model.specs.QueryGrammar.{Edition, IsSpelled}
use Rattle.nq_model.specs.QueryTexts.{edition_of}
use Rattle.nq_parser.specs.Openness.{Closes}
use Rattle.nq_parser.specs.TokenKinds.{token_kind}
use Rattle.expected_tokens.specs.Kinds.{kind_view, has_tokens, sample}
use Rattle.expected_tokens.specs.declared.kinds.TokenKind.{TokenKind}

-- the kind of the token is among these
abbrev pub Names : Edition → List TokenKind → Token → Type 0
Names ed kinds t = (k : TokenKind) × Contains kinds k × (kind_view k ≡ token_kind ed t)

-- a program of the edition and depth begins with the tokens and then this one
abbrev pub GoesOnWith : Edition → ℕ → List Token → Token → Type 0
GoesOnWith ed d before t = IsOpen Token (IsSpelled ed) d (before ++ t ∷ [])

-- the tokens cease to be open behind some, and there just the tokens of these kinds would have
-- gone on
pub record Expects (d : ℕ) (ts : List Token) (kinds : List TokenKind) : Type 0 where
  pub before : List Token
  pub last : Token
  pub fault : Fault
  pub closes : Closes d ts before last fault
  pub named : (t : Token) → Names (edition_of ts) kinds t → GoesOnWith (edition_of ts) d before t
  pub all : (t : Token) → GoesOnWith (edition_of ts) d before t → Names (edition_of ts) kinds t

-- the kinds that are expected where the tokens cease to be open, if they do; want of memory is free
abbrev pub Expected : Result (Option (List TokenKind)) Memory → ℕ → List Token → Type 0
Expected (Ok (Some kinds)) d ts = Expects d ts kinds
Expected (Ok None) d ts = (before : List Token) (last : Token) (f : Fault)
    → Closes d ts before last f → ⊥
Expected (Err e) d ts = ⊤

-- the edition has tokens of the kind, and one of them goes on
abbrev pub GoesOn : Edition → ℕ → List Token → TokenKind → Type 0
GoesOn ed d before k = (has_tokens ed k ≡ true) × GoesOnWith ed d before (sample k)

-- whether it does; want of memory is free
abbrev pub TellsKind : Edition → Result Bool Memory → ℕ → List Token → TokenKind → Type 0
TellsKind ed (Ok true) d before k = GoesOn ed d before k
TellsKind ed (Ok false) d before k = GoesOn ed d before k → ⊥
TellsKind ed (Err e) d before k = ⊤

-- of the kinds of a table these are the ones that go on
pub record Picks (ed : Edition) (d : ℕ) (before : List Token) (table kinds : List TokenKind) : Type
    0 where
  pub right : (k : TokenKind) → Contains kinds k → GoesOn ed d before k
  pub whole : (k : TokenKind) → Contains table k → GoesOn ed d before k → Contains kinds k

abbrev pub Picked : Edition → Result (List TokenKind) Memory → ℕ → List Token → List TokenKind
    → Type 0
Picked ed (Ok kinds) d before table = Picks ed d before table kinds
Picked ed (Err e) d before table = ⊤
