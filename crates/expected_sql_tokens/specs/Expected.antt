-- The kinds of tokens with which an SQL text could have gone on.
use Rattle.std.specs.Prelude.{◌≡◌, ℕ, ⊤, Bool, true, false, List, [], ◌∷◌, ◌++◌}
use Rattle.std.specs.Prelude.{Option, Some, None, Result, Ok, Err}
use Rattle.std.specs.List.{Contains}
use Rattle.nq_model.specs.declared.memory.Memory.{Memory}
use Rattle.nq_model.specs.OpenLists.{Fault, IsOpen}
use Rattle.sql_profile.specs.Tokens.{First, Token}
use Rattle.sql_profile.specs.Grammar.{IsSpelled}
use Rattle.sql_reader.specs.Openness.{Closes}
use Rattle.sql_reader.specs.TokenKinds.{token_kind}
use Rattle.expected_sql_tokens.specs.Kinds.{kind_view, sample}
use Rattle.expected_sql_tokens.specs.declared.kinds.SqlTokenKind.{SqlTokenKind}

-- the kind of the token is among these
abbrev pub Names : List SqlTokenKind → Token → Type 0
Names kinds t = (k : SqlTokenKind) × Contains kinds k × (kind_view k ≡ token_kind t)

-- an SQL text of the depth begins with the tokens and then this one
abbrev pub GoesOnWith : ℕ → List Token → Token → Type 0
GoesOnWith d before t = IsOpen Token (IsSpelled First) d (before ++ t ∷ [])

-- the tokens cease to be open behind some, and there just the tokens of these kinds would have
-- gone on
pub record Expects (d : ℕ) (ts : List Token) (kinds : List SqlTokenKind) : Type 0 where
  pub before : List Token
  pub last : Token
  pub fault : Fault
  pub closes : Closes d ts before last fault
  pub named : (t : Token) → Names kinds t → GoesOnWith d before t
  pub all : (t : Token) → GoesOnWith d before t → Names kinds t

-- the kinds that are expected where the tokens cease to be open, if they do; want of memory is free
abbrev pub Expected : Result (Option (List SqlTokenKind)) Memory → ℕ → List Token → Type 0
Expected (Ok (Some kinds)) d ts = Expects d ts kinds
Expected (Ok None) d ts = (before : List Token) (last : Token) (f : Fault)
    → Closes d ts before last f → ⊥
Expected (Err e) d ts = ⊤

-- whether the tokens of the kind go on; want of memory is free
abbrev pub TellsKind : Result Bool Memory → ℕ → List Token → SqlTokenKind → Type 0
TellsKind (Ok true) d before k = GoesOnWith d before (sample k)
TellsKind (Ok false) d before k = GoesOnWith d before (sample k) → ⊥
TellsKind (Err e) d before k = ⊤

-- of the kinds of a table these are the ones that go on
pub record Picks (d : ℕ) (before : List Token) (table kinds : List SqlTokenKind) : Type 0 where
  pub right : (k : SqlTokenKind) → Contains kinds k → GoesOnWith d before (sample k)
  pub whole : (k : SqlTokenKind) → Contains table k → GoesOnWith d before (sample k)
      → Contains kinds k

abbrev pub Picked : Result (List SqlTokenKind) Memory → ℕ → List Token → List SqlTokenKind
    → Type 0
Picked (Ok kinds) d before table = Picks d before table kinds
Picked (Err e) d before table = ⊤
