-- Which tokens an SQL text begins with.
use Rattle.std.specs.Prelude.{◌≡◌, ℕ, ◌≤◌, ⊤, Bool, true, false, List, []}
use Rattle.std.specs.Prelude.{◌∷◌, ◌++◌, length, take, drop, ◌⊎◌, Option, Some}
use Rattle.std.specs.Prelude.{None, Result, Ok, Err}
use Rattle.nq_model.specs.declared.memory.Memory.{Memory}
use Rattle.nq_model.specs.OpenLists.{Fault, IsOpen, IsFaultAt}
use Rattle.nq_model.specs.Machines.{Reached}
use Rattle.sql_profile.specs.Tokens.{First, Token}
use Rattle.sql_profile.specs.Grammar.{IsSpelled}
use Rattle.sql_reader.specs.Needs.{fits}
use Rattle.sql_reader.specs.Runs.{run}
use Rattle.sql_reader.specs.Steps.{State, start_state, step}
use Rattle.sql_reader.specs.TokenKinds.{token_kind}
use Rattle.sql_reader.specs.declared.fault.SqlFault.{SqlFault}
use Rattle.sql_reader.specs.declared.fault.SqlFault.TheVariants as code

-- whether a text of the depth begins with the tokens; want of memory is free
abbrev pub TellsOpen : Result Bool Memory → ℕ → List Token → Type 0
TellsOpen (Ok true) d ts = IsOpen Token (IsSpelled First) d ts
TellsOpen (Ok false) d ts = IsOpen Token (IsSpelled First) d ts → ⊥
TellsOpen (Err e) d ts = ⊤

-- at the token behind these the text ceases to be open
abbrev pub Closes : ℕ → List Token → List Token → Token → Fault → Type 0
Closes d ts before last f = (after : List Token) × (ts ≡ before ++ last ∷ after)
    × IsFaultAt Token (IsSpelled First) d before last f

-- how many tokens stand before the one at which the text ceases to be open, if it does; want of
-- memory is free
abbrev pub FindsFront : Result (Option ℕ) Memory → ℕ → List Token → Type 0
FindsFront (Ok (Some n)) d ts = (last : Token) × (f : Fault) × Closes d ts (take n ts) last f
FindsFront (Ok None) d ts = (before : List Token) (last : Token) (f : Fault)
    → Closes d ts before last f → ⊥
FindsFront (Err e) d ts = ⊤

-- behind any tokens each token of a kind goes on, or none
abbrev pub KindsGoOn : Type 0
KindsGoOn =
    (d : ℕ) (before : List Token) (a b : Token) → token_kind a ≡ token_kind b
    → IsOpen Token (IsSpelled First) d (before ++ a ∷ [])
    → IsOpen Token (IsSpelled First) d (before ++ b ∷ [])

-- the token does not go on from the state
abbrev pub Stops : ℕ → State → Token → Type 0
Stops d st t = (step st t ≡ None) ⊎ ((next : State) × (step st t ≡ Some next)
    × (fits d next ≡ false))

-- the reader reads the first n tokens, and the next it does not; or it reads them all
pub record ReadsFirst (d : ℕ) (ts : List Token) (n : ℕ) : Type 0 where
  pub state : State
  pub within : n ≤ length ts
  pub run_to : run d (take n ts) start_state ≡ Reached state
  pub stops : (n ≡ length ts) ⊎ ((t : Token) × (rest : List Token)
      × (drop n ts ≡ t ∷ rest)
      × Stops d state t)

-- how many tokens the reader reads; want of memory is free
abbrev pub ReadsFront : Result ℕ Memory → ℕ → List Token → Type 0
ReadsFront (Ok n) d ts = ReadsFirst d ts n
ReadsFront (Err e) d ts = ⊤

-- the token behind these many has the fault, so no more are read; want of memory is free
abbrev pub StopsBehind : Result ℕ Memory → SqlFault → ℕ → Type 0
StopsBehind (Ok n) fault count = (n ≡ count) × (fault ≡ code.Memory → ⊥)
StopsBehind (Err e) fault count = ⊤
