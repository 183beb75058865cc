-- Which tokens a program begins with.
use Rattle.std.specs.Prelude.{◌≡◌, ℕ, ◌≤◌, ◌==◌, ⊤, Bool, true, false, ◌&&◌, List, [], ◌∷◌, ◌++◌}
use Rattle.std.specs.Prelude.{length, take, drop, ◌⊎◌, Option, Some, None, Result, Ok, Err}
use Rattle.nq_model.specs.declared.memory.Memory.{Memory}
use Rattle.nq_model.specs.OpenLists.{Fault, IsOpen, IsFaultAt}
use Rattle.nq_model.specs.Machines.{Reached}
use Rattle.nq_model.specs.QueryTokens.{Token}
use Rattle.nq_model.specs.QueryGrammar.{Edition, IsSpelled}
use Rattle.nq_model.specs.QueryTexts.{edition_of}
use Rattle.nq_parser.specs.Editions.{is_nq, is_two}
use Rattle.nq_parser.specs.Machine.{State, step, fits, run, start_state}
use Rattle.nq_parser.specs.States.{state_view}
use Rattle.nq_parser.specs.TokenKinds.{token_kind}
use Rattle.nq_parser.specs.declared.state.State.{State as CodeState}

-- whether fewer than three tokens are the front of a header
abbrev pub header_front : List Token → Bool
header_front [] = true
header_front (a ∷ []) = is_nq a
header_front (a ∷ b ∷ []) = is_nq a && is_two b
header_front _ = false

-- whether a program of the edition and depth begins with the tokens; want of memory is free
abbrev pub TellsOpen : Edition → Result Bool Memory → ℕ → List Token → Type 0
TellsOpen ed (Ok true) d ts = IsOpen Token (IsSpelled ed) d ts
TellsOpen ed (Ok false) d ts = IsOpen Token (IsSpelled ed) d ts → ⊥
TellsOpen ed (Err e) d ts = ⊤

-- at the token behind these the text ceases to be open
abbrev pub Closes : ℕ → List Token → List Token → Token → Fault → Type 0
Closes d ts before last f = (after : List Token) × (ts ≡ before ++ last ∷ after)
    × IsFaultAt Token (IsSpelled (edition_of ts)) d before last f

-- how many tokens stand before the one at which the text ceases to be open, if it does; want of
-- memory is free
abbrev pub FindsFront : Result (Option ℕ) Memory → ℕ → List Token → Type 0
FindsFront (Ok (Some n)) d ts = (last : Token) × (f : Fault) × Closes d ts (take n ts) last f
FindsFront (Ok None) d ts = (before : List Token) (last : Token) (f : Fault)
    → Closes d ts before last f → ⊥
FindsFront (Err e) d ts = ⊤

-- there each token of a kind would have gone on, or none
abbrev pub KindsGoOn : Type 0
KindsGoOn =
    (d : ℕ) (ts before : List Token) (last : Token) (f : Fault) → Closes d ts before last f
    → (a b : Token) → token_kind (edition_of ts) a ≡ token_kind (edition_of ts) b
    → IsOpen Token (IsSpelled (edition_of ts)) d (before ++ a ∷ [])
    → IsOpen Token (IsSpelled (edition_of ts)) d (before ++ b ∷ [])

-- the token does not go on from the state
abbrev pub Stops : Edition → ℕ → State → Token → Type 0
Stops ed d st t = (step ed st t ≡ None) ⊎ ((next : State) × (step ed st t ≡ Some next)
    × (fits d next ≡ false))

-- the state behind the token, if it goes on; want of memory is free
abbrev pub GoesOn : Edition → Result (Option CodeState) Memory → ℕ → State → Token → Type 0
GoesOn ed (Ok (Some next)) d st t = (step ed st t ≡ Some (state_view next))
    × (fits d (state_view next) ≡ true)
GoesOn ed (Ok None) d st t = Stops ed d st t
GoesOn ed (Err e) d st t = ⊤

-- the machine reads the first n tokens, and the next it does not; or it reads them all
pub record ReadsFirst (ed : Edition) (d : ℕ) (ts : List Token) (n : ℕ) : Type 0 where
  pub state : State
  pub within : n ≤ length ts
  pub run_to : run ed d (take n ts) start_state ≡ Reached state
  pub stops : (n ≡ length ts) ⊎ ((t : Token) × (rest : List Token) × (drop n ts ≡ t ∷ rest)
      × Stops ed d state t)

-- whether the machine reads all the tokens; want of memory is free
abbrev pub TellsAll : Edition → Result Bool Memory → ℕ → List Token → Type 0
TellsAll ed (Ok b) d ts = (n : ℕ) × ReadsFirst ed d ts n × (b ≡ (n == length ts))
TellsAll ed (Err e) d ts = ⊤

-- where the machine stops, if it does; want of memory is free
abbrev pub FindsStop : Edition → Result (Option ℕ) Memory → ℕ → List Token → Type 0
FindsStop ed (Ok (Some n)) d ts = ReadsFirst ed d ts n × (n ≡ length ts → ⊥)
FindsStop ed (Ok None) d ts = ReadsFirst ed d ts (length ts)
FindsStop ed (Err e) d ts = ⊤

-- how many tokens the machine reads; want of memory is free
abbrev pub ReadsFront : Edition → Result ℕ Memory → ℕ → List Token → Type 0
ReadsFront ed (Ok n) d ts = ReadsFirst ed d ts n
ReadsFront ed (Err e) d ts = ⊤
