-- Open token lists and their faults, for any grammar: `P d ts` says that ts is a whole text of depth at most d.
--
-- A list is open where some text begins with it. This speaks of whole lists; how a reader tells it, token by
-- token, is no part of it.
use Rattle.std.specs.Prelude.{◌≡◌, ℕ, List, [], ◌∷◌, ◌++◌, ◌⊎◌}

-- why a token does not go on from those before it
pub data Fault : Type 0 where
  Unexpected : Fault
  Deep : Fault

module _ (Token : Type 0) (P : ℕ → List Token → Type 0) where
  -- a token list is open at depth d where a text of depth at most d begins with it
  abbrev pub IsOpen : ℕ → List Token → Type 0
  IsOpen d us = (rest : List Token) × P d (us ++ rest)

  -- a text of some depth begins with it
  abbrev pub Begins : List Token → Type 0
  Begins us = (d : ℕ) × IsOpen d us

  -- Deep where some text begins with the tokens, Unexpected where none does
  abbrev pub FaultFits : Fault → List Token → Type 0
  FaultFits Deep us = Begins us
  FaultFits Unexpected us = Begins us → ⊥

  -- the tokens us are open or none, and with the token t they are not open
  abbrev pub IsFaultAt : ℕ → List Token → Token → Fault → Type 0
  IsFaultAt d us t f = ((us ≡ []) ⊎ IsOpen d us) × (IsOpen d (us ++ t ∷ []) → ⊥) × FaultFits f (us ++ t ∷ [])
