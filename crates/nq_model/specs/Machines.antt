-- Reading token by token, by any machine whose states know their least completion.
use Rattle.std.specs.Prelude.{ℕ, List, [], ◌∷◌, Option, Some, None, Bool, cond}
use Rattle.nq_model.specs.OpenLists.{Fault, Unexpected, Deep}

module _ (Token State : Type 0) where
  pub data Outcome : Type 0 where
    Reached : State → Outcome
    Faulty : Token → Fault → Outcome

module _ (Token State : Type 0) (step : State → Token → Option State) (fits : ℕ → State → Bool) where
  abbrev pub turn : ℕ → Token → Option State → (State → Outcome Token State) → Outcome Token State
  turn d t None go = Faulty t Unexpected
  turn d t (Some st) go = cond (fits d st) (go st) (Faulty t Deep)

  abbrev pub run : ℕ → List Token → State → Outcome Token State
  run d [] st = Reached st
  run d (t ∷ ts) st = turn d t (step st t) (run d ts)
