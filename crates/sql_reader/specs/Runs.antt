-- The reader's answer to a list of tokens, with its own states.
use Rattle.std.specs.Prelude.{ℕ, List, Option}
use Rattle.nq_model.specs.Machines as machines
use Rattle.nq_model.specs.Machines.{Outcome}
use Rattle.sql_profile.specs.Tokens.{Token}
use Rattle.sql_reader.specs.Steps.{State, step}
use Rattle.sql_reader.specs.Needs.{fits}

abbrev pub turn : ℕ → Token → Option State → (State → Outcome Token State) → Outcome Token State
turn d t o go = machines.turn Token State step fits d t o go

abbrev pub run : ℕ → List Token → State → Outcome Token State
run d ts st = machines.run Token State step fits d ts st
