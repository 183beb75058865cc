-- What stands outside the program: the inputs, the output and the server, before a run or after it.
use Rattle.std.specs.Prelude.{ℕ, Bool, List, Option, String, map, string_bytes}
use Rattle.std.specs.declared.alloc.Global.{Global}
use Rattle.nq_edge.specs.Edge.{Files}
use Rattle.sql_profile.specs.Servers.{Asks}
use Rattle.sql_profile.specs.declared.server.Loaded.{Loaded}
use Rattle.command_line.specs.Commands.{Command, command_of}
use Rattle.nq_execute.specs.Serving.{ServerState, server_state}
use Rattle.nq_top.specs.Gathering.{Told}

-- inputs: what they tell that they hold, the names that were fetched, where they tell them, and how
-- many fetches failed
pub record InputsState : Type 0 where
  pub held : Option Files
  pub fetched : Told
  pub faults : ℕ

-- what is written: the bytes so far, where they are told, and how many puts failed
pub record SinkState : Type 0 where
  pub written : Option (List ℕ)
  pub faults : ℕ

-- a server: what it holds and was asked, whether it is honest, how many of its calls failed, and
-- what that count never passes
pub record ServerSide : Type 0 where
  pub state : ServerState
  pub honest : Bool
  pub failures : ℕ
  pub bound : ℕ

pub record World : Type 0 where
  pub inputs : InputsState
  pub out : SinkState
  pub server : ServerSide

abbrev pub inputs_state : Option Files → Told → ℕ → InputsState
inputs_state held fetched faults = record { held = held; fetched = fetched; faults = faults }

abbrev pub sink_state : Option (List ℕ) → ℕ → SinkState
sink_state written faults = record { written = written; faults = faults }

abbrev pub server_side : List Loaded → Option Asks → Bool → ℕ → ℕ → ServerSide
server_side loaded asks honest failures bound =
    record { state = server_state loaded asks; honest = honest; failures = failures; bound = bound }

abbrev pub world : InputsState → SinkState → ServerSide → World
world inputs out server = record { inputs = inputs; out = out; server = server }

-- the command that words are
abbrev pub command_in : List (String Global) → Option Command
command_in words = command_of (map (λ word. string_bytes word) words)
