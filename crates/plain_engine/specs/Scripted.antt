-- What a clause reads of the scripted server.
use Rattle.std.specs.Prelude.{ℕ, List, length, zip}
use Rattle.sql_profile.specs.Servers.{Asks}
use Rattle.sql_profile.specs.declared.answer.Answer.{Answer}
use Rattle.sql_profile.specs.declared.server.Loaded.{Loaded}
use Rattle.plain_engine.specs.declared.scripted.ScriptedServer.{ScriptedServer}

-- the tables, in the order in which they were loaded
abbrev pub held_tables : ScriptedServer → List Loaded
held_tables server = server.tables

-- how many asks failed
abbrev pub failures_of : ScriptedServer → ℕ
failures_of server = server.failures

-- the answers that it has for its asks, in order
abbrev pub script_of : ScriptedServer → List Answer
script_of server = server.script

-- how many asks it answered
abbrev pub answered : ScriptedServer → ℕ
answered server = length server.asked

-- the texts that it answered, each with its answer
abbrev pub asks_of : ScriptedServer → Asks
asks_of server = zip server.asked server.script
