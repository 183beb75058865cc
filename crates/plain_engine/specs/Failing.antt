-- What a clause reads of the failing server, and which of its calls fail.
use Rattle.std.specs.Prelude.{ℕ, Bool, List}
use Rattle.failing_calls.specs.Calls.{is_listed, number_after}
use Rattle.sql_profile.specs.declared.server.Loaded.{Loaded}
use Rattle.plain_engine.specs.declared.failing.FailingServer.{FailingServer}

-- the tables, in the order in which they were loaded
abbrev pub held_tables : FailingServer → List Loaded
held_tables server = server.tables

-- how many calls failed
abbrev pub failures_of : FailingServer → ℕ
failures_of server = server.failures

-- how many calls took a number
abbrev pub calls_of : FailingServer → ℕ
calls_of server = server.calls

-- the numbers of the calls that fail
abbrev pub failing_of : FailingServer → List ℕ
failing_of server = server.failing

-- the next call has a listed number
abbrev pub fails_next : FailingServer → Bool
fails_next server = is_listed server.failing (number_after server.calls)
