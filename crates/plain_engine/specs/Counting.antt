-- Counts of calls, and of the numbers of calls that are to fail.
use Rattle.std.specs.Prelude.{ℕ, ◌+◌, ◌-◌, ◌^◌, min, nat_le, Bool, true, List, length, filter, Option, Some, None, Result, Ok, Err}
use Rattle.sql_profile.specs.declared.server.ServerFault.{ServerFault}
use Rattle.sql_profile.specs.declared.server.ServerFault.TheVariants.{Memory, Failed}

-- the count of calls after one more, which ends at the greatest value of 64 bits
abbrev pub next_count : ℕ → ℕ
next_count calls = min (calls + 1) (2 ^ 64 - 1)

-- how many of the numbers are at most this
abbrev pub listed_up_to : List ℕ → ℕ → ℕ
listed_up_to listed calls = length (filter (λ number. nat_le number calls) listed)

-- whether a fault is a failure; want of memory may come at any call
abbrev pub is_failure : ServerFault → Option Bool
is_failure Memory = None
is_failure Failed = Some true

-- the count of calls after one that answers this; one that finds too little memory is not counted
abbrev pub calls_after : {T : Type 0} → ℕ → Result T ServerFault → ℕ
calls_after calls (Ok answer) = next_count calls
calls_after calls (Err Memory) = calls
calls_after calls (Err Failed) = next_count calls
