-- Calls of which those with listed numbers fail.
use Rattle.std.specs.Prelude.{◌≡◌, ℕ, ◌+◌, ◌-◌, ◌^◌, nat_lt, Bool, false, ◌==◌, if◌then◌else◌, List, Option, Some, None, Result, Ok, Err, IfSome}
use Rattle.std.specs.List.{list_any}

-- the number of the call after so many; after call 2^64 - 1 there is none
abbrev pub number_after : ℕ → Option ℕ
number_after calls = if nat_lt calls (2 ^ 64 - 1) then Some (calls + 1) else None

-- the call has a number, which is listed
abbrev pub is_listed : List ℕ → Option ℕ → Bool
is_listed listed None = false
is_listed listed (Some call) = list_any (λ number. number == call) listed

-- a call failed exactly where the test says so, unless it found no memory; of each fault it is told whether it is
-- such a failure, and of want of memory nothing
abbrev pub FailsWhere : {T F : Type 0} → (F → Option Bool) → Bool → Result T F → Type 0
FailsWhere is_failure test (Ok _) = test ≡ false
FailsWhere is_failure test (Err fault) = IfSome (is_failure fault) (λ failed. test ≡ failed)
