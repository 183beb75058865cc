-- What a clause reads of the inputs in memory, and which of their calls fail.
use Rattle.std.specs.Prelude.{ℕ, Bool, true, false, ◌||◌, List, length, Option, Some, None, is_none}
use Rattle.failing_calls.specs.Calls.{is_listed, number_after}
use Rattle.nq_edge.specs.Edge.{Files, bytes_at}
use Rattle.nq_edge.specs.declared.inputs.FetchFault.{FetchFault}
use Rattle.nq_edge.specs.declared.inputs.FetchFault.TheVariants.{Memory, Failed, Long}
use Rattle.nq_edge.specs.declared.held_inputs.HeldInputs.{HeldInputs}

-- the names, each with its bytes
abbrev pub held_files : HeldInputs → Files
held_files inputs = inputs.files

-- the numbers of the calls that fail
abbrev pub held_failing : HeldInputs → List ℕ
held_failing inputs = inputs.failing

-- the names of the calls so far
abbrev pub held_fetched : HeldInputs → List (List ℕ)
held_fetched inputs = inputs.fetched

-- how many calls failed
abbrev pub held_faults : HeldInputs → ℕ
held_faults inputs = inputs.faults

-- the next call has a listed number, or asks for a name that is not held
abbrev pub fails_next : HeldInputs → List ℕ → Bool
fails_next inputs name = is_listed inputs.failing (number_after (length inputs.fetched)) || is_none (bytes_at inputs.files name)

-- whether a fault is a failure; want of memory may come at any call
abbrev pub is_failure : FetchFault → Option Bool
is_failure Memory = None
is_failure Failed = Some true
is_failure Long = Some false
