-- What an answer of the checker says of the program.
use Rattle.std.specs.Prelude.{◌≡◌, ℕ, ⊤, Err}
use Rattle.nq_model.specs.Terms.{PlacedTerm}
use Rattle.nq_model.specs.Judging.{program_judged, broken}
use Rattle.nq_model.specs.declared.table.Schema.{Schema}
use Rattle.nq_types.specs.declared.fault.CheckFault.{CheckFault}
use Rattle.nq_types.specs.declared.fault.CheckFault.TheVariants.{Memory, Ill}

-- a fault that is told is the first broken rule of the program, at its place
abbrev pub HasCause : Schema → PlacedTerm → CheckFault → Type 0
HasCause schema p Memory = ⊤
HasCause schema p (Ill rule place) = program_judged schema p ≡ Err (broken rule place)

-- the fault is this rule at this place, or want of memory
abbrev pub IsIll : ℕ → ℕ → CheckFault → Type 0
IsIll rule place Memory = ⊤
IsIll rule place (Ill r p) = (r ≡ rule) × (p ≡ place)
