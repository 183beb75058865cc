-- What an answer says of the tree.
use Rattle.std.specs.Prelude.{◌≡◌, ℕ, ⊤}
use Rattle.sql_profile.specs.Scope.{Broken, Shapes, judge}
use Rattle.sql_profile.specs.Trees.{PlacedSql}
use Rattle.sql_scope.specs.declared.fault.ScopeFault.{ScopeFault}
use Rattle.sql_scope.specs.declared.fault.ScopeFault.TheVariants as fault

-- a fault that is told is the first broken rule of the tree, at its place
abbrev pub HasCause : Shapes → PlacedSql → ScopeFault → Type 0
HasCause ts tree fault.Memory = ⊤
HasCause ts tree (fault.Broken rule place) = judge ts tree ≡ Broken rule place

-- the fault is this rule at this place, or want of memory
abbrev pub IsBroken : ℕ → ℕ → ScopeFault → Type 0
IsBroken rule place fault.Memory = ⊤
IsBroken rule place (fault.Broken r p) = (r ≡ rule) × (p ≡ place)
