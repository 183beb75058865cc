-- What stands for a variable while it is put into a term.
use Rattle.std.specs.Prelude.{◌≡◌, MatchOption}
use Rattle.nq_model.specs.Terms.{PlacedTerm, placed}
use Rattle.unfold.specs.declared.slot.Slot.{Slot}

-- the slot holds the term s, or has given it away
abbrev pub Holds : Slot → PlacedTerm → Type 0
Holds slot s = MatchOption slot.value (Unit {0}) (λ b. placed b.term ≡ s)

-- a call that leaves the slot holding what it held, and of which this is known
abbrev pub Puts : Slot → Slot → (PlacedTerm → Type 0) → Type 0
Puts old new known = (s : PlacedTerm) → Holds old s → known s × Holds new s
