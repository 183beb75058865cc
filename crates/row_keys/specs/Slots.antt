-- Codes in slots, and in an ordered map beside them.
use Rattle.std.specs.Prelude.{◌≡◌, ◌==◌, ◌%◌, ◌-◌, ℕ, Bool, true, false, max, List, length, Option, Some, None, slice_get, if◌then◌else◌}
use Rattle.std.specs.BTreeMap.{get, BTreeMap}
use Rattle.std.specs.Ordering.{nat_cmp}
use Rattle.row_keys.specs.declared.code_map.Slot.{Slot}

-- the slot in which a code belongs, of so many
abbrev pub slot_of : ℕ → ℕ → ℕ
slot_of count code = code % max count 1

-- the slot of a code
abbrev pub slot_under : List Slot → ℕ → Option Slot
slot_under slots code = slice_get slots (slot_of (length slots) code)

-- the place that a slot holds for a code; a slot that holds another code leaves it to what stands elsewhere
abbrev pub place_by : Option Slot → ℕ → Option ℕ → Option ℕ
place_by None code elsewhere = elsewhere
place_by (Some slot) code elsewhere = if slot.number == 0 then None else if slot.code == code then Some (slot.number - 1) else elsewhere

-- whether there is a slot, and it is empty
abbrev pub is_empty : Option Slot → Bool
is_empty None = false
is_empty (Some slot) = slot.number == 0

-- a code stands in the ordered map only where its slot is taken
abbrev pub IsSound : List Slot → BTreeMap ℕ ℕ → Type 0
IsSound slots crowded = (code : ℕ) → is_empty (slot_under slots code) ≡ true → get nat_cmp crowded code ≡ None
