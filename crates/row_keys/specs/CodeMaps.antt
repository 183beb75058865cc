-- What a map from codes to places tells.
use Rattle.std.specs.Prelude.{ℕ, Option}
use Rattle.std.specs.BTreeMap.{get}
use Rattle.std.specs.Ordering.{nat_cmp}
use Rattle.row_keys.specs.declared.code_map.CodeMap.{CodeMap}
use Rattle.row_keys.specs.Slots.{slot_under, place_by}

-- the place under a code
abbrev pub place_under : CodeMap → ℕ → Option ℕ
place_under map code = place_by (slot_under map.slots.items code) code (get nat_cmp map.crowded code)
