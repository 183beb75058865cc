-- What a list holds after an item was set.
use Rattle.std.proofs.Common.{◌≡◌, ◌≢◌, ◌<◌, ℕ, Some, List, length, slice_get, slice_set, arith}
use Rattle.std.proofs.lemmas.Grind.{common_steps}
use Rattle.std.proofs.lemmas.Option.{slice_get-get_or, slice_get_past}

module _ {X : Type 0} (xs : List X) (i j : ℕ) (x : X) where
  pub set_here : i ≡ j → i < length xs → slice_get (slice_set xs i x) j ≡ Some x
  set_here same within = grind (arith, common_steps, slice_get-get_or (slice_set xs i x) j x)

  pub set_elsewhere : i ≢ j → slice_get (slice_set xs i x) j ≡ slice_get xs j
  set_elsewhere apart = grind (arith, common_steps, slice_get-get_or xs j x, slice_get-get_or (slice_set xs i x) j x, slice_get_past xs j, slice_get_past (slice_set xs i x) j)

-- what a slot holds after one was filled
pub ruleset slot_rules = (common_steps, set_here, set_elsewhere)
