-- What the program that makes single steps of unfolding says of a step.
use Rattle.std.specs.Prelude.{◌≡◌, Bool, true, false, Option, Some, None}

-- whether there is a step, and what it leads to; where there is none, the same again
abbrev pub Tells : {A : Type 0} → Option A → Bool → A → A → Type 0
Tells made true t u = made ≡ Some u
Tells made false t u = (made ≡ None) × (u ≡ t)

-- the same, where something before may have moved already: then nothing more is done
abbrev pub Then : {A : Type 0} → Bool → Option A → A → Bool → A → Type 0
Then true made t moved u = (moved ≡ true) × (u ≡ t)
Then false made t moved u = Tells made moved t u
