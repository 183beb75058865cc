-- A test with what it answered, and lists of numbers that rise.
use Rattle.std.proofs.Common.{◌≡◌, Bool, true, false, refl, Option, Some, None}

pub data Truth (b : Bool) : Type 0 where
  yes' : b ≡ true → Truth b
  no' : b ≡ false → Truth b

pub truth : (b : Bool) → Truth b
truth true = yes' refl
truth false = no' refl

pub data Found {A : Type 0} (o : Option A) : Type 0 where
  nothing' : o ≡ None → Found o
  something' : (x : A) → o ≡ Some x → Found o

pub found : {A : Type 0} (o : Option A) → Found o
found None = nothing' refl
found (Some x) = something' x refl
