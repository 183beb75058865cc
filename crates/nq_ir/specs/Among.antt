-- Elements of a list.
use Rattle.std.specs.Prelude.{List, ◌∷◌}

-- x is one of the elements
pub data Among {A : Type 0} (x : A) : List A → Type 0 where
  first : {xs : List A} → Among x (x ∷ xs)
  later : {y : A} {xs : List A} → Among x xs → Among x (y ∷ xs)
