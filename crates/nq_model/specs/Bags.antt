-- Multisets as lists in any order: the elements of two lists pair off, up to a relation.
use Rattle.std.specs.Prelude.{◌≡◌, List, [], ◌∷◌}

-- y, taken out of ys, leaves rest
pub data Pick {A : Type 0} (y : A) : List A → List A → Type 0 where
  here : {ys : List A} → Pick y (y ∷ ys) ys
  there : {z : A} {ys rest : List A} → Pick y ys rest → Pick y (z ∷ ys) (z ∷ rest)

-- the elements of xs and those of ys pair off by R, whatever their order
abbrev pub Matched : {A B : Type 0} → (A → B → Type 0) → List A → List B → Type 0
Matched R [] ys = ys ≡ []
Matched {A} {B} R (x ∷ xs) ys = (y : B) × (rest : List B) × Pick y ys rest × R x y × Matched R xs rest

-- the same elements, each as often, in any order
abbrev pub Reordered : {A : Type 0} → List A → List A → Type 0
Reordered xs ys = Matched (λ x y. x ≡ y) xs ys
