-- The elements of a bag, in the tree and in a list.
use Rattle.std.proofs.Common.{◌≡◌, List, [], ◌∷◌, refl, ap}
use Rattle.nq_model.specs.Values.{Nested, elements, elements_of}

pub elements_back : (vs : List Nested) → elements (elements_of vs) ≡ vs
elements_back [] = refl
elements_back (v ∷ vs) = ap (λ (l : List Nested). v ∷ l) (elements_back vs)
