-- Lists of lists whose elements stand in one list.
use Rattle.std.specs.Prelude.{◌≡◌, ◌≤◌, ℕ, List, [], ◌∷◌, slice_index_or, slice_range}

-- the pieces of a list that end at these places, the first of which begins at a place
abbrev pub pieces : {A : Type 0} → ℕ → List ℕ → List A → List (List A)
pieces from [] xs = []
pieces from (end ∷ ends) xs = slice_range xs from end ∷ pieces end ends xs

-- the places where pieces end rise from a place to the end of the list
abbrev pub AreEnds : ℕ → List ℕ → ℕ → Type 0
AreEnds from [] size = from ≡ size
AreEnds from (end ∷ ends) size = (from ≤ end) × AreEnds end ends size

-- where the piece of this number begins
abbrev pub start_of : List ℕ → ℕ → ℕ
start_of ends at = slice_index_or (0 ∷ ends) at 0
