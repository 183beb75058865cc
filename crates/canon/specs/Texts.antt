-- What may follow the text of a value.
use Rattle.std.specs.Prelude.{◌≢◌, ℕ, ⊤, List, [], ◌∷◌}
use Rattle.std.specs.Int.{IsInRange}

-- what begins with neither a digit nor a quote, and so prolongs no text of a value
abbrev pub Ends : List ℕ → Type 0
Ends [] = ⊤
Ends (b ∷ bs) = ¬ IsInRange 48 57 b × (b ≢ 39)
