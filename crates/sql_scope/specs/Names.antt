-- Lists of values under names.
use Rattle.std.specs.Prelude.{ℕ, suc, cond, List, [], ◌∷◌, map, Option, Some, None}
use Rattle.std.specs.Borrow.{Bor}
use Rattle.std.specs.Option.{option_map}
use Rattle.std.specs.Str.{bytes_eq}

-- the names as they are read
abbrev pub named : {A : Type 0} → List (Bor (List ℕ) × A) → List (List ℕ × A)
named xs = map (λ x. (x.0.now, x.1)) xs

-- the place of the first under the name
abbrev pub place_of : {A : Type 0} → List ℕ → List (List ℕ × A) → Option ℕ
place_of name [] = None
place_of name (x ∷ xs) = cond (bytes_eq name x.0) (Some 0) (option_map (λ place. suc place) (place_of name xs))

-- one after the other before these
abbrev pub before : {A : Type 0} → List A → List A → List A
before [] ts = ts
before (w ∷ ws) ts = before ws (w ∷ ts)
