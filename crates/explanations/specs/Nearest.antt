-- Words that few letters part: the name that a misspelt one most likely stands for. A letter is
-- left out, put in or changed (Levenshtein 1966).
use Rattle.std.specs.Prelude.{ℕ, ◌==◌, Bool, ◌||◌, if◌then◌else◌, List, []}
use Rattle.std.specs.Prelude.{◌∷◌, length, nat_le, Option, Some, None}
use Rattle.std.specs.Option.{option_or}
use Rattle.std.specs.Str.{bytes_eq}

-- at most one letter parts the words
abbrev pub one_apart : List ℕ → List ℕ → Bool
one_apart [] w = nat_le (length w) 1
one_apart (b ∷ v) [] = nat_le (length v) 0
one_apart (b ∷ v) (c ∷ w) =
    if b == c then one_apart v w
    else bytes_eq v (c ∷ w) || (bytes_eq (b ∷ v) w || bytes_eq v w)

-- at most two letters do
abbrev pub two_apart : List ℕ → List ℕ → Bool
two_apart [] w = nat_le (length w) 2
two_apart (b ∷ v) [] = nat_le (length v) 1
two_apart (b ∷ v) (c ∷ w) =
    if b == c then two_apart v w
    else one_apart v (c ∷ w) || (one_apart (b ∷ v) w || one_apart v w)

-- the first of the names that at most one letter parts from the word, and that two letters do
abbrev pub first_one_apart : List (List ℕ) → List ℕ → Option (List ℕ)
first_one_apart [] word = None
first_one_apart (name ∷ names) word =
    if one_apart word name then Some name else first_one_apart names word

abbrev pub first_two_apart : List (List ℕ) → List ℕ → Option (List ℕ)
first_two_apart [] word = None
first_two_apart (name ∷ names) word =
    if two_apart word name then Some name else first_two_apart names word

-- the nearest of the names, if at most two letters part it from the word
abbrev pub nearest : List (List ℕ) → List ℕ → Option (List ℕ)
nearest names word = option_or (first_one_apart names word) (first_two_apart names word)
