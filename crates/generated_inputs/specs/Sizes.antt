-- The sizes for which inputs are made, and the words that name them.
use Rattle.std.specs.Prelude.{◌≤◌, ℕ, Bool, false, not, ◌&&◌, nat_eq, nat_le, List, [], ◌∷◌, length, Option, Some, None, cond}
use Rattle.std.specs.List.{prefix_len}
use Rattle.nq_model.specs.QueryTokens.{is_digit, value_from}

-- sizes for which inputs are made
pub record IsSize (size : ℕ) : Type 0 where
  pub from : 1 ≤ size
  pub to : size ≤ 5000

-- the word is digits alone, of which the first is not 0, and they spell a number from 1 to 5000
abbrev pub names_size : List ℕ → Bool
names_size [] = false
names_size (b ∷ bs) =
    not (nat_eq b 48) && (nat_eq (prefix_len is_digit (b ∷ bs)) (length (b ∷ bs)) && (nat_le 1 (value_from 0 (b ∷ bs)) && nat_le (value_from 0 (b ∷ bs)) 5000))

-- the size that a word names
unfoldable pub size_of : List ℕ → Option ℕ
size_of word = cond (names_size word) (Some (value_from 0 word)) None
