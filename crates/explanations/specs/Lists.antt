-- Lists of words: which words are among others, and how they are written one after the other.
use Rattle.std.specs.Prelude.{ℕ, ◌==◌, Bool, true, false, ◌&&◌, ◌||◌, List}
use Rattle.std.specs.Prelude.{if◌then◌else◌, [], ◌∷◌, ◌++◌, length, map, codes}
use Rattle.std.specs.Borrow.{Bor}
use Rattle.std.specs.Str.{bytes_eq}

-- words as the program has them
abbrev pub words_view : List (Bor (List ℕ)) → List (List ℕ)
words_view words = map (λ word. word.now) words

-- the word is one of these
abbrev pub among : List (List ℕ) → List ℕ → Bool
among [] word = false
among (w ∷ ws) word = bytes_eq w word || among ws word

-- all parts are
abbrev pub all_among : List (List ℕ) → List (List ℕ) → Bool
all_among words [] = true
all_among words (part ∷ parts) = among words part && all_among words parts

-- what stands before a word that so many follow
abbrev pub separator : List ℕ → ℕ → List ℕ
separator last behind = if behind == 0 then last else codes ", "

abbrev pub listed_behind : List ℕ → List (List ℕ) → List ℕ
listed_behind last [] = []
listed_behind last (word ∷ words) =
    separator last (length words) ++ (word ++ listed_behind last words)

-- `a, b or c`, where ` or ` is what stands before the last
abbrev pub listed : List ℕ → List (List ℕ) → List ℕ
listed last [] = codes "none"
listed last (word ∷ words) = word ++ listed_behind last words
