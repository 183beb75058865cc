-- The lines of an explanation that tell more than its place.
use Rattle.std.specs.Prelude.{ℕ, ◌+◌, ◌-◌, ◌==◌, nat_le, Bool, true, not, ◌&&◌}
use Rattle.std.specs.Prelude.{if◌then◌else◌, List, [], ◌∷◌, ◌++◌, length, codes}
use Rattle.std.specs.Prelude.{slice_get}
use Rattle.std.specs.Option.{unwrap_or}
use Rattle.std.specs.Str.{is_utf8}
use Rattle.diagnostics.specs.Columns.{is_control}

-- `WORD: SAID`
unfoldable pub line : List ℕ → List ℕ → List ℕ
line word said = word ++ (codes ": " ++ (said ++ codes "\n"))

-- the item of a number, from 1, or the empty one
abbrev pub item : ℕ → List (List ℕ) → List ℕ
item number items =
    if number == 0 then [] else unwrap_or (slice_get items (number - 1)) []

-- names with commas between them, behind so many others
abbrev pub comma : ℕ → List ℕ
comma before = if before == 0 then [] else codes ","

abbrev pub joined_behind : ℕ → List (List ℕ) → List ℕ
joined_behind before [] = []
joined_behind before (name ∷ names) =
    comma before ++ (name ++ joined_behind (before + 1) names)

abbrev pub joined : List (List ℕ) → List ℕ
joined names = joined_behind 0 names

-- no byte is one that a terminal might obey
abbrev pub no_control : List ℕ → Bool
no_control [] = true
no_control (byte ∷ bytes) = not (is_control byte) && no_control bytes

-- A cell is shown if it is short, and a text that no terminal obeys. The excerpt shows each.
abbrev pub is_shown : List ℕ → Bool
is_shown cell = nat_le (length cell) 60 && (no_control cell && is_utf8 cell)

abbrev pub cell_line : List ℕ → List ℕ → List ℕ
cell_line word cell = if is_shown cell then line word cell else []
