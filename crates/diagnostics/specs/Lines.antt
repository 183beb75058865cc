-- The line in which a place of a text is.
--
-- A line ends at a line feed. The line feed is no part of it, nor is a carriage return before that.
use Rattle.std.specs.Prelude.{ℕ, suc, ◌-◌, ◌==◌, Bool, not, ◌||◌, min, count_by, if◌then◌else◌, List, [], ◌∷◌, length, take, drop, codes, slice_index}
use Rattle.std.specs.List.{suffix_len}
use Rattle.nq_model.specs.QueryTokens.{begins_with}

abbrev pub is_feed : ℕ → Bool
is_feed byte = byte == 10

abbrev pub is_no_feed : ℕ → Bool
is_no_feed byte = not (byte == 10)

-- The number of bytes up to the end of the last line. A line feed at the end of the text ends the
-- last line, and begins none.
abbrev pub last_end : List ℕ → ℕ
last_end text =
    if is_feed (slice_index text (length text - 1)) then length text - 1 else length text

-- the place that is meant: one at or behind the end of the text is the end of the last line
abbrev pub meant : List ℕ → ℕ → ℕ
meant text place = min place (last_end text)

-- the number of the line, from 1
abbrev pub line_number : List ℕ → ℕ → ℕ
line_number text place = suc (count_by is_feed (take (meant text place) text))

-- how many bytes are between the beginning of the line and the place
abbrev pub before_place : List ℕ → ℕ → ℕ
before_place text place = suffix_len is_no_feed (take (meant text place) text)

-- what ends a line stands at the front
abbrev pub ends_line : List ℕ → Bool
ends_line bytes = begins_with (codes "\n") bytes || begins_with (codes "\r\n") bytes

-- the line at the front of a text
abbrev pub first_line : List ℕ → List ℕ
first_line [] = []
first_line (byte ∷ bytes) = if ends_line (byte ∷ bytes) then [] else byte ∷ first_line bytes

-- the line in which a place is
abbrev pub line_of : List ℕ → ℕ → List ℕ
line_of text place = first_line (drop (meant text place - before_place text place) text)
