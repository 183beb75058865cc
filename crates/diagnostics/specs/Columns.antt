-- The columns of a line: each is a character, or a byte that is part of none.
use Rattle.std.specs.Prelude.{ℕ, zero, suc, ◌-◌, ◌==◌, nat_le, nat_lt, Bool, ◌||◌, if◌then◌else◌, List, [], ◌∷◌, length, take, codes, slice_index}
use Rattle.std.specs.List.{flat_map}
use Rattle.std.specs.Str.{is_utf8}
use Rattle.diagnostics.specs.Lines.{before_place, line_of}

-- the first bytes are UTF-8
abbrev pub is_text : ℕ → List ℕ → Bool
is_text count bytes = is_utf8 (take count bytes)

-- How many bytes the column at the front has. A character has the fewest bytes that are UTF-8;
-- where none begins, one byte is a column.
abbrev pub column_len : List ℕ → ℕ
column_len bytes =
    if is_text 1 bytes then 1 else
    if is_text 2 bytes then 2 else
    if is_text 3 bytes then 3 else
    if is_text 4 bytes then 4 else 1

-- the columns behind so many bytes
abbrev pub columns_behind : ℕ → List ℕ → List (List ℕ)
columns_behind count [] = []
columns_behind zero (byte ∷ bytes) =
    take (column_len (byte ∷ bytes)) (byte ∷ bytes)
    ∷ columns_behind (column_len (byte ∷ bytes) - 1) bytes
columns_behind (suc count) (byte ∷ bytes) = columns_behind count bytes

unfoldable pub columns : List ℕ → List (List ℕ)
columns line = columns_behind 0 line

-- how many of the columns end before so many bytes, or with them
abbrev pub whole_within : ℕ → List (List ℕ) → ℕ
whole_within count [] = 0
whole_within count (column ∷ rest) =
    if nat_le (length column) count then suc (whole_within (count - length column) rest) else 0

-- how many columns of its line are before the place; in the midst of a character it is that of the
-- character
abbrev pub columns_before : List ℕ → ℕ → ℕ
columns_before text place = whole_within (before_place text place) (columns (line_of text place))

-- the number of the column, from 1
abbrev pub column_number : List ℕ → ℕ → ℕ
column_number text place = suc (columns_before text place)

-- a byte that a terminal might obey
abbrev pub is_control : ℕ → Bool
is_control byte = nat_lt byte 32 || byte == 127

-- What is shown of a column, so that it takes one: a tab is a space. What is no UTF-8, and a byte
-- that a terminal might obey, is `?`.
abbrev pub shown_byte : ℕ → List ℕ
shown_byte byte = if byte == 9 then codes " " else if is_control byte then codes "?" else byte ∷ []

abbrev pub shown : List ℕ → List ℕ
shown column =
    if is_utf8 column
    then (if length column == 1 then shown_byte (slice_index column 0) else column)
    else codes "?"

-- these columns as they are shown
abbrev pub shown_line : List (List ℕ) → List ℕ
shown_line columns = flat_map shown columns
