-- What is written is UTF-8.
use Rattle.std.proofs.Common.{◌≡◌, ℕ, zero, suc, ◌-◌, ◌^◌, ◌<◌, ◌≤◌, min, nat_le, count_by, take, drop, Bool, true, false, List, [], ◌∷◌, codes, if◌then◌else◌, ◌==◌, length, slice_index, replicate, decimal, refl, sym, subst, arith}
use Rattle.std.specs.Str.{IsUtf8, is_utf8}
use Rattle.std.specs.Char.{encode_utf8}
use Rattle.std.proofs.lemmas.Bool.Decides.{nat_tests}
use Rattle.std.proofs.lemmas.Str.{IsUtf8-append, IsUtf8-nil, IsUtf8-from_ascii, IsUtf8-from_is_utf8}
use Rattle.std.proofs.lemmas.Fmt.{IsAscii-decimal}
use Rattle.std.proofs.lemmas.List.{length-drop, length-take}
use Rattle.std.proofs.lemmas.List.Sums.{count_by-le-length}
use Rattle.std.proofs.lemmas.List.Concat.{flat_map-cons}
use Rattle.diagnostics.specs.Lines.{before_place, ends_line, first_line, is_feed, line_number, line_of, meant}
use Rattle.diagnostics.specs.Columns.{column_len, columns, columns_behind, whole_within, columns_before, column_number, is_control, shown, shown_byte, shown_line}
use Rattle.diagnostics.specs.Excerpts.{caret_at, excerpt_text, head_text, pointed_text, window}

mark : IsUtf8 (63 ∷ [])
unfolding encode_utf8
mark = (63 ∷ [], (refl, refl))

space : IsUtf8 (32 ∷ [])
unfolding encode_utf8
space = (32 ∷ [], (refl, refl))

feed : IsUtf8 (10 ∷ [])
unfolding encode_utf8
feed = (10 ∷ [], (refl, refl))

caret : IsUtf8 (94 ∷ 10 ∷ [])
unfolding encode_utf8
caret = (94 ∷ 10 ∷ [], (refl, refl))

colon : IsUtf8 (58 ∷ [])
unfolding encode_utf8
colon = (58 ∷ [], (refl, refl))

gap : IsUtf8 (58 ∷ 32 ∷ [])
unfolding encode_utf8
gap = (58 ∷ 32 ∷ [], (refl, refl))

byte_utf8 : (byte : ℕ) → IsUtf8 (byte ∷ []) → IsUtf8 (shown_byte byte)
byte_utf8 byte u = by (byte == 9) (is_control byte)
  where
    by : (s t : Bool) → IsUtf8 (if s then codes " " else if t then codes "?" else byte ∷ [])
    by true t = space
    by false true = mark
    by false false = u

-- a column of one byte
single : (column : List ℕ) → (length column == 1) ≡ true → slice_index column 0 ∷ [] ≡ column
single [] e = absurd (cc)
single (byte ∷ []) e = refl
single (byte ∷ next ∷ rest) e = let h : suc (suc (length rest)) ≡ 1 = grind (arith, nat_tests) in absurd (omega (arith, h))

column_utf8 : (column : List ℕ) → IsUtf8 (shown column)
column_utf8 column = by (is_utf8 column) (length column == 1) refl refl
  where
    by : (s t : Bool) → is_utf8 column ≡ s → (length column == 1) ≡ t
        → IsUtf8 (if s then (if t then shown_byte (slice_index column 0) else column) else
        codes "?")
    by false t e f = mark
    by true false e f = IsUtf8-from_is_utf8 column e
    by true true e f = byte_utf8 (slice_index column 0) (subst IsUtf8 (sym (single column f))
        (IsUtf8-from_is_utf8 column e))

line_utf8 : (columns : List (List ℕ)) → IsUtf8 (shown_line columns)
line_utf8 [] = IsUtf8-nil
line_utf8 (column ∷ rest) = subst IsUtf8 (sym (flat_map-cons shown column rest))
    (IsUtf8-append (shown column) (shown_line rest) (column_utf8 column) (line_utf8 rest))

spaces : (count : ℕ) → IsUtf8 (replicate count 32)
spaces zero = IsUtf8-nil
spaces (suc count) = IsUtf8-append (32 ∷ []) (replicate count 32) space (spaces count)

number : (n : ℕ) → n < 2 ^ 64 → IsUtf8 (decimal n)
number n h = IsUtf8-from_ascii (decimal n) (IsAscii-decimal n h)

-- numbers of lines and columns are no greater than texts are long
whole_at_most : (count : ℕ) (columns : List (List ℕ)) → whole_within count columns ≤ length columns
whole_at_most count [] = omega arith
whole_at_most count (column ∷ rest) = by (nat_le (length column) count)
    (whole_at_most (count - length column) rest)
  where
    by : (t : Bool) → whole_within (count - length column) rest ≤ length rest
        → (if t then suc (whole_within (count - length column) rest) else 0) ≤ suc (length rest)
    by true h = omega (arith, h)
    by false h = omega arith

behind_at_most : (count : ℕ) (bytes : List ℕ) → length (columns_behind count bytes) ≤ length bytes
behind_at_most zero [] = omega arith
behind_at_most (suc count) [] = omega arith
behind_at_most zero (byte ∷ bytes) = let h = behind_at_most (column_len (byte ∷ bytes) - 1) bytes in omega (arith, h)
behind_at_most (suc count) (byte ∷ bytes) = let h = behind_at_most count bytes in omega (arith, h)

columns_at_most : (line : List ℕ) → length (columns line) ≤ length line
unfolding columns
columns_at_most line = behind_at_most 0 line

line_at_most : (bytes : List ℕ) → length (first_line bytes) ≤ length bytes
line_at_most [] = omega arith
line_at_most (byte ∷ bytes) = by (ends_line (byte ∷ bytes)) (line_at_most bytes)
  where
    by : (t : Bool) → length (first_line bytes) ≤ length bytes
        → length (if t then [] else byte ∷ first_line bytes) ≤ suc (length bytes)
    by true h = omega arith
    by false h = omega (arith, h)

line_small : (text : List ℕ) (place : ℕ) → length text < 2 ^ 63 → line_number text place < 2 ^ 64
line_small text place h =
    let front = take (meant text place) text in
    let few : count_by is_feed front ≤ length front = count_by-le-length is_feed front in
    let short : length front ≡ min (meant text place) (length text)
    = length-take (meant text place) text in
    omega (arith, few, short, h)

column_small : (text : List ℕ) (place : ℕ) → length text < 2 ^ 63
    → column_number text place < 2 ^ 64
column_small text place h =
    let rest = drop (meant text place - before_place text place) text in
    let line = first_line rest in
    let few : whole_within (before_place text place) (columns line) ≤ length (columns line)
    = whole_at_most (before_place text place) (columns line) in
    let bytes : length (columns line) ≤ length line = columns_at_most line in
    let within : length line ≤ length rest = line_at_most rest in
    let short : length rest ≡ length text - (meant text place - before_place text place)
    = length-drop (meant text place - before_place text place) text in
    omega (arith, few, bytes, within, short, h)

pointed : (before : ℕ) (columns : List (List ℕ)) → IsUtf8 (pointed_text before columns)
unfolding pointed_text
pointed before columns =
    let under = replicate (caret_at before (length columns)) 32 in
    IsUtf8-append (shown_line (window before columns)) _ (line_utf8 (window before columns))
    (IsUtf8-append (10 ∷ []) _ feed (IsUtf8-append under (94 ∷ 10 ∷ [])
    (spaces (caret_at before (length columns))) caret))

head : (file : List ℕ) (line column : ℕ) (sentence : List ℕ) → line < 2 ^ 64 → column < 2 ^ 64
    → IsUtf8 file → IsUtf8 sentence → IsUtf8 (head_text file line column sentence)
unfolding head_text
head file line column sentence l c f s =
    IsUtf8-append file _ f (IsUtf8-append (58 ∷ decimal line) _
    (IsUtf8-append (58 ∷ []) (decimal line) colon (number line l))
    (IsUtf8-append (58 ∷ decimal column) _ (IsUtf8-append (58 ∷ []) (decimal column) colon
    (number column c))
    (IsUtf8-append (58 ∷ 32 ∷ []) _ gap (IsUtf8-append sentence (10 ∷ []) s feed))))

pub excerpt_utf8 : (file text sentence : List ℕ) (place : ℕ) → length text < 2 ^ 63 → IsUtf8 file
    → IsUtf8 sentence → IsUtf8 (excerpt_text file text place sentence)
unfolding excerpt_text
excerpt_utf8 file text sentence place h f s =
    IsUtf8-append (head_text file (line_number text place) (column_number text place) sentence)
    (pointed_text (columns_before text place) (columns (line_of text place)))
    (head file (line_number text place) (column_number text place) sentence
    (line_small text place h) (column_small text place h) f s)
    (pointed (columns_before text place) (columns (line_of text place)))
