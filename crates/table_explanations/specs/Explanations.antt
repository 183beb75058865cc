-- The explanation of a fault of a table's text: what is said of its place, the line of the place
-- with a caret under it, and then lines that tell more.
use Rattle.std.specs.Prelude.{◌≡◌, ℕ, suc, nat_lt, Bool, false, if◌then◌else◌, List}
use Rattle.std.specs.Prelude.{[], ◌∷◌, ◌++◌, length, drop, codes, slice_get}
use Rattle.std.specs.Fmt.{decimal}
use Rattle.std.specs.Option.{unwrap_or}
use Rattle.std.specs.Str.{bytes_eq}
use Rattle.nq_model.specs.Tables.{names_of}
use Rattle.nq_model.specs.declared.table.TableShape.{TableShape}
use Rattle.table_reader.specs.Records.{Record, records_of}
use Rattle.table_reader.specs.declared.TableFault.{TableFault}
use Rattle.table_reader.specs.declared.TableFault.TheVariants as fault
use Rattle.diagnostics.specs.Excerpts.{excerpt_text}
use Rattle.diagnostics.specs.Lines.{line_number}
use Rattle.table_explanations.specs.Lines.{cell_line, item, joined, line}
use Rattle.table_explanations.specs.Places.{cell_place}
use Rattle.table_explanations.specs.Sentences.{sentence}
use Rattle.table_explanations.specs.declared.sentences.Wrong.{Wrong}
use Rattle.table_explanations.specs.declared.sentences.Wrong.TheVariants as wrong

-- the record of a text with a number, or the empty one
abbrev pub record_of : List ℕ → ℕ → Record
record_of text number = unwrap_or (slice_get (records_of text) number) []

-- 1. a cell

-- which row it is in, and which column
unfoldable pub cell_head : Wrong → List ℕ → List ℕ → TableShape → ℕ → ℕ
    → List ℕ
cell_head wrong file text shape row column =
    excerpt_text file text (cell_place row column text) (sentence wrong)
    ++ (line (codes "row") (decimal row)
    ++ line (codes "column") (item column (names_of shape.columns)))

-- and what it is
unfoldable pub cell_text : Wrong → List ℕ → List ℕ → TableShape → ℕ → ℕ
    → List ℕ
cell_text wrong file text shape row column =
    cell_head wrong file text shape row column
    ++ cell_line (codes "cell") (item column (record_of text row))

-- 2. a row

unfoldable pub row_head : Wrong → List ℕ → List ℕ → ℕ → List ℕ
row_head wrong file text row =
    excerpt_text file text (cell_place row 1 text) (sentence wrong)
    ++ line (codes "row") (decimal row)

-- what mostly makes too many cells
abbrev pub comma_line : ℕ → ℕ → List ℕ
comma_line columns cells =
    if nat_lt columns cells then codes "A cell with a comma in it stands in double quotes.\n"
    else []

unfoldable pub width_lines : ℕ → ℕ → List ℕ
width_lines columns cells =
    line (codes "columns") (decimal columns)
    ++ (line (codes "cells") (decimal cells) ++ comma_line columns cells)

-- how many cells it has
unfoldable pub width_text : List ℕ → List ℕ → TableShape → ℕ → List ℕ
width_text file text shape row =
    row_head wrong.Width file text row
    ++ width_lines (length shape.columns) (length (record_of text row))

-- the earlier row with the same key
unfoldable pub earlier_line : List ℕ → ℕ → List ℕ
earlier_line text earlier =
    codes "earlier: " ++ (decimal earlier ++ (codes ", in line "
    ++ (decimal (line_number text (cell_place earlier 1 text)) ++ codes "\n")))

unfoldable pub twice_text : List ℕ → List ℕ → TableShape → ℕ → ℕ → List ℕ
twice_text file text shape row earlier =
    row_head wrong.TwiceKey file text row
    ++ (earlier_line text earlier ++ line (codes "key") (joined shape.key))

-- 3. the header

-- the first of the cells is this name
abbrev pub begins_with_name : List ℕ → Record → Bool
begins_with_name name [] = false
begins_with_name name (cell ∷ cells) = bytes_eq name cell

-- The number of the first column, from 1, at which the cells are not the names; behind the last
-- name if they have them all.
abbrev pub first_other : List (List ℕ) → Record → ℕ
first_other [] cells = 1
first_other (name ∷ names) cells =
    if begins_with_name name cells then suc (first_other names (drop 1 cells)) else 1

-- the column of the place: the first where the record ends before that number
abbrev pub shown_column : ℕ → ℕ → ℕ
shown_column count column = if nat_lt count column then 1 else column

-- what stands in the column
abbrev pub found_line : Record → ℕ → List ℕ
found_line cells column =
    if nat_lt (length cells) column then line (codes "found") (codes "nothing")
    else cell_line (codes "found") (item column cells)

unfoldable pub header_lines : List (List ℕ) → Record → ℕ → List ℕ
header_lines names cells column =
    line (codes "expected") (joined names)
    ++ (line (codes "column") (decimal column) ++ found_line cells column)

-- where a record is not the names, from this column on
unfoldable pub other_text : List ℕ → List ℕ → List (List ℕ) → Record → ℕ
    → List ℕ
other_text file text names cells column =
    excerpt_text file text (cell_place 0 (shown_column (length cells) column) text)
    (sentence wrong.Header) ++ header_lines names cells column

unfoldable pub header_text : List ℕ → List ℕ → List (List ℕ) → Record → List ℕ
header_text file text names cells =
    other_text file text names cells (first_other names cells)

-- 4. what is explained

-- the explanation of a fault; want of memory has none
abbrev pub ExplainsTable : List ℕ → List ℕ → TableShape → TableFault → List ℕ
    → Type 0
ExplainsTable file text shape fault.Memory made = ⊥
ExplainsTable file text shape fault.Header made =
    made ≡ header_text file text (names_of shape.columns) (record_of text 0)
ExplainsTable file text shape (fault.Width row) made = made ≡ width_text file text shape row
ExplainsTable file text shape (fault.NotUtf8 row column) made =
    made ≡ cell_head wrong.NotUtf8 file text shape row column
ExplainsTable file text shape (fault.BadInt row column) made =
    made ≡ cell_text wrong.NoInt file text shape row column
ExplainsTable file text shape (fault.BadBool row column) made =
    made ≡ cell_text wrong.NoBool file text shape row column
ExplainsTable file text shape (fault.TwiceKey row earlier) made =
    made ≡ twice_text file text shape row earlier
