-- Where cells begin in the bytes of a text.
--
-- A walk goes over the bytes. It knows the number of the record, 0 first, so that the header is 0
-- and a row has its own number; the number of the column, 1 first; and what the next byte is to
-- the cell.
use Rattle.std.specs.Prelude.{ℕ, suc, ◌+◌, ◌-◌, ◌==◌, Bool, true, false, not}
use Rattle.std.specs.Prelude.{◌&&◌, ◌||◌}
use Rattle.std.specs.Prelude.{if◌then◌else◌, List, [], ◌∷◌, length}
use Rattle.csv.specs.Reading.{strip_bom}
use Rattle.table_explanations.specs.declared.places.Mode.{Mode}
use Rattle.table_explanations.specs.declared.places.Mode.TheVariants.{StartRow, StartCell, Plain}
use Rattle.table_explanations.specs.declared.places.Mode.TheVariants.{Quoted, BehindQuote}
use Rattle.table_explanations.specs.declared.places.Walk.{Walk}

-- a line feed and a carriage return end a row, and are skipped where none has begun
abbrev pub ends_row : ℕ → Bool
ends_row byte = byte == 10 || byte == 13

-- the first cell of the header
abbrev pub start : Walk
start = record { row = 0; column = 1; mode = StartRow }

-- the same cell goes on
abbrev pub goes_on : Walk → Mode → Walk
goes_on walk mode = record { row = walk.row; column = walk.column; mode = mode }

abbrev pub next_cell : Walk → Walk
next_cell walk = record { row = walk.row; column = walk.column + 1; mode = StartCell }

abbrev pub next_row : Walk → Walk
next_row walk = record { row = walk.row + 1; column = 1; mode = StartRow }

-- outside quotes a comma ends the cell, and the end of a line the row
abbrev pub plain_step : Walk → ℕ → Walk
plain_step walk byte =
    if byte == 44 then next_cell walk else
    if ends_row byte then next_row walk else goes_on walk Plain

-- at the beginning of a cell a quote opens quotes
abbrev pub cell_step : Walk → ℕ → Walk
cell_step walk byte = if byte == 34 then goes_on walk Quoted else plain_step walk byte

-- In quotes a quote closes them, and all else is of the cell. Behind that a further quote stands
-- for one in the cell, which is in quotes still.
abbrev pub step_in : Mode → Walk → ℕ → Walk
step_in StartRow walk byte = if ends_row byte then walk else cell_step walk byte
step_in StartCell walk byte = cell_step walk byte
step_in Plain walk byte = plain_step walk byte
step_in Quoted walk byte = if byte == 34 then goes_on walk BehindQuote else walk
step_in BehindQuote walk byte = if byte == 34 then goes_on walk Quoted else plain_step walk byte

-- the walk behind one more byte
abbrev pub step : Walk → ℕ → Walk
step walk byte = step_in walk.mode walk byte

-- a cell begins at the byte
abbrev pub begins : Mode → ℕ → Bool
begins StartRow byte = not (ends_row byte)
begins StartCell byte = true
begins Plain byte = false
begins Quoted byte = false
begins BehindQuote byte = false

-- this cell does
abbrev pub is_at : ℕ → ℕ → Walk → ℕ → Bool
is_at row column walk byte =
    begins walk.mode byte && (walk.row == row && walk.column == column)

-- how many bytes there are before this cell, or at all if it does not begin
abbrev pub place_from : ℕ → ℕ → Walk → List ℕ → ℕ
place_from row column walk [] = 0
place_from row column walk (byte ∷ bytes) =
    if is_at row column walk byte then 0
    else suc (place_from row column (step walk byte) bytes)

-- the byte order mark
abbrev pub mark : List ℕ
mark = 0xEF ∷ 0xBB ∷ 0xBF ∷ []

-- the place of the cell at a row and a column in a text, which may begin with a byte order mark
unfoldable pub cell_place : ℕ → ℕ → List ℕ → ℕ
cell_place row column text =
    (length text - length (strip_bom text)) + place_from row column start (strip_bom text)
