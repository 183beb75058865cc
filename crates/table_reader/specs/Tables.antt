-- Which rows a table text gives, or its first fault in reading order.
use Rattle.std.specs.Prelude.{ℕ, ◌+◌, Bool, List, [], ◌∷◌, ◌++◌, length, Option, Some, None, Result, Ok, Err, if◌then◌else◌}
use Rattle.std.specs.Result.{result_ok}
use Rattle.std.specs.Str.{bytes_eq}
use Rattle.std.specs.Cmp.Lexicographic.{pointwise}
use Rattle.nq_model.specs.Tables.{names_of, types_of}
use Rattle.nq_model.specs.declared.table.Cell.{Cell}
use Rattle.nq_model.specs.declared.table.TableShape.{TableShape}
use Rattle.table_reader.specs.declared.TableFault.{TableFault}
use Rattle.table_reader.specs.declared.TableFault.TheVariants as fault
use Rattle.table_reader.specs.Records.{Record, records_of}
use Rattle.table_reader.specs.Spelling.{and_then, row_at}
use Rattle.row_keys.specs.Keys.{twin_of}

-- a row whose key no earlier row has
abbrev pub unless_twin : ℕ → List Cell → Option ℕ → Result (List Cell) TableFault
unless_twin number row None = Ok row
unless_twin number row (Some earlier) = Err (fault.TwiceKey number earlier)

-- the row that a record spells after earlier rows, or its first fault: its width, its cells, then its key
unfoldable pub next_row : TableShape → List (List Cell) → Record → Result (List Cell) TableFault
next_row shape earlier fields =
    and_then (row_at (length earlier + 1) (types_of shape.columns) fields) (λ row. unless_twin (length earlier + 1) row (twin_of shape row earlier))

-- earlier rows and those that records spell after them, or the first fault
abbrev pub rows_after : TableShape → List (List Cell) → List Record → Result (List (List Cell)) TableFault
rows_after shape earlier [] = Ok earlier
rows_after shape earlier (fields ∷ more) = and_then (next_row shape earlier fields) (λ row. rows_after shape (earlier ++ row ∷ []) more)

-- whether a record is the names of the columns
abbrev pub is_header : TableShape → Record → Bool
is_header shape fields = pointwise bytes_eq fields (names_of shape.columns)

-- the rows under a header, or the first fault
abbrev pub rows_under : TableShape → List Record → Result (List (List Cell)) TableFault
rows_under shape [] = Err fault.Header
rows_under shape (header ∷ body) = if is_header shape header then rows_after shape [] body else Err fault.Header

-- the rows that a text gives a table, or its first fault in reading order
unfoldable pub table_of : TableShape → List ℕ → Result (List (List Cell)) TableFault
table_of shape text = rows_under shape (records_of text)

-- the rows that a text gives a table, if it is without fault
unfoldable pub rows_of : TableShape → List ℕ → Option (List (List Cell))
rows_of shape text = result_ok (table_of shape text)
