-- Which cell a field spells in a column, and which row a record spells.
use Rattle.std.specs.Prelude.{ℕ, ℤ, pos, neg_ℤ, ◌+◌, ◌^◌, ◌==◌, ◌&&◌, ◌||◌, nat_lt, Bool, true, false, List, [], ◌∷◌, length, zip, Option, Some, None, Result, Ok, Err, option_map, if◌then◌else◌, codes}
use Rattle.std.specs.Option.{ok_or}
use Rattle.std.specs.Str.{all_ascii_digits, bytes_eq, is_utf8}
use Rattle.std.specs.Str.Parse.{digits_value}
use Rattle.nq_model.specs.declared.table.Cell.{Cell}
use Rattle.nq_model.specs.declared.table.Cell.TheVariants as cell
use Rattle.nq_model.specs.declared.table.ColumnType.{ColumnType}
use Rattle.nq_model.specs.declared.table.ColumnType.TheVariants as column
use Rattle.table_reader.specs.declared.TableFault.{TableFault}
use Rattle.table_reader.specs.declared.TableFault.TheVariants as fault
use Rattle.table_reader.specs.Records.{Record}

-- one or more digits, of a value below a limit
abbrev pub is_numeral : List ℕ → ℕ → Bool
is_numeral digits limit = all_ascii_digits digits && (nat_lt 0 (length digits) && nat_lt (digits_value 10 digits) limit)

-- the number that digits after a minus sign spell
abbrev pub minus_of : List ℕ → Option ℤ
minus_of digits = if is_numeral digits (2 ^ 63 + 1) then Some (neg_ℤ (pos (digits_value 10 digits))) else None

-- the number that digits alone spell
abbrev pub plain_of : List ℕ → Option ℤ
plain_of digits = if is_numeral digits (2 ^ 63) then Some (pos (digits_value 10 digits)) else None

-- the number that an optional minus sign and digits spell, within 64 bits
unfoldable pub int_of : List ℕ → Option ℤ
int_of [] = None
int_of (c ∷ digits) = if c == 45 then minus_of digits else plain_of (c ∷ digits)

-- the truth value that one of four words spells
unfoldable pub bool_of : List ℕ → Option Bool
bool_of field =
    if bytes_eq field (codes "true") || bytes_eq field (codes "t") then Some true
    else if bytes_eq field (codes "false") || bytes_eq field (codes "f") then Some false
    else None

-- the cell that a field of UTF-8 spells in a column of a type
abbrev pub cell_of : ColumnType → List ℕ → Option Cell
cell_of column.Int field = option_map cell.Int (int_of field)
cell_of column.Bool field = option_map cell.Bool (bool_of field)
cell_of column.Text field = Some (cell.Text field)

-- what is wrong with a field of UTF-8 that spells none, as no field of a text column does
abbrev pub fault_of : ColumnType → ℕ → ℕ → TableFault
fault_of column.Int row at = fault.BadInt row at
fault_of column.Bool row at = fault.BadBool row at
fault_of column.Text row at = fault.NotUtf8 row at

-- the cell that the field at a row and a column spells, or its fault
unfoldable pub cell_at : ℕ → ℕ → ColumnType → List ℕ → Result Cell TableFault
cell_at row at type field = if is_utf8 field then ok_or (cell_of type field) (fault_of type row at) else Err (fault.NotUtf8 row at)

-- what comes of a value, or else the fault
abbrev pub and_then : {A B : Type 0} → Result A TableFault → (A → Result B TableFault) → Result B TableFault
and_then (Ok x) next = next x
and_then (Err e) next = Err e

-- the cells that fields spell from a column on, each beside the type of its column, or the first fault from the left
abbrev pub cells_from : ℕ → ℕ → List (ColumnType × List ℕ) → Result (List Cell) TableFault
cells_from row at [] = Ok []
cells_from row at (p ∷ more) = and_then (cell_at row at p.0 p.1) (λ c. and_then (cells_from row (at + 1) more) (λ cells. Ok (c ∷ cells)))

-- the row that a record spells under columns of these types, or its first fault: its width, then its cells
unfoldable pub row_at : ℕ → List ColumnType → Record → Result (List Cell) TableFault
row_at row types fields = if length fields == length types then cells_from row 1 (zip types fields) else Err (fault.Width row)
