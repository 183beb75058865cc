-- Codes of keys: numbers of 32 bits that the cells of a key determine.
use Rattle.std.specs.Prelude.{◌+◌, ◌*◌, ◌/◌, ◌%◌, ◌^◌, ℕ, ℤ, List, fold, if◌then◌else◌}
use Rattle.std.specs.Int.{w64, cast_unsigned}
use Rattle.nq_model.specs.declared.table.Cell.{Cell}
use Rattle.nq_model.specs.declared.table.Cell.TheVariants.{Int, Bool as Truth, Text}

-- a code that goes on with a number: the value of a polynomial, modulo 2 ^ 32
unfoldable pub code_with : ℕ → ℕ → ℕ
code_with code number = (code * 2654435769 + number) % 2 ^ 32

-- a code that goes on with an int: the upper half of its 64 bits, and the lower
abbrev pub int_code : ℕ → ℤ → ℕ
int_code code n = code_with (code_with code (cast_unsigned w64 n / 2 ^ 32)) (cast_unsigned w64 n % 2 ^ 32)

-- a code that goes on with a text: its bytes, and 255, which is in no text
abbrev pub text_code : ℕ → List ℕ → ℕ
text_code code text = code_with (fold code_with code text) 255

-- a code that goes on with a cell
abbrev pub cell_code : ℕ → Cell → ℕ
cell_code code (Int n) = int_code code n
cell_code code (Truth b) = code_with code (if b then 1 else 0)
cell_code code (Text t) = text_code code t

-- the code of the cells of a key
unfoldable pub key_code : List Cell → ℕ
key_code key = fold cell_code 0 key
