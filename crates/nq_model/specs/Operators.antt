-- What the operators of both languages give, and their types.
--
-- Integers have 64 bits: `+`, `-`, `*` and unary minus wrap. Comparisons go by the order of cells. A cell
-- of the wrong type counts as 0 or as false, which no typed term asks for.
use Rattle.std.specs.Prelude.{ℤ, pos, Bool, false, ◌&&◌, ◌||◌, not, Option, Some, None}
use Rattle.std.specs.Int.{w64, int_wrapping_add, int_wrapping_sub, int_wrapping_mul, int_wrapping_neg}
use Rattle.std.specs.Ordering.{is_lt}
use Rattle.nq_model.specs.Cells.{cell_eq, cell_cmp}
use Rattle.nq_model.specs.declared.term.Unary.{Unary}
use Rattle.nq_model.specs.declared.term.Unary.TheVariants.{Minus, Not}
use Rattle.nq_model.specs.declared.term.Binary.{Binary}
use Rattle.nq_model.specs.declared.term.Binary.TheVariants.{Add, Sub, Mul, Eq, Ne, Lt, Le, Gt, Ge, And, Or}
use Rattle.nq_model.specs.declared.table.Cell.{Cell}
use Rattle.nq_model.specs.declared.table.Cell.TheVariants as cell
use Rattle.nq_model.specs.declared.table.ColumnType.{ColumnType}
use Rattle.nq_model.specs.declared.table.ColumnType.TheVariants as column

abbrev pub is_true : Cell → Bool
is_true (cell.Int n) = false
is_true (cell.Bool b) = b
is_true (cell.Text t) = false

abbrev pub int_of : Cell → ℤ
int_of (cell.Int n) = n
int_of (cell.Bool b) = pos 0
int_of (cell.Text t) = pos 0

abbrev pub unary_value : Unary → Cell → Cell
unary_value Minus a = cell.Int (int_wrapping_neg w64 (int_of a))
unary_value Not a = cell.Bool (not (is_true a))

abbrev pub binary_value : Binary → Cell → Cell → Cell
binary_value Add a b = cell.Int (int_wrapping_add w64 (int_of a) (int_of b))
binary_value Sub a b = cell.Int (int_wrapping_sub w64 (int_of a) (int_of b))
binary_value Mul a b = cell.Int (int_wrapping_mul w64 (int_of a) (int_of b))
binary_value Eq a b = cell.Bool (cell_eq a b)
binary_value Ne a b = cell.Bool (not (cell_eq a b))
binary_value Lt a b = cell.Bool (is_lt (cell_cmp a b))
binary_value Le a b = cell.Bool (not (is_lt (cell_cmp b a)))
binary_value Gt a b = cell.Bool (is_lt (cell_cmp b a))
binary_value Ge a b = cell.Bool (not (is_lt (cell_cmp a b)))
binary_value And a b = cell.Bool (is_true a && is_true b)
binary_value Or a b = cell.Bool (is_true a || is_true b)

-- `-` takes and gives an int, `!` a truth value
abbrev pub unary_type : Unary → ColumnType → Option ColumnType
unary_type Minus column.Int = Some column.Int
unary_type Not column.Bool = Some column.Bool
unary_type _ _ = None

abbrev pub both_int : ColumnType → ColumnType → Option ColumnType
both_int column.Int column.Int = Some column.Int
both_int _ _ = None

abbrev pub both_bool : ColumnType → ColumnType → Option ColumnType
both_bool column.Bool column.Bool = Some column.Bool
both_bool _ _ = None

abbrev pub same_base : ColumnType → ColumnType → Option ColumnType
same_base column.Int column.Int = Some column.Bool
same_base column.Bool column.Bool = Some column.Bool
same_base column.Text column.Text = Some column.Bool
same_base _ _ = None

-- arithmetic on ints, comparisons of one base type, truth operations on truth values
abbrev pub binary_type : Binary → ColumnType → ColumnType → Option ColumnType
binary_type Add a b = both_int a b
binary_type Sub a b = both_int a b
binary_type Mul a b = both_int a b
binary_type Eq a b = same_base a b
binary_type Ne a b = same_base a b
binary_type Lt a b = same_base a b
binary_type Le a b = same_base a b
binary_type Gt a b = same_base a b
binary_type Ge a b = same_base a b
binary_type And a b = both_bool a b
binary_type Or a b = both_bool a b
