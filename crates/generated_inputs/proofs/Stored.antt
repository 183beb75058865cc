-- The rows of a size are tables of the schema.
use Rattle.std.proofs.Common.{ℕ, zero, suc, ◌*◌, ◌%◌, ◌^◌, ◌<◌, ◌≤◌, List, [], ◌∷◌, All, refl, codes, arith, pos}
use Rattle.std.proofs.lemmas.Fmt.{IsAscii-decimal}
use Rattle.std.proofs.lemmas.Int.{fits_signed_from_abs}
use Rattle.std.proofs.lemmas.List.Elements.{All-append, All-cons, All-from_recursion, All-nil}
use Rattle.std.proofs.lemmas.Str.{IsUtf8-append, IsUtf8-from_ascii, IsUtf8-from_is_utf8}
use Rattle.std.specs.Fmt.{decimal}
use Rattle.std.specs.Int.{w64}
use Rattle.std.specs.Str.{IsUtf8, chars, is_utf8}
use lib.Utf8.{encode}
use Rattle.nq_model.specs.Cells.{RowFits}
use Rattle.nq_model.specs.SchemaTables.{AreTablesOf, IsSound, IsTableOf}
use Rattle.nq_model.specs.Tables.{Columns, types_of}
use Rattle.nq_model.specs.declared.table.Cell.{Cell}
use Rattle.nq_model.specs.declared.table.Cell.TheVariants as cell
use Rattle.generated_inputs.specs.Generated.{keyless, numbered, department_names, departments_shape, employees_shape, tasks_shape, department_row, employee_row, task_row, rows_below, generated_schema, generated_rows}
use Rattle.generated_inputs.specs.Sizes.{IsSize}

-- what holds of the row of each number below a count holds of all rows
of_rows : (P : List Cell → Type 0) (row : ℕ → List Cell) (count : ℕ) → ((k : ℕ) → P (row k)) → All P (rows_below row count)
of_rows P row zero h = All-nil P
of_rows P row (suc count) h = All-append P (rows_below row count) (row count ∷ []) (of_rows P row count h) (All-cons P (row count) [] (h count) (All-nil P))

table : (name : List ℕ) (columns : Columns) (row : ℕ → List Cell) (count : ℕ) → ((k : ℕ) → RowFits (types_of columns) (row k)) → ((k : ℕ) → All IsSound (row k)) → IsTableOf (keyless name columns) (rows_below row count)
table name columns row count fit sound = record {
  fit = of_rows (RowFits (types_of columns)) row count fit;
  sound = of_rows (All IsSound) row count sound;
  keys_differ = λ has_key. absurd (has_key refl);
}

d_valid : IsUtf8 (codes "d")
unfolding is_utf8 chars encode
d_valid = IsUtf8-from_is_utf8 (codes "d") refl

e_valid : IsUtf8 (codes "e")
unfolding is_utf8 chars encode
e_valid = IsUtf8-from_is_utf8 (codes "e") refl

t_valid : IsUtf8 (codes "t")
unfolding is_utf8 chars encode
t_valid = IsUtf8-from_is_utf8 (codes "t") refl

numbered_sound : (letter : List ℕ) (number : ℕ) → IsUtf8 letter → number < 2 ^ 64 → IsSound (numbered letter number)
numbered_sound letter number valid small = IsUtf8-append letter (decimal number) valid (IsUtf8-from_ascii (decimal number) (IsAscii-decimal number small))

remainder_sound : (letter : List ℕ) (row of : ℕ) → IsUtf8 letter → 0 < of → of ≤ 5000 → IsSound (numbered letter (row % of))
remainder_sound letter row of valid some small = numbered_sound letter (row % of) valid (omega arith)

salary_sound : (row : ℕ) → IsSound (cell.Int (pos (37 * row % 101)))
salary_sound row = fits_signed_from_abs w64 (pos (37 * row % 101)) (omega arith)

department_sound : (size : ℕ) → IsSize size → (row : ℕ) → All IsSound (department_row size row)
department_sound size sized row =
    All-from_recursion IsSound (department_row size row) (remainder_sound (codes "d") row (department_names size) d_valid (omega arith) (omega arith), tt)

employee_sound : (size : ℕ) → IsSize size → (row : ℕ) → All IsSound (employee_row size row)
employee_sound size sized row =
    All-from_recursion IsSound (employee_row size row)
    (remainder_sound (codes "d") row (department_names size) d_valid (omega arith) (omega arith), (remainder_sound (codes "e") row size e_valid (omega arith) (omega arith), (salary_sound row, tt)))

task_sound : (size : ℕ) → IsSize size → (row : ℕ) → All IsSound (task_row size row)
task_sound size sized row =
    All-from_recursion IsSound (task_row size row)
    (remainder_sound (codes "e") row size e_valid (omega arith) (omega arith), (remainder_sound (codes "t") row 5 t_valid (omega arith) (omega arith), tt))

pub stored : (size : ℕ) → IsSize size → AreTablesOf generated_schema.tables (generated_rows size)
unfolding generated_schema generated_rows
stored size sized = (
  table (codes "departments") departments_shape.columns (department_row size) size (λ k. refl) (department_sound size sized),
  (
    table (codes "employees") employees_shape.columns (employee_row size) (3 * size) (λ k. refl) (employee_sound size sized),
    (table (codes "tasks") tasks_shape.columns (task_row size) (4 * size) (λ k. refl) (task_sound size sized), tt),
  ),
)
