-- Counts and sums at 64 bits.
use Rattle.std.specs.Prelude.{ℤ, pos, ◌+ℤ◌, List, [], ◌∷◌, map, length}
use Rattle.std.specs.Int.{int_wrap, w64}
use Rattle.nq_model.specs.Operators.{int_of}
use Rattle.nq_model.specs.declared.table.Cell.{Cell}
use Rattle.nq_model.specs.declared.table.Cell.TheVariants as cell

abbrev pub whole_sum : List ℤ → ℤ
whole_sum [] = pos 0
whole_sum (n ∷ ns) = n +ℤ whole_sum ns

-- how many there are, wrapped
abbrev pub count_of : {A : Type 0} → List A → ℤ
count_of xs = int_wrap w64 (pos (length xs))

-- the sum of the numbers, wrapped; of none it is 0
abbrev pub sum_of : List Cell → ℤ
sum_of cells = int_wrap w64 (whole_sum (map int_of cells))

-- which total is taken over values: how many they are, or their sum
pub data Total : Type 0 where
  HowMany : Total
  SumOf : Total

abbrev pub total_of : Total → List Cell → Cell
total_of HowMany cells = cell.Int (count_of cells)
total_of SumOf cells = cell.Int (sum_of cells)
