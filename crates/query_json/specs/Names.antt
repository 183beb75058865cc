-- The names of the columns of an answer.
use Rattle.std.specs.Prelude.{ℕ, zero, suc, List, ◌++◌, codes, decimal}

-- the column with this place, from 0: ot, on, c1, c2 and so on
abbrev pub column_name : ℕ → List ℕ
column_name zero = codes "ot"
column_name (suc zero) = codes "on"
column_name (suc (suc k)) = codes "c" ++ decimal (suc k)
