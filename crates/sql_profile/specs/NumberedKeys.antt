-- The key lists that the numbers of a numbering stand for.
use Rattle.std.specs.Prelude.{◌≡◌, ℕ, ◌-◌, ◌≤◌, pos, List, map, length, get_or}
use Rattle.nq_model.specs.Numberings.{numbered}
use Rattle.nq_model.specs.declared.table.Cell.{Cell}
use Rattle.nq_model.specs.declared.table.Cell.TheVariants as cell
use Rattle.sql_profile.specs.Trees.{ExprTrees}
use Rattle.nq_model.specs.NamedRows.{NamedTables}
use Rattle.sql_profile.specs.AllowedAnswers.{Scope, key_of}

-- the key lists of combinations
abbrev pub keys_of : NamedTables → ExprTrees → List Scope → List (List Cell)
keys_of ts keys kept = map (λ c. key_of ts keys c) kept

-- the numbers from 1 on, each with the key list that stands there
abbrev pub number_cells : List (List Cell) → List (Cell × List Cell)
number_cells sorted = map (λ p. (cell.Int (pos p.0), p.1)) (numbered 1 sorted)

-- the cell is a number n, and the key list is the n-th, counted from 1
abbrev pub IsNthOf : List (List Cell) → Cell × List Cell → Type 0
IsNthOf sorted p = (n : ℕ) × (p.0 ≡ cell.Int (pos n)) × (1 ≤ n) × (n ≤ length sorted) × ((d : List Cell) → get_or sorted (n - 1) d ≡ p.1)
