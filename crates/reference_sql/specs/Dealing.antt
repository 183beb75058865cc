-- The number that one more key list takes among those that are numbered.
use Rattle.std.specs.Prelude.{◌≡◌, ℕ, ◌+◌, ◌<◌, ◌≤◌, List, length, Bool, true, not, ◌&&◌, nat_le, if◌then◌else◌}
use Rattle.std.specs.List.{AllByRecursion as Each}
use Rattle.nq_model.specs.Numberings.{key_lt}
use Rattle.nq_model.specs.declared.table.Cell.{Cell}
use Rattle.reference_sql.specs.declared.number.Ties.{Ties}
use Rattle.reference_sql.specs.declared.number.Ties.TheVariants.{AsTheyArise, Reversed}

-- a key list that arose before is to have a smaller number than the key
abbrev pub is_earlier : Ties → List Cell → List Cell → Bool
is_earlier AsTheyArise before key = not (key_lt key before)
is_earlier Reversed before key = key_lt before key

-- a smaller key has a smaller number than m, and a larger one has not
abbrev pub IsAbove : List Cell → ℕ → ℕ × List Cell → Type 0
IsAbove key m p = key_lt p.1 key ≡ true → p.0 < m

abbrev pub IsBelow : List Cell → ℕ → ℕ × List Cell → Type 0
IsBelow key m p = key_lt key p.1 ≡ true → m ≤ p.0

-- m may be the number of the key, where the numbers from m on are raised by 1
pub record IsPlace (pairs : List (ℕ × List Cell)) (key : List Cell) (m : ℕ) : Type 0 where
  pub low : 1 ≤ m
  pub high : m ≤ length pairs + 1
  pub above : Each (IsAbove key m) pairs
  pub below : Each (IsBelow key m) pairs

abbrev pub raise : ℕ → ℕ → ℕ
raise m n = if nat_le m n then n + 1 else n

-- the place once one more pair is looked at: above it, where its key is earlier
abbrev pub next_place : Ties → List Cell → ℕ → ℕ × List Cell → ℕ
next_place ties key m p = if is_earlier ties p.1 key && nat_le m p.0 then p.0 + 1 else m
