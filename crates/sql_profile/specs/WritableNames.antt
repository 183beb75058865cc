-- Names that an SQL text can hold.
use Rattle.std.specs.Prelude.{ℕ, ◌≤◌, List, length, Contains}

-- 1 to 128 bytes without a double quote
pub record IsWritableName (name : List ℕ) : Type 0 where
  pub some : 1 ≤ length name
  pub few : length name ≤ 128
  pub no_quote : Contains name 34 → ⊥
