-- Bytes that spell numbers.
use Rattle.std.specs.Prelude.{ℕ, ◌≤◌}

-- a digit
abbrev pub IsDigit : ℕ → Type 0
IsDigit b = (48 ≤ b) × (b ≤ 57)
