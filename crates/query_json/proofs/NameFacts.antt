-- The name of a column behind the two of the outer index.
use Rattle.std.proofs.Common.{◌≡◌, ◌≤◌, ◌-◌, ◌++◌, ℕ, zero, suc, codes, decimal, ap, arith}
use Rattle.query_json.specs.Names.{column_name}

pub later_name : (place : ℕ) → 2 ≤ place → column_name place ≡ codes "c" ++ decimal (place - 1)
later_name zero h = absurd (omega arith)
later_name (suc zero) h = absurd (omega arith)
later_name (suc (suc k)) h =
    let same : suc k ≡ suc (suc k) - 1 = omega arith in
    ap (λ (n : ℕ). codes "c" ++ decimal n) same
