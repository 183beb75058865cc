-- Counting on.
use Rattle.std.proofs.Common.{◌≡◌, ℕ, zero, suc, ◌+◌, List, [], ◌∷◌, ◌++◌, ap, ◌∙◌, arith}
use Rattle.nq_model.specs.Numberings.{count_from}

-- one number more
pub count_next : (a n : ℕ) → count_from a (suc n) ≡ count_from a n ++ (a + n) ∷ []
count_next a zero = ap (λ (m : ℕ). m ∷ []) (omega arith)
count_next a (suc n) =
    let same : suc a + n ≡ a + suc n = omega arith in
    ap (λ (l : List ℕ). a ∷ l) (count_next (suc a) n ∙ ap (λ (m : ℕ). count_from (suc a) n ++ m ∷ []) same)
