-- A literal without its doubled quotes, byte by byte.
use Rattle.std.proofs.Common.{◌≡◌, ℕ, suc, ◌+◌, ◌<◌, ◌++◌, drop, get_or, drop-cons, append_assoc, Bool, true, false, List, [], ◌∷◌, length, sym, ap, ◌∙◌, arith}
use Rattle.nq_model.specs.QueryScope.{undoubled}
use Rattle.nq_model.specs.QueryTokens.{is_quote}

-- a quote behind one that was kept is left out
pub left_out : (bytes spelled : List ℕ) (i : ℕ) → i < length spelled → bytes ++ undoubled true (drop i spelled) ≡ bytes ++ undoubled false (drop (i + 1) spelled)
left_out bytes spelled i h =
    ap (λ bs. bytes ++ undoubled true bs) (drop-cons spelled i 0 h)
    ∙ (let e : suc i ≡ i + 1 = omega arith in ap (λ (n : ℕ). bytes ++ undoubled false (drop n spelled)) e)

pub taken_over : (bytes spelled : List ℕ) (i : ℕ) → i < length spelled
    → bytes ++ undoubled false (drop i spelled) ≡ (bytes ++ get_or spelled i 0 ∷ []) ++ undoubled (is_quote (get_or spelled i 0)) (drop (i + 1) spelled)
taken_over bytes spelled i h =
    ap (λ bs. bytes ++ undoubled false bs) (drop-cons spelled i 0 h)
    ∙ (let e : suc i ≡ i + 1 = omega arith in ap (λ (n : ℕ). bytes ++ get_or spelled i 0 ∷ undoubled (is_quote (get_or spelled i 0)) (drop n spelled)) e)
    ∙ sym (append_assoc bytes (get_or spelled i 0 ∷ []) (undoubled (is_quote (get_or spelled i 0)) (drop (i + 1) spelled)))

pub skip_step : (old new : List ℕ) (kept next : Bool) (spelled : List ℕ) (i : ℕ) (all : List ℕ) → i < length spelled → kept ≡ true → new ≡ old → next ≡ false
    → old ++ undoubled kept (drop i spelled) ≡ all → new ++ undoubled next (drop (i + 1) spelled) ≡ all
skip_step old new kept next spelled i all h was is gone e =
    ap (λ bs. bs ++ undoubled next (drop (i + 1) spelled)) is ∙ ap (λ k. old ++ undoubled k (drop (i + 1) spelled)) gone
    ∙ sym (left_out old spelled i h) ∙ ap (λ k. old ++ undoubled k (drop i spelled)) (sym was) ∙ e

pub keep_step : (old new : List ℕ) (kept next : Bool) (spelled : List ℕ) (i : ℕ) (all : List ℕ) → i < length spelled → kept ≡ false
    → new ≡ old ++ get_or spelled i 0 ∷ [] → next ≡ is_quote (get_or spelled i 0)
    → old ++ undoubled kept (drop i spelled) ≡ all → new ++ undoubled next (drop (i + 1) spelled) ≡ all
keep_step old new kept next spelled i all h was is now e =
    ap (λ bs. bs ++ undoubled next (drop (i + 1) spelled)) is ∙ ap (λ k. (old ++ get_or spelled i 0 ∷ []) ++ undoubled k (drop (i + 1) spelled)) now
    ∙ sym (taken_over old spelled i h) ∙ ap (λ k. old ++ undoubled k (drop i spelled)) (sym was) ∙ e
