-- Lines byte by byte.
use Rattle.std.proofs.Common.{◌≡◌, ℕ, suc, ◌+◌, ◌<◌, List, [], ◌∷◌, ◌++◌, true, false, if◌then◌else◌, length, take, drop, get_or, ap, sym, ◌∙◌, drop-cons, append_assoc, add-one}
use Rattle.std.proofs.Math.Seq.{take-suc}
use Rattle.diagnostics.specs.Lines.{ends_line, first_line}

-- what a line has where it does not end, and where it does
step : (byte : ℕ) (bytes : List ℕ) → ends_line (byte ∷ bytes) ≡ false → first_line (byte ∷ bytes)
    ≡ byte ∷ first_line bytes
step byte bytes e = ap (λ t. if t then [] else byte ∷ first_line bytes) e

stop : (byte : ℕ) (bytes : List ℕ) → ends_line (byte ∷ bytes) ≡ true → first_line (byte ∷ bytes)
    ≡ []
stop byte bytes e = ap (λ t. if t then [] else byte ∷ first_line bytes) e

-- a line goes on over a byte at which it does not end
pub first_line_more : (bytes : List ℕ) (at : ℕ) → at < length bytes → ends_line (drop at bytes)
    ≡ false
    → take at bytes ++ first_line (drop at bytes) ≡ take (at + 1) bytes
    ++ first_line (drop (at + 1) bytes)
first_line_more bytes at h e =
    let byte = get_or bytes at 0 in
    let rest = drop (suc at) bytes in
    let cut = drop-cons bytes at 0 h in
    ap (λ r. take at bytes ++ first_line r) cut
    ∙ ap (λ r. take at bytes ++ r) (step byte rest (sym (ap ends_line cut) ∙ e))
    ∙ sym (append_assoc (take at bytes) (byte ∷ []) (first_line rest))
    ∙ ap (λ r. r ++ first_line rest) (sym (take-suc bytes at 0 h))
    ∙ ap (λ n. take n bytes ++ first_line (drop n bytes)) (sym (add-one at))

-- and stops at one where it does
pub first_line_stops : (bytes : List ℕ) (at : ℕ) → at < length bytes → ends_line (drop at bytes)
    ≡ true
    → first_line (drop at bytes) ≡ []
first_line_stops bytes at h e =
    let cut = drop-cons bytes at 0 h in
    ap first_line cut ∙ stop (get_or bytes at 0) (drop (suc at) bytes) (sym (ap ends_line cut) ∙ e)
