-- A text is UTF-8, or there is a first byte that is no part of it.
use Rattle.std.proofs.Common.{◌≡◌, ℕ, zero, suc, ◌≤◌, ◌<◌, false, List, [], ◌∷◌, length, take, sym, ◌∙◌, subst, arith, ◌⊎◌, inl, inr, true≢false, nat_lt, take_all}
use Rattle.std.specs.Str.{IsUtf8, IsValidUpTo, is_utf8}
use Rattle.std.proofs.lemmas.Bool.Decides.{Decides-ltb, nat_tests}
use Rattle.std.proofs.lemmas.Str.{IsUtf8-from_is_utf8, is_utf8-from_IsUtf8, IsUtf8-nil}
use Rattle.nq_model.proofs.OpenLists.{Truth, Yes, No, truth}

pub valid_not_utf8 : (text : List ℕ) (p : ℕ) → IsUtf8 text → IsValidUpTo text p → ⊥
valid_not_utf8 text p u v = v.longest (length text) v.short (subst IsUtf8 (sym (take_all (length text) text (omega arith))) u)

neither : (p q : ℕ) → nat_lt p q ≡ false → nat_lt q p ≡ false → p ≡ q
neither p q t u = grind (arith, nat_tests)

pub one_valid : (text : List ℕ) (p q : ℕ) → IsValidUpTo text p → IsValidUpTo text q → p ≡ q
one_valid text p q v w = go (truth (nat_lt p q)) (truth (nat_lt q p))
  where
    go : Truth (nat_lt p q) → Truth (nat_lt q p) → p ≡ q
    go (Yes t) u = absurd (v.longest q ((Decides-ltb p q).0 t) w.front)
    go (No t) (Yes u) = absurd (w.longest p ((Decides-ltb q p).0 u) v.front)
    go (No t) (No u) = neither p q t u

not_below : (m n : ℕ) → nat_lt m n ≡ false → n ≤ m
not_below m n e = grind (arith, nat_tests)

-- the longest front that is UTF-8, from n down
valid_below : (text : List ℕ) (n : ℕ) → n ≤ length text → ((m : ℕ) → n < m → IsUtf8 (take m text) → ⊥) → (IsUtf8 text → ⊥) → (p : ℕ) × IsValidUpTo text p
valid_below text zero l above none = (0, record { short = some text none; front = IsUtf8-nil; longest = above })
  where
    some : (bs : List ℕ) → (IsUtf8 bs → ⊥) → 0 < length bs
    some [] h = absurd (h IsUtf8-nil)
    some (b ∷ bs) h = omega arith
valid_below text (suc n) l above none = go (truth (is_utf8 (take (suc n) text))) (valid_below text n)
  where
    go : Truth (is_utf8 (take (suc n) text)) → (n ≤ length text → ((m : ℕ) → n < m → IsUtf8 (take m text) → ⊥) → (IsUtf8 text → ⊥) → (p : ℕ) × IsValidUpTo text p)
        → (p : ℕ) × IsValidUpTo text p
    go (Yes t) rec =
        let front = IsUtf8-from_is_utf8 (take (suc n) text) t in
        (suc n, record { short = shorter (truth (nat_lt (suc n) (length text))) front; front = front; longest = above })
      where
        shorter : Truth (nat_lt (suc n) (length text)) → IsUtf8 (take (suc n) text) → suc n < length text
        shorter (Yes s) f = (Decides-ltb (suc n) (length text)).0 s
        shorter (No s) f = absurd (none (subst IsUtf8 (take_all (suc n) text (not_below (suc n) (length text) s)) f))
    go (No t) rec = rec (omega arith) more none
      where
        at : (m : ℕ) → n < m → IsUtf8 (take m text) → Truth (nat_lt (suc n) m) → ⊥
        at m h u (Yes s) = above m ((Decides-ltb (suc n) m).0 s) u
        at m h u (No s) =
            let k = not_below (suc n) m s in
            let same : m ≡ suc n = omega arith in
            true≢false (sym (is_utf8-from_IsUtf8 (take (suc n) text) (subst (λ z. IsUtf8 (take z text)) same u)) ∙ t)

        more : (m : ℕ) → n < m → IsUtf8 (take m text) → ⊥
        more m h u = at m h u (truth (nat_lt (suc n) m))

pub utf8_or_fault : (text : List ℕ) → IsUtf8 text ⊎ ((p : ℕ) × IsValidUpTo text p)
utf8_or_fault text = go (truth (is_utf8 text))
  where
    go : Truth (is_utf8 text) → IsUtf8 text ⊎ ((p : ℕ) × IsValidUpTo text p)
    go (Yes t) = inl (IsUtf8-from_is_utf8 text t)
    go (No t) =
        let none : IsUtf8 text → ⊥ = λ u. true≢false (sym (is_utf8-from_IsUtf8 text u) ∙ t) in
        inr (valid_below text (length text) (omega arith) (λ m h u. none (subst IsUtf8 (take_all m text (omega arith)) u)) none)
