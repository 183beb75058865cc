-- The answers of a script go to asks in their order, and a count of failures rises.
use Rattle.std.proofs.Common.{◌≡◌, ℕ, zero, suc, ◌+◌, ◌-◌, ◌^◌, ◌<◌, ◌≤◌, ◌⊎◌, inl, inr, min, nat_le, true, List, [], ◌∷◌, ◌++◌, length, zip, slice_get, get_or, Some, None, refl, ap, arith}
use Rattle.std.proofs.lemmas.Bool.{le-leb}
use Rattle.std.proofs.lemmas.Option.{slice_get_cases}
use Rattle.sql_profile.specs.Servers.{RoseBelow}
use Rattle.plain_engine.proofs.Counting.{listed_rise_at, listed_within}

same_some : {A : Type 0} (x y : A) → Some x ≡ Some y → x ≡ y
same_some x y e = cc

-- behind the last answer there is none
pub script_ended : {A : Type 0} (script : List A) (count : ℕ) → slice_get script count ≡ None → nat_le (length script) count ≡ true
script_ended script count e = go (slice_get_cases script count).1
  where
    go : ((x : _) × (count < length script) × (slice_get script count ≡ Some x) × (get_or script count x ≡ x)) ⊎ ((length script ≤ count) × (slice_get script count ≡ None)) → nat_le (length script) count ≡ true
    go (inl found) = let f = found.2 in absurd (cc)
    go (inr past) = le-leb (length script) count past.0

-- one more ask is told, with the next answer
pub one_more_ask : {A B : Type 0} (asked : List A) (script : List B) (text : A) (answer : B) → slice_get script (length asked) ≡ Some answer → zip (asked ++ text ∷ []) script ≡ zip asked script ++ (text, answer) ∷ []
one_more_ask [] [] text answer e = absurd (cc)
one_more_ask [] (y ∷ ys) text answer e = ap (λ z. (text, z) ∷ []) (same_some y answer e)
one_more_ask (x ∷ xs) [] text answer e = absurd (cc)
one_more_ask (x ∷ xs) (y ∷ ys) text answer e = ap (λ l. (x, y) ∷ l) (one_more_ask xs ys text answer e)

le_or : (n limit : ℕ) → n ≤ limit → (n < limit) ⊎ (n ≡ limit)
le_or zero zero h = inr refl
le_or zero (suc limit) h = inl (omega arith)
le_or (suc n) zero h = absurd (omega (arith, h))
le_or (suc n) (suc limit) h = elim (le_or n limit (omega (arith, h))) [
  | inl less ↦ inl (omega (arith, less))
  | inr same ↦ inr (ap suc same)
]

-- a 64-bit count of failures that saturates
pub rose_once : (bound before now : ℕ) → before < bound → before ≤ 2 ^ 64 - 1 → now ≡ min (before + 1) (2 ^ 64 - 1) → RoseBelow bound before now
rose_once bound before now room h is = record { rose = go (le_or before (2 ^ 64 - 1) h); room = room }
  where
    go : (before < 2 ^ 64 - 1) ⊎ (before ≡ 2 ^ 64 - 1) → (before < now) ⊎ ((before ≡ 2 ^ 64 - 1) × (now ≡ 2 ^ 64 - 1))
    go (inl less) = inl (omega (arith, less, is))
    go (inr same) = inr (same, omega (arith, same, is))

-- a count of failures after a call that has a listed number
pub ruleset failure_rules = (listed_rise_at, listed_within, rose_once)
