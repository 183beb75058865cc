-- How the count of listed numbers up to a call rises.
use Rattle.std.proofs.Common.{◌≡◌, ℕ, suc, ◌+◌, ◌-◌, ◌^◌, ◌≤◌, nat_le, nat_lt, ◌==◌, ◌||◌, Some, None, Bool, true, false, cond, List, [], ◌∷◌, length, filter, refl, sym, subst, arith}
use Rattle.std.proofs.lemmas.Bool.{eqb-true, leb-true, le-leb, lt-leb, ltb-true}
use Rattle.std.specs.List.{list_any}
use Rattle.failing_calls.specs.Calls.{is_listed, number_after}
use Rattle.plain_engine.specs.Counting.{listed_up_to, next_count}

pub listed_within : (listed : List ℕ) (calls : ℕ) → listed_up_to listed calls ≤ length listed
listed_within [] calls = omega arith
listed_within (x ∷ xs) calls = go (nat_le x calls) (listed_within xs calls)
  where
    go : (b : Bool) → listed_up_to xs calls ≤ length xs → length (cond b (x ∷ filter (λ number. nat_le number calls) xs) (filter (λ number. nat_le number calls) xs)) ≤ suc (length xs)
    go true h = omega (arith, h)
    go false h = omega (arith, h)

up_to_more : (listed : List ℕ) (calls more : ℕ) → calls ≤ more → listed_up_to listed calls ≤ listed_up_to listed more
up_to_more [] calls more h = omega arith
up_to_more (x ∷ xs) calls more h = go (nat_le x calls) refl (nat_le x more) refl (up_to_more xs calls more h)
  where
    go : (b : Bool) → nat_le x calls ≡ b → (c : Bool) → nat_le x more ≡ c → listed_up_to xs calls ≤ listed_up_to xs more
        → length (cond b (x ∷ filter (λ number. nat_le number calls) xs) (filter (λ number. nat_le number calls) xs)) ≤ length (cond c (x ∷ filter (λ number. nat_le number more) xs) (filter (λ number. nat_le number more) xs))
    go true e true f r = omega (arith, r)
    go true e false f r = let a = leb-true x calls e in let b = le-leb x more (omega (arith, a, h)) in absurd (cc)
    go false e true f r = omega (arith, r)
    go false e false f r = r

up_to_next : (listed : List ℕ) (calls : ℕ) → list_any (λ number. number == (calls + 1)) listed ≡ true → listed_up_to listed calls + 1 ≤ listed_up_to listed (calls + 1)
up_to_next [] calls e = absurd (cc)
up_to_next (x ∷ xs) calls e = go (x == (calls + 1)) refl e (up_to_next xs calls)
  where
    here : (b c : Bool) → b ≡ false → c ≡ true → listed_up_to xs calls ≤ listed_up_to xs (calls + 1)
        → length (cond b (x ∷ filter (λ number. nat_le number calls) xs) (filter (λ number. nat_le number calls) xs)) + 1 ≤ length (cond c (x ∷ filter (λ number. nat_le number (calls + 1)) xs) (filter (λ number. nat_le number (calls + 1)) xs))
    here true c e f r = absurd (cc)
    here false true e f r = omega (arith, r)
    here false false e f r = absurd (cc)

    there : (b c : Bool) → (b ≡ true → c ≡ true) → listed_up_to xs calls + 1 ≤ listed_up_to xs (calls + 1)
        → length (cond b (x ∷ filter (λ number. nat_le number calls) xs) (filter (λ number. nat_le number calls) xs)) + 1 ≤ length (cond c (x ∷ filter (λ number. nat_le number (calls + 1)) xs) (filter (λ number. nat_le number (calls + 1)) xs))
    there true true t r = omega (arith, r)
    there true false t r = let e = t refl in absurd (cc)
    there false true t r = omega (arith, r)
    there false false t r = r

    go : (b : Bool) → (x == (calls + 1)) ≡ b → (b || list_any (λ number. number == (calls + 1)) xs) ≡ true → (list_any (λ number. number == (calls + 1)) xs ≡ true → listed_up_to xs calls + 1 ≤ listed_up_to xs (calls + 1)) → listed_up_to (x ∷ xs) calls + 1 ≤ listed_up_to (x ∷ xs) (calls + 1)
    go true is e later =
        let same = eqb-true x (calls + 1) is in
        here (nat_le x calls) (nat_le x (calls + 1)) (lt-leb x calls (omega (arith, same))) (le-leb x (calls + 1) (omega (arith, same))) (up_to_more xs calls (calls + 1) (omega arith))
    go false is e later =
        there (nat_le x calls) (nat_le x (calls + 1)) (λ b. let a = leb-true x calls b in le-leb x (calls + 1) (omega (arith, a))) (later e)

-- after one more call no fewer numbers are listed
pub listed_rise : (listed : List ℕ) (calls : ℕ) → calls ≤ 2 ^ 64 - 1 → listed_up_to listed calls ≤ listed_up_to listed (next_count calls)
listed_rise listed calls h = up_to_more listed calls (next_count calls) (omega (arith, h))

-- after one more call that has a listed number, more numbers are listed
pub listed_rise_at : (listed : List ℕ) (calls : ℕ) → is_listed listed (number_after calls) ≡ true → listed_up_to listed calls + 1 ≤ listed_up_to listed (next_count calls)
listed_rise_at listed calls e = go (nat_lt calls (2 ^ 64 - 1)) refl e
  where
    go : (b : Bool) → nat_lt calls (2 ^ 64 - 1) ≡ b → is_listed listed (cond b (Some (calls + 1)) None) ≡ true → listed_up_to listed calls + 1 ≤ listed_up_to listed (next_count calls)
    go true is e =
        let less = ltb-true calls (2 ^ 64 - 1) is in
        let next : next_count calls ≡ calls + 1 = omega (arith, less) in
        subst (λ n. listed_up_to listed calls + 1 ≤ listed_up_to listed n) (sym next) (up_to_next listed calls e)
    go false is e = absurd (cc)
