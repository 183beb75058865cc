-- Numbers and literals read byte by byte, and what holds of a run of bytes.
use Rattle.std.proofs.Common.{◌≡◌, ℕ, suc, ◌+◌, ◌-◌, ◌*◌, ◌≤◌, ◌<◌, ◌==◌, eqb, Bool, true, false, not, cond, ◌&&◌, All, one-add, subst₂, if◌then◌else◌, List, [], ◌∷◌, length, take, drop, get_or, Option, Some, None, option_map, refl, ap, sym, ◌∙◌, subst, arith}
use Rattle.std.specs.List.{prefix_len}
use Rattle.std.specs.Cmp.Lexicographic.{pointwise}
use Rattle.std.proofs.Math.Seq.{drop-cons}
use Rattle.std.proofs.lemmas.Bool.Decides.{nat_tests}
use Rattle.std.proofs.lemmas.List.{drop-drop, length-drop}
use Rattle.std.proofs.lemmas.List.Elements.{All-cons, All-nil}
use Rattle.nq_model.specs.QueryTokens.{begins_with, is_digit, is_quote, literal_len, value_from}
use Rattle.lexical.specs.Digits.{IsDigit}

pub value_grows : (n : ℕ) (bs : List ℕ) → n ≤ value_from n bs
value_grows n [] = omega arith
value_grows n (b ∷ bs) = let r = value_grows (10 * n + (b - 48)) bs in omega (arith, r)

pub value_step : (v : ℕ) (ds : List ℕ) (i : ℕ) → i < length ds → value_from v (drop i ds) ≡ value_from (10 * v + (get_or ds i 0 - 48)) (drop (suc i) ds)
value_step v ds i h = ap (value_from v) (drop-cons ds i 0 h)

added : (i : ℕ) (o : Option ℕ) → option_map (λ n. i + n) (option_map suc o) ≡ option_map (λ n. i + 1 + n) o
added i None = refl
added i (Some n) = ap (λ (m : ℕ). Some m) (omega arith)

-- one more byte of a literal
pub literal_step : (after : Bool) (bs : List ℕ) (i : ℕ) → i < length bs → (after && not (is_quote (get_or bs i 0))) ≡ false
    → option_map (λ n. i + n) (literal_len after (drop i bs)) ≡ option_map (λ n. i + 1 + n) (literal_len (not after && is_quote (get_or bs i 0)) (drop (suc i) bs))
literal_step false bs i h e =
    ap (λ l. option_map (λ n. i + n) (literal_len false l)) (drop-cons bs i 0 h) ∙ added i (literal_len (is_quote (get_or bs i 0)) (drop (suc i) bs))
literal_step true bs i h e = ap (λ l. option_map (λ n. i + n) (literal_len true l)) (drop-cons bs i 0 h) ∙ by (is_quote (get_or bs i 0)) e
  where
    by : (q : Bool) → not q ≡ false → option_map (λ n. i + n) (if q then option_map suc (literal_len false (drop (suc i) bs)) else Some 0) ≡ option_map (λ n. i + 1 + n) (literal_len false (drop (suc i) bs))
    by true f = added i (literal_len false (drop (suc i) bs))
    by false f = absurd (cc)

-- a literal ends before a byte that is no quote
pub literal_stops : (after : Bool) (bs : List ℕ) (i : ℕ) → i < length bs → (after && not (is_quote (get_or bs i 0))) ≡ true
    → option_map (λ n. i + n) (literal_len after (drop i bs)) ≡ Some i
literal_stops false bs i h e = absurd (cc)
literal_stops true bs i h e = ap (λ l. option_map (λ n. i + n) (literal_len true l)) (drop-cons bs i 0 h) ∙ by (is_quote (get_or bs i 0)) e
  where
    by : (q : Bool) → not q ≡ true → option_map (λ n. i + n) (if q then option_map suc (literal_len false (drop (suc i) bs)) else Some 0) ≡ Some i
    by true f = absurd (cc)
    by false f = ap (λ (m : ℕ). Some m) (omega arith)

-- the code's test for a text that begins with these bytes
pub begins : (cs bs : List ℕ) → pointwise eqb cs (take (length cs) bs) ≡ begins_with cs bs
begins [] bs = refl
begins (c ∷ cs) [] = refl
begins (c ∷ cs) (b ∷ bs) = ap (λ r. c == b && r) (begins cs bs)

-- what holds of each byte of a run
pub all_run : (p : ℕ → Bool) (P : ℕ → Type 0) → ((b : ℕ) → p b ≡ true → P b) → (bs : List ℕ) → All P (take (prefix_len p bs) bs)
all_run p P f [] = All-nil P
all_run p P f (b ∷ bs) = by (p b) refl (all_run p P f bs)
  where
    by : (t : Bool) → p b ≡ t → All P (take (prefix_len p bs) bs) → All P (take (cond t (1 + prefix_len p bs) 0) (b ∷ bs))
    by true e r = subst (λ n. All P (take n (b ∷ bs))) (sym (one-add (prefix_len p bs))) (All-cons P b (take (prefix_len p bs) bs) (f b e) r)
    by false e r = All-nil P

-- the run is that of the rest and one byte more
pub longer : (p : ℕ → Bool) (b : ℕ) (rest : List ℕ) → p b ≡ true → prefix_len p (b ∷ rest) ≡ prefix_len p rest + 1
longer p b rest e = ap (λ t. cond t (1 + prefix_len p rest) 0) e ∙ omega arith

pub digits_all : (b : ℕ) (rest bytes : List ℕ) (n : ℕ) → bytes ≡ b ∷ rest → is_digit b ≡ true → n ≡ prefix_len is_digit rest → All IsDigit (take (n + 1) bytes)
digits_all b rest bytes n e d m =
    subst₂ (λ k (l : List ℕ). All IsDigit (take k l)) (longer is_digit b rest d ∙ ap (λ k. k + 1) (sym m)) (sym e) (all_run is_digit IsDigit is_one (b ∷ rest))
  where
    is_one : (c : ℕ) → is_digit c ≡ true → IsDigit c
    is_one c h = (grind (arith, nat_tests), grind (arith, nat_tests))

pub rest_there : (text bytes rest : List ℕ) (place b : ℕ) → bytes ≡ drop place text → bytes ≡ b ∷ rest → rest ≡ drop (place + 1) text
rest_there text bytes rest place b e f = ap (drop 1) (sym f ∙ e) ∙ drop-drop 1 place text

pub lengths : (text bytes rest : List ℕ) (place b : ℕ) → bytes ≡ drop place text → bytes ≡ b ∷ rest → (length bytes ≡ suc (length rest)) × (length rest < length text)
lengths text bytes rest place b e f =
    let l = length-drop place text in
    let m : length bytes ≡ length text - place = ap length e ∙ l in
    let n : length bytes ≡ suc (length rest) = ap length f in
    (n, omega (arith, m, n))
