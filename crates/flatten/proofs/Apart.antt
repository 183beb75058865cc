-- The names in the text of a let form differ.
use Rattle.nq_ir.proofs.Equal.{nat_same, nat_differ}
use Rattle.std.proofs.Common.{get_or, cond, ◌≡◌, ℕ, zero, suc, ◌+◌, ◌≤◌, ◌<◌, List, [], ◌∷◌, ◌++◌, map, refl, sym, ap, ap₂, ◌∙◌, Bool, true, false, nat_eq, ◌&&◌, arith}
use Rattle.std.specs.Str.{bytes_eq}
use Rattle.std.specs.Int.Digits.{digits_of}
use Rattle.std.proofs.lemmas.Int.Digits.{same_from_digits_of, digits_of_step, first_digits_of}
use Rattle.std.proofs.lemmas.Fmt.{decimal_by_steps}
use Rattle.std.proofs.lemmas.List.{map-append}
use Rattle.std.specs.Fmt.{decimal}
use Rattle.std.specs.Prelude.{◌-◌, ◌/◌, ◌%◌, ◌^◌}
use Rattle.std.proofs.lemmas.Slice.Eq.{bytes_eq-Decides}
use Rattle.std.proofs.lemmas.Bool.Decides.{Decides-eqb}
use Rattle.std.specs.List.{AllByRecursion as Each}
use Rattle.nq_model.specs.NamedRows.{Label}
use Rattle.flatten.specs.Names.{number_text, with_name, let_alias, alias, outer_column, number_name, answer_name}

-- the number that such a text writes
raised_injective : (xs ys : List ℕ) → map (λ d. 48 + d) xs ≡ map (λ d. 48 + d) ys → xs ≡ ys
raised_injective [] [] e = refl
raised_injective [] (y ∷ ys) e = absurd (cc)
raised_injective (x ∷ xs) [] e = absurd (cc)
raised_injective (x ∷ xs) (y ∷ ys) e =
    let h : 48 + x ≡ 48 + y = cc in
    let t : map (λ d. 48 + d) xs ≡ map (λ d. 48 + d) ys = cc in
    ap₂ (λ a (l : List ℕ). a ∷ l) (omega (arith, h)) (raised_injective xs ys t)

-- the first digit of a number from 1 on is none of zero's
not_zero : (k : ℕ) → 48 ∷ [] ≡ map (λ d. 48 + d) (digits_of 10 (suc k)) → ⊥
not_zero k e = go (digits_of 10 (suc k)) (first_digits_of 10 (suc k) (omega arith) (omega arith)) e
  where
    go : (ds : List ℕ) → 0 < get_or ds 0 0 → 48 ∷ [] ≡ map (λ d. 48 + d) ds → ⊥
    go [] h e = absurd (cc)
    go (d ∷ ds) h e = let f : 48 ≡ 48 + d = cc in omega (arith, f, h)

pub number_text_injective : (j k : ℕ) → number_text j ≡ number_text k → j ≡ k
number_text_injective zero zero e = refl
number_text_injective zero (suc k) e = absurd (not_zero k e)
number_text_injective (suc j) zero e = absurd (not_zero j (sym e))
number_text_injective (suc j) (suc k) e = same_from_digits_of 10 (suc j) (suc k) (omega arith) (raised_injective (digits_of 10 (suc j)) (digits_of 10 (suc k)) e)

-- below 2 ^ 64 it is what std writes
pub number_text_decimal : (n : ℕ) → n < 2 ^ 64 → number_text n ≡ decimal n
number_text_decimal n small = whole n ∙ decimal_by_steps (λ m ds. digits m ≡ ds) first next n small
  where
    digits : ℕ → List ℕ
    digits m = cond (nat_eq m 0) (48 ∷ []) (map (λ d. 48 + d) (digits_of 10 m))

    whole : (m : ℕ) → number_text m ≡ digits m
    whole zero = refl
    whole (suc m) = ap (λ b. cond b (48 ∷ []) (map (λ d. 48 + d) (digits_of 10 (suc m)))) (sym (nat_differ (suc m) 0 (λ e. cc)))

    some : (m : ℕ) → 0 < m → digits m ≡ map (λ d. 48 + d) (digits_of 10 m)
    some zero h = absurd (omega arith)
    some (suc m) h = ap (λ b. cond b (48 ∷ []) (map (λ d. 48 + d) (digits_of 10 (suc m)))) (nat_differ (suc m) 0 (λ e. cc))

    step : (m : ℕ) → 0 < m → map (λ d. 48 + d) (digits_of 10 m) ≡ map (λ d. 48 + d) (digits_of 10 (m / 10)) ++ (48 + m % 10) ∷ []
    step m h = ap (map (λ d. 48 + d)) (digits_of_step 10 m (omega arith) h) ∙ map-append (λ d. 48 + d) (digits_of 10 (m / 10)) (m % 10 ∷ [])

    first : (m : ℕ) → m < 10 → digits m ≡ (48 + m) ∷ []
    first zero l = refl
    first (suc m) l =
        let none : suc m / 10 ≡ 0 = omega arith in
        let all : suc m % 10 ≡ suc m = omega arith in
        some (suc m) (omega arith) ∙ step (suc m) (omega arith) ∙ ap₂ (λ a b. map (λ d. 48 + d) (digits_of 10 a) ++ (48 + b) ∷ []) none all

    next : (m : ℕ) (ds : List ℕ) → 10 ≤ m → digits (m / 10) ≡ ds → digits m ≡ ds ++ (48 + m % 10) ∷ []
    next m ds l i = some m (omega (arith, l)) ∙ step m (omega (arith, l)) ∙ ap (λ (z : List ℕ). z ++ (48 + m % 10) ∷ []) (sym (some (m / 10) (omega (arith, l))) ∙ i)

-- no dot stands in it
raised_above : (xs : List ℕ) → Each (λ c. 48 ≤ c) (map (λ d. 48 + d) xs)
raised_above [] = tt
raised_above (x ∷ xs) = (omega arith, raised_above xs)

pub number_text_above : (k : ℕ) → Each (λ c. 48 ≤ c) (number_text k)
number_text_above zero = (omega arith, tt)
number_text_above (suc k) = raised_above (digits_of 10 (suc k))

-- up to the first dot
dot_splits : (xs ys l m : List ℕ) → Each (λ c. 48 ≤ c) xs → Each (λ c. 48 ≤ c) ys → xs ++ 46 ∷ l ≡ ys ++ 46 ∷ m → (xs ≡ ys) × (l ≡ m)
dot_splits [] [] l m h k e = (refl, cc)
dot_splits [] (y ∷ ys) l m h k e = let f : 46 ≡ y = cc in absurd (omega (arith, f, k.0))
dot_splits (x ∷ xs) [] l m h k e = let f : x ≡ 46 = cc in absurd (omega (arith, f, h.0))
dot_splits (x ∷ xs) (y ∷ ys) l m h k e =
    let f : x ≡ y = cc in
    let r : xs ++ 46 ∷ l ≡ ys ++ 46 ∷ m = cc in
    let t = dot_splits xs ys l m h.1 k.1 r in
    (ap₂ (λ a (z : List ℕ). a ∷ z) f t.0, t.1)

-- no dot stands in the name
abbrev pub NoDot : Label → Type 0
NoDot l = Each (λ c. nat_eq c 46 ≡ false) l

pub bytes_same : (a b : Label) → a ≡ b → bytes_eq a b ≡ true
bytes_same a b e = (bytes_eq-Decides a b).1 e

pub bytes_differ : (a b : Label) → (a ≡ b → ⊥) → bytes_eq a b ≡ false
bytes_differ a b h = go (bytes_eq a b) refl
  where
    go : (c : Bool) → bytes_eq a b ≡ c → c ≡ false
    go true e = absurd (h ((bytes_eq-Decides a b).0 e))
    go false e = refl

pub bytes_flip : (a b : Label) → bytes_eq a b ≡ false → bytes_eq b a ≡ false
bytes_flip a b h = bytes_differ b a (λ e. let w : true ≡ false = sym ((bytes_eq-Decides a b).1 (sym e)) ∙ h in absurd (cc))

pub nat_flip : (g h : ℕ) → nat_eq g h ≡ false → nat_eq h g ≡ false
nat_flip g h e = nat_differ h g (λ s. let w : true ≡ false = sym (nat_same g h (sym s)) ∙ e in absurd (cc))

-- two truth values that hold together are one
one_truth : (a b : Bool) → (a ≡ true → b ≡ true) → (b ≡ true → a ≡ true) → a ≡ b
one_truth true true f g = refl
one_truth true false f g = sym (f refl)
one_truth false true f g = g refl
one_truth false false f g = refl

pub tail_same : {x : ℕ} {xs ys : Label} → x ∷ xs ≡ x ∷ ys → xs ≡ ys
tail_same e = cc

-- names of numbers, behind the same bytes, are one where the numbers are
pub numbered_apart : (f : Label → Label) → ((xs ys : Label) → f xs ≡ f ys → xs ≡ ys) → (j k : ℕ) → bytes_eq (f (number_text j)) (f (number_text k)) ≡ nat_eq j k
numbered_apart f inj j k =
    one_truth (bytes_eq (f (number_text j)) (f (number_text k))) (nat_eq j k)
    (λ e. nat_same j k (number_text_injective j k (inj (number_text j) (number_text k) ((bytes_eq-Decides (f (number_text j)) (f (number_text k))).0 e))))
    (λ e. bytes_same (f (number_text j)) (f (number_text k)) (ap (λ n. f (number_text n)) ((Decides-eqb j k).0 e)))

pub aliases_apart : (g h : ℕ) → bytes_eq (alias g) (alias h) ≡ nat_eq g h
unfolding alias
aliases_apart g h = numbered_apart (λ (t : Label). 120 ∷ t) (λ xs ys e. tail_same e) g h

pub not_let : (g : ℕ) → bytes_eq let_alias (alias g) ≡ false
unfolding let_alias alias
not_let g = refl

pub let_not : (g : ℕ) → bytes_eq (alias g) let_alias ≡ false
unfolding let_alias alias
let_not g = refl

pub own_let : bytes_eq let_alias let_alias ≡ true
unfolding let_alias
own_let = refl

both : (a b : Bool) → a ≡ true → b ≡ true → (a && b) ≡ true
both a b e f = ap₂ (λ x y. x && y) e f

pub both_true : (a b : Bool) → (a && b) ≡ true → (a ≡ true) × (b ≡ true)
both_true true b h = (refl, h)
both_true false b h = absurd (cc)

pub columns_apart : (g h : ℕ) (l m : Label) → bytes_eq (outer_column g l) (outer_column h m) ≡ (nat_eq g h && bytes_eq l m)
unfolding outer_column
columns_apart g h l m = one_truth (bytes_eq (120 ∷ (number_text g ++ 46 ∷ l)) (120 ∷ (number_text h ++ 46 ∷ m))) (nat_eq g h && bytes_eq l m) there back
  where
    there : bytes_eq (120 ∷ (number_text g ++ 46 ∷ l)) (120 ∷ (number_text h ++ 46 ∷ m)) ≡ true → (nat_eq g h && bytes_eq l m) ≡ true
    there e =
        let t = dot_splits (number_text g) (number_text h) l m (number_text_above g) (number_text_above h) (tail_same ((bytes_eq-Decides (120 ∷ (number_text g ++ 46 ∷ l)) (120 ∷ (number_text h ++ 46 ∷ m))).0 e)) in
        both (nat_eq g h) (bytes_eq l m) (nat_same g h (number_text_injective g h t.0)) (bytes_same l m t.1)

    back : (nat_eq g h && bytes_eq l m) ≡ true → bytes_eq (120 ∷ (number_text g ++ 46 ∷ l)) (120 ∷ (number_text h ++ 46 ∷ m)) ≡ true
    back e =
        let t = both_true (nat_eq g h) (bytes_eq l m) e in
        bytes_same (120 ∷ (number_text g ++ 46 ∷ l)) (120 ∷ (number_text h ++ 46 ∷ m)) (ap₂ (λ k (c : Label). 120 ∷ (number_text k ++ 46 ∷ c)) ((Decides-eqb g h).0 t.0) ((bytes_eq-Decides l m).0 t.1))

pub not_number : (g : ℕ) (l : Label) → bytes_eq (outer_column g l) number_name ≡ false
unfolding outer_column number_name
not_number g l = refl

pub number_not : (g : ℕ) (l : Label) → bytes_eq number_name (outer_column g l) ≡ false
unfolding outer_column number_name
number_not g l = refl

pub own_number : bytes_eq number_name number_name ≡ true
unfolding number_name
own_number = refl

pub withs_apart : (j k : ℕ) → bytes_eq (with_name j) (with_name k) ≡ nat_eq j k
unfolding with_name
withs_apart j k = numbered_apart (λ (t : Label). 113 ∷ 46 ∷ t) (λ xs ys e. tail_same (tail_same e)) j k

second_byte : {a b : ℕ} {xs ys : Label} → 113 ∷ 46 ∷ xs ≡ a ∷ b ∷ ys → 46 ≡ b
second_byte {b = b} {xs = xs} {ys = ys} e = let f : 46 ∷ xs ≡ b ∷ ys = cc in cc

-- a name without a dot is no name of a WITH query
pub with_not : (k : ℕ) (t : Label) → NoDot t → bytes_eq (with_name k) t ≡ false
unfolding with_name
with_not k [] h = refl
with_not k (a ∷ []) h = bytes_differ (113 ∷ 46 ∷ number_text k) (a ∷ []) (λ e. cc)
with_not k (a ∷ b ∷ t) h =
    bytes_differ (113 ∷ 46 ∷ number_text k) (a ∷ b ∷ t) (λ e. let g : nat_eq b 46 ≡ true = nat_same b 46 (sym (second_byte e)) in let w : true ≡ false = sym g ∙ h.1.0 in cc)

pub not_with : (k : ℕ) (t : Label) → NoDot t → bytes_eq t (with_name k) ≡ false
not_with k t h = bytes_flip (with_name k) t (with_not k t h)

pub with_dotted : (k : ℕ) → NoDot (with_name k) → ⊥
unfolding with_name
with_dotted k h = let e : true ≡ false = h.1.0 in cc

-- the columns of an answer differ in name
pub answers_apart : (j k : ℕ) → bytes_eq (answer_name j) (answer_name k) ≡ nat_eq j k
unfolding answer_name
answers_apart zero zero = refl
answers_apart zero (suc zero) = refl
answers_apart zero (suc (suc k)) = sym (nat_differ zero (suc (suc k)) (λ e. cc))
answers_apart (suc zero) zero = refl
answers_apart (suc zero) (suc zero) = refl
answers_apart (suc zero) (suc (suc k)) = sym (nat_differ (suc zero) (suc (suc k)) (λ e. cc))
answers_apart (suc (suc j)) zero = sym (nat_differ (suc (suc j)) zero (λ e. cc))
answers_apart (suc (suc j)) (suc zero) = sym (nat_differ (suc (suc j)) (suc zero) (λ e. cc))
answers_apart (suc (suc j)) (suc (suc k)) = numbered_apart (λ (t : Label). 99 ∷ t) (λ xs ys e. tail_same e) (suc j) (suc k) ∙ same_next (suc j) (suc k)
  where
    same_next : (a b : ℕ) → nat_eq a b ≡ nat_eq (suc a) (suc b)
    same_next a b = one_truth (nat_eq a b) (nat_eq (suc a) (suc b)) (λ e. nat_same (suc a) (suc b) (ap suc ((Decides-eqb a b).0 e))) (λ e. nat_same a b (let f : suc a ≡ suc b = (Decides-eqb (suc a) (suc b)).0 e in omega (arith, f)))

-- the name of an element column
pub later_answer : (place : ℕ) → 2 ≤ place → place < 2 ^ 64 → answer_name place ≡ 99 ∷ decimal (place - 1)
unfolding answer_name
later_answer zero h b = absurd (omega arith)
later_answer (suc zero) h b = absurd (omega arith)
later_answer (suc (suc k)) h b =
    let same : suc (suc k) - 1 ≡ suc k = omega arith in
    ap (λ (l : Label). 99 ∷ l) (number_text_decimal (suc k) (omega (arith, b)) ∙ ap decimal (sym same))
