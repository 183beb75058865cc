-- Types that are put at the end again and again, and cells of a row one by one.
use Rattle.std.proofs.Common.{◌≡◌, ℕ, zero, suc, ◌+◌, ◌-◌, ◌<◌, ◌≤◌, List, [], ◌∷◌, ◌++◌, refl, sym, ap, ap₂, ◌∙◌, replicate, append_assoc, length, map, fold, take, drop, get_or, arith}
use Rattle.std.proofs.lemmas.Grind.{fold-append}
use Rattle.std.proofs.lemmas.List.{map-append, replicate_more, take_all, length-drop}
use Rattle.std.proofs.Math.Seq.{take-suc}
use Rattle.std.proofs.Math.ListN.{drop_of_length-le}

pub repeat_more : {A : Type 0} (x : A) (all before more : List A) (n : ℕ) → all ≡ before
    ++ replicate n x → more ≡ all ++ x ∷ [] → more ≡ before ++ replicate (n + 1) x
repeat_more {A} x all before more n h e = e ∙ ap (λ (l : List A). l ++ x ∷ []) h
    ∙ append_assoc before (replicate n x) (x ∷ []) ∙ ap (λ (l : List A). before ++ l)
    (replicate_more n x)

-- behind the last cell of a row there is none
pub none_behind : {A : Type 0} (xs : List A) (n p : ℕ) → length xs ≤ p → []
    ≡ take n (drop (p + 1) xs)
none_behind {A} xs n p h = go n ∙ ap (take n) (sym (drop_of_length-le xs (omega (arith, h))))
  where
    go : (m : ℕ) → [] ≡ take m (let e : List A = [] in e)
    go zero = refl
    go (suc m) = refl

-- all that are left are as many as there are
pub all_behind : {A : Type 0} (xs : List A) (n m p : ℕ) → m ≡ length xs - (p + 1) → m ≤ n
    → take m (drop (p + 1) xs) ≡ take n (drop (p + 1) xs)
all_behind xs n m p is h =
    let long : length (drop (p + 1) xs) ≡ length xs - (p + 1) = length-drop (p + 1) xs in
    take_all m (drop (p + 1) xs) (omega (arith, long, is))
    ∙ sym (take_all n (drop (p + 1) xs) (omega (arith, long, is, h)))

-- what is fed first, and then more
pub fed_more : {A S : Type 0} (W : S → A → S) (s t : S) (xs ys : List A) → t ≡ fold W s xs
    → fold W t ys ≡ fold W s (xs ++ ys)
fed_more W s t xs ys e = ap (λ z. fold W z ys) e ∙ sym (fold-append W s xs ys)

-- one more of a list, by what is seen of it
pub seen_more : {A B : Type 0} (f : A → B) (before after : List A) (new : A) (xs : List B) (k : ℕ)
    (x d : B) → k < length xs → f new ≡ x → x ≡ get_or xs k d → after ≡ before ++ new ∷ []
    → map f before ≡ take k xs → map f after ≡ take (k + 1) xs
seen_more {A} {B} f before after new xs k x d within is at more h =
    let next : suc k ≡ k + 1 = omega arith in
    ap (map f) more
    ∙ map-append f before (new ∷ [])
    ∙ ap₂ (λ (l : List B) (y : B). l ++ y ∷ []) h (is ∙ at)
    ∙ sym (take-suc xs k d within)
    ∙ ap (λ n. take n xs) next

-- what is seen of an element of a list
pub seen_at : {A B : Type 0} (f : A → B) (xs items : List A) (k : ℕ) (r : A) (x : B) → items ≡ xs
    → r ≡ get_or items k r → k < length items → x ≡ f r → x ≡ get_or (map f xs) k (f r)
seen_at {A} {B} f xs items k r x same at within is = is ∙ ap f at ∙ go items k within
    ∙ ap (λ (l : List A). get_or (map f l) k (f r)) same
  where
    go : (ys : List A) (j : ℕ) → j < length ys → f (get_or ys j r) ≡ get_or (map f ys) j (f r)
    go [] j h = absurd (omega (arith, h))
    go (y ∷ ys) zero h = refl
    go (y ∷ ys) (suc j) h = go ys j (omega (arith, h))

pub seen_long : {A B : Type 0} (f : A → B) (xs : List A) → length (map f xs) ≡ length xs
seen_long f [] = refl
seen_long f (x ∷ xs) = ap suc (seen_long f xs)
