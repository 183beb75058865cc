-- Lists without a double, and parts of them.
use Rattle.std.proofs.Common.{◌≡◌, ◌≢◌, ℕ, zero, suc, List, [], ◌∷◌, ◌++◌, map, sym, subst, false, flat_map, nat_eq, get_or}
use Rattle.nq_ir.proofs.Equal.{nat_differ}
use Rattle.nq_model.specs.Orders.{AreDistinct}
use Rattle.std.specs.List.{AllByRecursion as Each}
pub use Rattle.nq_ir.specs.Among.{Among, first, later}

-- no number stands twice
abbrev pub Distinct : List ℕ → Type 0
Distinct [] = Unit {0}
Distinct (n ∷ ns) = Each (λ m. nat_eq n m ≡ false) ns × Distinct ns

each_differs : (n : ℕ) (ns : List ℕ) → Each (λ m. n ≢ m) ns → Each (λ m. nat_eq n m ≡ false) ns
each_differs n [] h = tt
each_differs n (m ∷ ns) h = (nat_differ n m h.0, each_differs n ns h.1)

pub distinct : (ns : List ℕ) → AreDistinct ns → Distinct ns
distinct [] h = tt
distinct (n ∷ ns) h = (each_differs n ns h.0, distinct ns h.1)

-- xs is ys with some elements left out
pub data Sub {A : Type 0} : List A → List A → Type 0 where
  ends : Sub [] []
  keeps : {x : A} {xs ys : List A} → Sub xs ys → Sub (x ∷ xs) (x ∷ ys)
  skips : {y : A} {xs ys : List A} → Sub xs ys → Sub xs (y ∷ ys)

pub sub_refl : {A : Type 0} (xs : List A) → Sub xs xs
sub_refl [] = ends
sub_refl (x ∷ xs) = keeps (sub_refl xs)

pub sub_none : {A : Type 0} (xs : List A) → Sub [] xs
sub_none [] = ends
sub_none (x ∷ xs) = skips (sub_none xs)

pub sub_before : {A : Type 0} (zs : List A) {xs ys : List A} → Sub xs ys → Sub xs (zs ++ ys)
sub_before [] s = s
sub_before (z ∷ zs) s = skips (sub_before zs s)

pub sub_append : {A : Type 0} {xs ys us vs : List A} → Sub xs ys → Sub us vs → Sub (xs ++ us) (ys ++ vs)
sub_append ends t = t
sub_append (keeps s) t = keeps (sub_append s t)
sub_append (skips s) t = skips (sub_append s t)

pub sub_left : {A : Type 0} (xs ys : List A) → Sub xs (xs ++ ys)
sub_left [] ys = sub_none ys
sub_left (x ∷ xs) ys = keeps (sub_left xs ys)

pub sub_right : {A : Type 0} (xs ys : List A) → Sub ys (xs ++ ys)
sub_right xs ys = sub_before xs (sub_refl ys)

pub each_sub : {A : Type 0} (P : A → Type 0) {xs ys : List A} → Sub xs ys → Each P ys → Each P xs
each_sub P ends e = tt
each_sub P (keeps s) e = (e.0, each_sub P s e.1)
each_sub P (skips s) e = each_sub P s e.1

pub distinct_sub : {xs ys : List ℕ} → Sub xs ys → Distinct ys → Distinct xs
distinct_sub ends d = tt
distinct_sub (keeps {x = x} s) d = (each_sub (λ m. nat_eq x m ≡ false) s d.0, distinct_sub s d.1)
distinct_sub (skips s) d = distinct_sub s d.1

pub sub_trans : {A : Type 0} {xs ys zs : List A} → Sub xs ys → Sub ys zs → Sub xs zs
sub_trans s ends = s
sub_trans s (skips t) = skips (sub_trans s t)
sub_trans s (keeps t) = go s (λ us r. sub_trans r t)
  where
    go : {A : Type 0} {x : A} {xs ys zs : List A} → Sub xs (x ∷ ys) → ((us : List A) → Sub us ys → Sub us zs) → Sub xs (x ∷ zs)
    go (keeps {xs = us} s) f = keeps (f us s)
    go {xs = xs} (skips s) f = skips (f xs s)

pub sub_flat : {A B : Type 0} (f g : A → List B) → ((x : A) → Sub (f x) (g x)) → (xs : List A) → Sub (flat_map f xs) (flat_map g xs)
sub_flat f g h [] = ends
sub_flat f g h (x ∷ xs) = sub_append (h x) (sub_flat f g h xs)

-- one of the mapped lists
pub sub_one : {A B : Type 0} (f : A → List B) (xs : List A) (s : ℕ) (d : A) → f d ≡ [] → Sub (f (get_or xs s d)) (flat_map f xs)
sub_one f [] s d e = subst (λ (l : List _). Sub l []) (sym e) ends
sub_one f (x ∷ xs) zero d e = sub_left (f x) (flat_map f xs)
sub_one f (x ∷ xs) (suc s) d e = sub_before (f x) (sub_one f xs s d e)

-- two lists with no number in common
abbrev pub Apart : List ℕ → List ℕ → Type 0
Apart xs ys = Each (λ x. Each (λ y. nat_eq x y ≡ false) ys) xs

pub each_left : {A : Type 0} (P : A → Type 0) (xs ys : List A) → Each P (xs ++ ys) → Each P xs
each_left P xs ys e = each_sub P (sub_left xs ys) e

pub each_right : {A : Type 0} (P : A → Type 0) (xs ys : List A) → Each P (xs ++ ys) → Each P ys
each_right P xs ys e = each_sub P (sub_right xs ys) e

pub each_join : {A : Type 0} (P : A → Type 0) (xs ys : List A) → Each P xs → Each P ys → Each P (xs ++ ys)
each_join P [] ys d e = e
each_join P (x ∷ xs) ys d e = (d.0, each_join P xs ys d.1 e)

pub distinct_apart : (xs ys : List ℕ) → Distinct (xs ++ ys) → Apart xs ys
distinct_apart [] ys d = tt
distinct_apart (x ∷ xs) ys d = (each_right (λ m. nat_eq x m ≡ false) xs ys d.0, distinct_apart xs ys d.1)

pub each_among : {A : Type 0} (P : A → Type 0) {x : A} {xs : List A} → Among x xs → Each P xs → P x
each_among P first e = e.0
each_among P (later m) e = each_among P m e.1

pub among_left : {A : Type 0} {x : A} {xs : List A} (ys : List A) → Among x xs → Among x (xs ++ ys)
among_left ys first = first
among_left ys (later m) = later (among_left ys m)

pub among_right : {A : Type 0} {x : A} {ys : List A} (xs : List A) → Among x ys → Among x (xs ++ ys)
among_right [] m = m
among_right (x ∷ xs) m = later (among_right xs m)

pub among_map : {A B : Type 0} (f : A → B) {x : A} {xs : List A} → Among x xs → Among (f x) (map f xs)
among_map f first = first
among_map f (later m) = later (among_map f m)
