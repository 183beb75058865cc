-- Elements told apart: by what they are told apart, and which of them a test keeps.
use Rattle.std.proofs.Common.{◌≡◌, ◌≢◌, List, [], ◌∷◌, ◌++◌, map, refl, sym, ap, ap₂, ◌∙◌, Bool, true, false, cond, filter, flat_map}
use Rattle.std.specs.Prelude.{Decides}
use Rattle.std.specs.List.{AllByRecursion as Each}
use Rattle.std.proofs.lemmas.List.Elements.{filter-append}
use Rattle.nq_model.specs.Orders.{AreDistinct}
use Rattle.nq_model.proofs.Numberings.{each_map}
use Rattle.nq_ir.specs.Among.{Among, first, later}
use Rattle.nq_ir.proofs.Distinct.{each_among, each_join}
use Rattle.nq_ir.proofs.Nested.{each_mapped}
use Rattle.nq_ir.proofs.Spots.{each_filter}

-- R holds of each element with each later one
abbrev pub EachLater : {A : Type 0} → (A → A → Type 0) → List A → Type 0
EachLater R [] = Unit {0}
EachLater R (x ∷ xs) = Each (R x) xs × EachLater R xs

-- no two elements have one key
abbrev pub Differ : {A K : Type 0} → (A → K) → List A → Type 0
Differ key xs = EachLater (λ x y. key x ≢ key y) xs

each_unmapped : {A B : Type 0} (f : A → B) (Q : B → Type 0) (xs : List A) → Each Q (map f xs)
    → Each (λ x. Q (f x)) xs
each_unmapped f Q [] e = tt
each_unmapped f Q (x ∷ xs) e = (e.0, each_unmapped f Q xs e.1)

pub distinct_differ : {A K : Type 0} (key : A → K) (xs : List A) → AreDistinct (map key xs)
    → Differ key xs
distinct_differ key [] d = tt
distinct_differ key (x ∷ xs) d = (
  each_unmapped key (λ k. key x ≢ k) xs d.0,
  distinct_differ key xs d.1,
)

pub later_mapped : {A B : Type 0} (g : A → B) (Q : A → A → Type 0) (R : B → B → Type 0)
    → ((x y : A) → Q x y → R (g x) (g y)) → (xs : List A) → EachLater Q xs → EachLater R (map g xs)
later_mapped g Q R t [] h = tt
later_mapped g Q R t (x ∷ xs) h = (
  each_mapped g (Q x) (R (g x)) (λ y q. t x y q) xs h.0,
  later_mapped g Q R t xs h.1,
)

pub later_weaker : {A : Type 0} (Q R : A → A → Type 0) → ((x y : A) → Q x y → R x y) → (xs : List A)
    → EachLater Q xs → EachLater R xs
later_weaker Q R t [] h = tt
later_weaker Q R t (x ∷ xs) h = (
  each_map (Q x) (R x) (λ y q. t x y q) xs h.0,
  later_weaker Q R t xs h.1,
)

later_joined : {A : Type 0} (R : A → A → Type 0) (xs ys : List A) → EachLater R xs → EachLater R ys
    → Each (λ x. Each (R x) ys) xs → EachLater R (xs ++ ys)
later_joined R [] ys h k c = k
later_joined R (x ∷ xs) ys h k c = (each_join (R x) xs ys h.0 c.0, later_joined R xs ys h.1 k c.1)

each_under : {A B : Type 0} (P : A → Type 0) (Q : B → Type 0) (f : A → List B)
    → ((x : A) → P x → Each Q (f x)) → (xs : List A) → Each P xs → Each Q (flat_map f xs)
each_under P Q f h [] e = tt
each_under P Q f h (x ∷ xs) e = each_join Q (f x) (flat_map f xs) (h x e.0)
    (each_under P Q f h xs e.1)

-- one element of each of two lists against the later lists
across : {A B : Type 0} (Q : A → A → Type 0) (R : B → B → Type 0) (f : A → List B)
    → ((x y : A) → Q x y → Each (λ u. Each (R u) (f y)) (f x)) → (x : A) (xs : List A)
    → Each (Q x) xs → (us : List B) → ((y : A) → Q x y → Each (λ u. Each (R u) (f y)) us)
    → Each (λ u. Each (R u) (flat_map f xs)) us
across Q R f t x xs e [] h = tt
across Q R f t x xs e (u ∷ us) h = (
  each_under (Q x) (R u) f (λ y q. (h y q).0) xs e,
  across Q R f t x xs e us (λ y q. (h y q).1),
)

pub later_flat : {A B : Type 0} (Q : A → A → Type 0) (R : B → B → Type 0) (f : A → List B)
    → ((x : A) → EachLater R (f x)) → ((x y : A) → Q x y → Each (λ u. Each (R u) (f y)) (f x))
    → (xs : List A) → EachLater Q xs → EachLater R (flat_map f xs)
later_flat Q R f own t [] h = tt
later_flat Q R f own t (x ∷ xs) h = later_joined R (f x) (flat_map f xs) (own x)
    (later_flat Q R f own t xs h.1) (across Q R f t x xs h.0 (f x) (λ y q. t x y q))

pub later_filter : {A : Type 0} (R : A → A → Type 0) (p : A → Bool) (xs : List A) → EachLater R xs
    → EachLater R (filter p xs)
later_filter R p [] h = tt
later_filter R p (x ∷ xs) h = go (p x) (later_filter R p xs h.1)
  where
    go : (b : Bool) → EachLater R (filter p xs) → EachLater R
        (cond b (x ∷ filter p xs) (filter p xs))
    go true k = (each_filter (R x) p xs h.0, k)
    go false k = k

pub none_kept : {A : Type 0} (p : A → Bool) (xs : List A) → Each (λ x. p x ≡ false) xs → filter p xs
    ≡ []
none_kept p [] h = refl
none_kept p (x ∷ xs) h = ap (λ b. cond b (x ∷ filter p xs) (filter p xs)) h.0 ∙ none_kept p xs h.1

not_so : (b : Bool) (P : Type 0) → Decides b P → (P → ⊥) → b ≡ false
not_so true P d n = absurd (n (d.0 refl))
not_so false P d n = refl

-- a test for the key of an element keeps that element alone
pub filter_one : {A K : Type 0} (key : A → K) (p : A → Bool) (e : A)
    → ((x : A) → Decides (p x) (key x ≡ key e)) → (xs : List A) → Differ key xs → Among e xs
    → filter p xs ≡ e ∷ []
filter_one key p e d [] h m = elim m [ ]
filter_one {K = K} key p e d (x ∷ xs) h first =
    let others : filter p xs ≡ [] = none_kept p xs (each_map (λ y. key e ≢ key y) (λ y. p y ≡ false)
    (λ y n. not_so (p y) (key y ≡ key e) (d y) (λ q. n (sym q))) xs h.0) in
    ap (λ b. cond b (e ∷ filter p xs) (filter p xs)) ((d e).1 refl)
    ∙ ap (λ (l : List _). e ∷ l) others
filter_one key p e d (x ∷ xs) h (later m) =
    ap (λ b. cond b (x ∷ filter p xs) (filter p xs)) (not_so (p x) (key x ≡ key e) (d x)
    (each_among (λ y. key x ≢ key y) m h.0))
    ∙ filter_one key p e d xs h.1 m

-- where a test of the elements under x is one of x, it keeps all elements under those that are kept
pub filter_under : {A B : Type 0} (p : B → Bool) (q : A → Bool) (f : A → List B) (xs : List A)
    → Each (λ x. Each (λ y. p y ≡ q x) (f x)) xs → filter p (flat_map f xs)
    ≡ flat_map f (filter q xs)
filter_under p q f [] h = refl
filter_under p q f (x ∷ xs) h =
    filter-append p (f x) (flat_map f xs) ∙ ap₂ (λ (a b : List _). a ++ b)
    (all_or_none (q x) (f x) h.0) (filter_under p q f xs h.1) ∙ go (q x)
  where
    all_or_none : (b : Bool) (ys : List _) → Each (λ y. p y ≡ b) ys → filter p ys ≡ cond b ys []
    all_or_none true [] e = refl
    all_or_none false [] e = refl
    all_or_none true (y ∷ ys) e = ap (λ b. cond b (y ∷ filter p ys) (filter p ys)) e.0
        ∙ ap (λ (l : List _). y ∷ l) (all_or_none true ys e.1)
    all_or_none false (y ∷ ys) e = ap (λ b. cond b (y ∷ filter p ys) (filter p ys)) e.0
        ∙ all_or_none false ys e.1

    go : (b : Bool) → cond b (f x) [] ++ flat_map f (filter q xs)
        ≡ flat_map f (cond b (x ∷ filter q xs) (filter q xs))
    go true = refl
    go false = refl

pub filter_mapped : {A B : Type 0} (p : B → Bool) (f : A → B) (xs : List A) → filter p (map f xs)
    ≡ map f (filter (λ x. p (f x)) xs)
filter_mapped p f [] = refl
filter_mapped p f (x ∷ xs) = go (p (f x)) (filter_mapped p f xs)
  where
    go : (b : Bool) → filter p (map f xs) ≡ map f (filter (λ x. p (f x)) xs)
        → cond b (f x ∷ filter p (map f xs)) (filter p (map f xs))
        ≡ map f (cond b (x ∷ filter (λ x. p (f x)) xs) (filter (λ x. p (f x)) xs))
    go true h = ap (λ (l : List _). f x ∷ l) h
    go false h = h
