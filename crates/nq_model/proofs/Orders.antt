-- Laws of sorting by a comparison, and of labels in byte order.
use Rattle.std.proofs.Common.{◌≡◌, ℕ, suc, ◌<◌, ◌≤◌, List, [], ◌∷◌, map, refl, sym, ap, ◌∙◌, subst, Bool, true, false, cond, length, arith, true≢false, zip, zero, get_or, insert, ap₂, ◌+◌, ◌-◌, All}
use Rattle.std.specs.declared.cmp.Ordering.{Ordering}
use Rattle.std.specs.declared.cmp.Ordering.TheVariants.{Less, Equal, Greater}
use Rattle.std.specs.Ordering.{is_gt, ordering_reverse}
use Rattle.std.specs.Cmp.{IsTotalOrder, upto}
use Rattle.std.specs.List.{AllByRecursion as Each, range_with_len}
use Rattle.std.proofs.lemmas.List.Elements.{All-cons}
use Rattle.std.proofs.lemmas.List.Sorted.{All-permutation, IsPermutation-insert}
use Rattle.nq_model.specs.Bags.{Pick, here, there, Reordered}
use Rattle.nq_model.specs.Orders.{put_by, sorted_by, label_cmp, label_at, place_cmp, label_order, by_label}

-- a comparison by which two elements tie only where they are one
pub record IsStrictOrder {A : Type 0} (cmp : A → A → Ordering) : Type 0 where
  pub total : IsTotalOrder cmp
  pub ties : (x y : A) → cmp x y ≡ Equal → x ≡ y

-- each element is not above the next
abbrev pub Ascends : {A : Type 0} → (A → A → Ordering) → List A → Type 0
Ascends cmp [] = Unit {0}
Ascends cmp (x ∷ xs) = Each (λ y. is_gt (cmp x y) ≡ false) xs × Ascends cmp xs

reversed : (r : Ordering) → is_gt r ≡ true → ordering_reverse r ≡ Less
reversed Less e = absurd (true≢false (sym e))
reversed Equal e = absurd (true≢false (sym e))
reversed Greater e = refl

neither : (r s : Ordering) → s ≡ ordering_reverse r → is_gt r ≡ false → is_gt s ≡ false → r ≡ Equal
neither Less s e h k = absurd (true≢false (sym (ap is_gt e) ∙ k))
neither Equal s e h k = refl
neither Greater s e h k = absurd (true≢false h)

module _ {A : Type 0} (cmp : A → A → Ordering) (o : IsStrictOrder cmp) where
  -- where x is above y, y is below x
  above : (x y : A) → is_gt (cmp x y) ≡ true → is_gt (cmp y x) ≡ false
  above x y e = ap is_gt (o.total.antisymm y x ∙ reversed (cmp x y) e)

  -- neither is above the other only where they are one
  same_rank : (x y : A) → is_gt (cmp x y) ≡ false → is_gt (cmp y x) ≡ false → x ≡ y
  same_rank x y h k = o.ties x y (neither (cmp x y) (cmp y x) (o.total.antisymm y x) h k)

  -- x is not above z, and y is: so y is above x
  between : (x y z : A) → is_gt (cmp x z) ≡ false → is_gt (cmp y z) ≡ true → is_gt (cmp y x) ≡ true
  between x y z h k = by (is_gt (cmp y x)) refl
    where
      by : (b : Bool) → is_gt (cmp y x) ≡ b → b ≡ true
      by true e = refl
      by false e = absurd (true≢false (sym k ∙ upto o.total y x z e h))

  -- what is put where: by the two tests
  put_by_cases : (x y : A) (ys : List A) (b : Bool) → is_gt (cmp x y) ≡ b → put_by cmp x (y ∷ ys) ≡ cond b (y ∷ put_by cmp x ys) (x ∷ y ∷ ys)
  put_by_cases x y ys b e = ap (λ c. cond c (y ∷ put_by cmp x ys) (x ∷ y ∷ ys)) e

  -- two elements may be put in either order
  pub put_twice : (x y : A) (zs : List A) → put_by cmp x (put_by cmp y zs) ≡ put_by cmp y (put_by cmp x zs)
  put_twice x y [] = ends (is_gt (cmp x y)) (is_gt (cmp y x)) refl refl
    where
      ends : (a b : Bool) → is_gt (cmp x y) ≡ a → is_gt (cmp y x) ≡ b → put_by cmp x (y ∷ []) ≡ put_by cmp y (x ∷ [])
      ends true true p q = absurd (true≢false (sym q ∙ above x y p))
      ends true false p q = put_by_cases x y [] true p ∙ sym (put_by_cases y x [] false q)
      ends false true p q = put_by_cases x y [] false p ∙ sym (put_by_cases y x [] true q)
      ends false false p q =
          let one : x ≡ y = same_rank x y p q in
          ap (λ z. put_by cmp z (y ∷ [])) one ∙ ap (λ z. put_by cmp y (z ∷ [])) (sym one)
  put_twice x y (z ∷ zs) = go (is_gt (cmp x z)) (is_gt (cmp y z)) refl refl (put_twice x y zs)
    where
      both_here : (a b : Bool) → is_gt (cmp x y) ≡ a → is_gt (cmp y x) ≡ b → is_gt (cmp x z) ≡ false → is_gt (cmp y z) ≡ false → put_by cmp x (y ∷ z ∷ zs) ≡ put_by cmp y (x ∷ z ∷ zs)
      both_here true true p q h k = absurd (true≢false (sym q ∙ above x y p))
      both_here true false p q h k =
          put_by_cases x y (z ∷ zs) true p ∙ ap (λ (l : List A). y ∷ l) (put_by_cases x z zs false h) ∙ sym (put_by_cases y x (z ∷ zs) false q)
      both_here false true p q h k =
          put_by_cases x y (z ∷ zs) false p ∙ sym (put_by_cases y x (z ∷ zs) true q ∙ ap (λ (l : List A). x ∷ l) (put_by_cases y z zs false k))
      both_here false false p q h k =
          let one : x ≡ y = same_rank x y p q in
          ap (λ w. put_by cmp w (y ∷ z ∷ zs)) one ∙ ap (λ w. put_by cmp y (w ∷ z ∷ zs)) (sym one)

      go : (a b : Bool) → is_gt (cmp x z) ≡ a → is_gt (cmp y z) ≡ b → put_by cmp x (put_by cmp y zs) ≡ put_by cmp y (put_by cmp x zs) → put_by cmp x (put_by cmp y (z ∷ zs)) ≡ put_by cmp y (put_by cmp x (z ∷ zs))
      go true true h k later =
          ap (put_by cmp x) (put_by_cases y z zs true k) ∙ put_by_cases x z (put_by cmp y zs) true h
          ∙ ap (λ (l : List A). z ∷ l) later
          ∙ sym (ap (put_by cmp y) (put_by_cases x z zs true h) ∙ put_by_cases y z (put_by cmp x zs) true k)
      go true false h k later =
          ap (put_by cmp x) (put_by_cases y z zs false k) ∙ put_by_cases x y (z ∷ zs) true (between y x z k h)
          ∙ ap (λ (l : List A). y ∷ l) (put_by_cases x z zs true h)
          ∙ sym (ap (put_by cmp y) (put_by_cases x z zs true h) ∙ put_by_cases y z (put_by cmp x zs) false k)
      go false true h k later =
          ap (put_by cmp x) (put_by_cases y z zs true k) ∙ put_by_cases x z (put_by cmp y zs) false h
          ∙ sym (ap (put_by cmp y) (put_by_cases x z zs false h) ∙ put_by_cases y x (z ∷ zs) true (between x y z h k) ∙ ap (λ (l : List A). x ∷ l) (put_by_cases y z zs true k))
      go false false h k later =
          ap (put_by cmp x) (put_by_cases y z zs false k)
          ∙ both_here (is_gt (cmp x y)) (is_gt (cmp y x)) refl refl h k
          ∙ sym (ap (put_by cmp y) (put_by_cases x z zs false h))

  -- an element that is picked may be put last
  pub sorted_pick : {y : A} {ys rest : List A} → Pick y ys rest → sorted_by cmp ys ≡ put_by cmp y (sorted_by cmp rest)
  sorted_pick here = refl
  sorted_pick {y = y} (there {z = z} {rest = rest} p) = ap (put_by cmp z) (sorted_pick p) ∙ put_twice z y (sorted_by cmp rest)

  -- the order in which elements come does not matter
  pub sorted_reordered : (xs ys : List A) → Reordered xs ys → sorted_by cmp xs ≡ sorted_by cmp ys
  sorted_reordered [] ys m = ap (sorted_by cmp) (sym m)
  sorted_reordered (x ∷ xs) ys m =
      ap (put_by cmp x) (sorted_reordered xs m.1 m.4) ∙ ap (λ z. put_by cmp z (sorted_by cmp m.1)) m.3 ∙ sym (sorted_pick m.2)

-- what stands in order is sorted already
pub sorted_ascending : {A : Type 0} (cmp : A → A → Ordering) (xs : List A) → Ascends cmp xs → sorted_by cmp xs ≡ xs
sorted_ascending cmp [] up = refl
sorted_ascending {A} cmp (x ∷ xs) up = ap (put_by cmp x) (sorted_ascending cmp xs up.1) ∙ first xs up.0
  where
    first : (ys : List A) → Each (λ y. is_gt (cmp x y) ≡ false) ys → put_by cmp x ys ≡ x ∷ ys
    first [] low = refl
    first (y ∷ ys) low = ap (λ c. cond c (y ∷ put_by cmp x ys) (x ∷ y ∷ ys)) low.0

-- a list that is in order, and has the elements of another, is that one sorted
pub sorted_is : {A : Type 0} (cmp : A → A → Ordering) → IsStrictOrder cmp → (xs ys : List A) → Reordered xs ys → Ascends cmp ys → sorted_by cmp xs ≡ ys
sorted_is cmp o xs ys m up = sorted_reordered cmp o xs ys m ∙ sorted_ascending cmp ys up

-- sorting by what a function gives
pub put_mapped : {A B : Type 0} (f : A → B) (by : A → A → Ordering) (cmp : B → B → Ordering) → ((x y : A) → cmp (f x) (f y) ≡ by x y)
    → (x : A) (ys : List A) → put_by cmp (f x) (map f ys) ≡ map f (put_by by x ys)
put_mapped f by cmp same x [] = refl
put_mapped {A} {B} f by cmp same x (y ∷ ys) =
    ap (λ r. cond (is_gt r) (f y ∷ put_by cmp (f x) (map f ys)) (f x ∷ f y ∷ map f ys)) (same x y)
    ∙ ap (λ (l : List B). cond (is_gt (by x y)) (f y ∷ l) (f x ∷ f y ∷ map f ys)) (put_mapped f by cmp same x ys)
    ∙ either (is_gt (by x y)) (y ∷ put_by by x ys) (x ∷ y ∷ ys)
  where
    either : (b : Bool) (us vs : List A) → cond b (map f us) (map f vs) ≡ map f (cond b us vs)
    either true us vs = refl
    either false us vs = refl

pub sorted_mapped : {A B : Type 0} (f : A → B) (by : A → A → Ordering) (cmp : B → B → Ordering) → ((x y : A) → cmp (f x) (f y) ≡ by x y)
    → (xs : List A) → sorted_by cmp (map f xs) ≡ map f (sorted_by by xs)
sorted_mapped f by cmp same [] = refl
sorted_mapped f by cmp same (x ∷ xs) =
    ap (put_by cmp (f x)) (sorted_mapped f by cmp same xs) ∙ put_mapped f by cmp same x (sorted_by by xs)

-- one more place, put where it belongs
pub places_more : (cmp : ℕ → ℕ → Ordering) (p n at : ℕ) (order more : List ℕ) → 0 < p → p ≤ n → more ≡ insert order at (p - 1)
    → insert order at (p - 1) ≡ put_by cmp (p - 1) order → order ≡ sorted_by cmp (range_with_len p (n - p))
    → more ≡ sorted_by cmp (range_with_len (p - 1) (n - (p - 1)))
places_more cmp p n at order more some within is put known =
    let count : n - (p - 1) ≡ suc (n - p) = omega arith in
    let next : (p - 1) + 1 ≡ p = omega arith in
    rw (count, next) (is ∙ put ∙ ap (put_by cmp (p - 1)) known)

-- a fact of each element stays with one more
pub All-inserted : {A : Type 0} (P : A → Type 0) (xs more : List A) (at : ℕ) (x : A) → more ≡ insert xs at x → P x → All P xs → All P more
All-inserted P xs more at x is holds all =
    let Q : List _ → Type 0 = λ ys. All P ys in
    subst Q (sym is) (All-permutation P (x ∷ xs) (insert xs at x) (IsPermutation-insert xs at x) (All-cons P x xs holds all))

-- the label at a place, with what stands beside it
abbrev pub pair_at : {X : Type 0} → X → List (List ℕ) → List X → ℕ → List ℕ × X
pair_at d labels xs i = (label_at labels i, get_or xs i d)

-- what stands beside labels, arranged by the order of their labels
zip_places : {X : Type 0} (d : X) (labels : List (List ℕ)) (xs : List X) → length xs ≡ length labels
    → zip labels xs ≡ map (pair_at d labels xs) (range_with_len 0 (length labels))
zip_places d [] [] e = refl
zip_places d [] (x ∷ xs) e = absurd (omega (arith, e))
zip_places d (l ∷ labels) [] e = absurd (omega (arith, e))
zip_places {X} d (l ∷ labels) (x ∷ xs) e =
    ap (λ (ps : List (List ℕ × X)). (l, x) ∷ ps) (zip_places d labels xs (omega (arith, e)) ∙ later (length labels) 0)
  where
    later : (n k : ℕ) → map (pair_at d labels xs) (range_with_len k n) ≡ map (pair_at d (l ∷ labels) (x ∷ xs)) (range_with_len (k + 1) n)
    later zero k = refl
    later (suc n) k =
        let same : k + 1 ≡ suc k = omega arith in
        let P : ℕ → Type 0 = λ j. pair_at d labels xs k ≡ pair_at d (l ∷ labels) (x ∷ xs) j in
        let first : P (k + 1) = subst P (sym same) refl in
        ap₂ (λ p (ps : List (List ℕ × X)). p ∷ ps) first (later n (k + 1))

pub by_label_arranged : {X : Type 0} (d : X) (labels : List (List ℕ)) (xs : List X) → length xs ≡ length labels
    → by_label (zip labels xs) ≡ map (pair_at d labels xs) (label_order labels)
by_label_arranged d labels xs e =
    ap by_label (zip_places d labels xs e)
    ∙ sorted_mapped (pair_at d labels xs) (place_cmp labels) (λ f g. label_cmp f.0 g.0) (λ i j. refl) (range_with_len 0 (length labels))
