-- The number of a parent's let, found among numbers that rise.
use Rattle.std.proofs.Common.{◌≡◌, ℕ, zero, suc, ◌<◌, ◌≤◌, ◌+◌, List, [], ◌∷◌, map, length, get_or, refl, sym, ap, ◌∙◌, subst, cond, arith, ⊎_elim, ◌⊎◌, inl, inr}
use Rattle.std.specs.List.{AllByRecursion as Each}
use Rattle.nq_ir.proofs.Equal.{nat_differ, nat_same}
use Rattle.nq_ir.specs.Lets.{LetTree, let_number, lets_before}
use Rattle.nq_ir.specs.Shredded.{IsRising}

each_far : (n : ℕ) (ns : List ℕ) → Each (λ m. n < m) ns → (k : ℕ) → k < length ns → n ≤ get_or ns k 0
each_far n [] e k h = absurd (omega (arith, h))
each_far n (m ∷ ns) e zero h = let l : n < m = e.0 in omega (arith, l)
each_far n (m ∷ ns) e (suc k) h = each_far n ns e.1 k (omega (arith, h))

-- numbers that rise do not fall
pub rising_far : (ns : List ℕ) → IsRising ns → (i j : ℕ) → i ≤ j → j < length ns → get_or ns i 0 ≤ get_or ns j 0
rising_far [] r i j le h = absurd (omega (arith, h))
rising_far (n ∷ ns) r zero zero le h = omega arith
rising_far (n ∷ ns) r zero (suc j) le h = each_far n ns r.0 j (omega (arith, h))
rising_far (n ∷ ns) r (suc i) zero le h = absurd (omega (arith, le))
rising_far (n ∷ ns) r (suc i) (suc j) le h = rising_far ns r.1 i j (omega (arith, le)) (omega (arith, h))

-- no parent is t
absent_before : (t : ℕ) (lets : List LetTree) → ((k : ℕ) → k < length lets → (t ≡ get_or (map (λ l. l.parent) lets) k 0 → ⊥)) → lets_before t lets ≡ length lets
absent_before t [] h = refl
absent_before t (l ∷ lets) h =
    ap (λ b. cond b 0 (suc (lets_before t lets))) (nat_differ t l.parent (h 0 (omega arith)))
    ∙ ap suc (absent_before t lets (λ k b. h (suc k) (omega (arith, b))))

each_above : (n : ℕ) (ns : List ℕ) → Each (λ m. n < m) ns → (k : ℕ) → k < length ns → n < get_or ns k 0
each_above n [] e k h = absurd (omega (arith, h))
each_above n (m ∷ ns) e zero h = e.0
each_above n (m ∷ ns) e (suc k) h = each_above n ns e.1 k (omega (arith, h))

-- the let at i has the parent t, and the parents rise
found_before : (t : ℕ) (lets : List LetTree) → IsRising (map (λ l. l.parent) lets) → (i : ℕ) → i < length (map (λ (l : LetTree). l.parent) lets) → get_or (map (λ l. l.parent) lets) i 0 ≡ t → lets_before t lets ≡ i
found_before t [] r i h e = absurd (omega (arith, h))
found_before t (l ∷ lets) r zero h e = ap (λ b. cond b 0 (suc (lets_before t lets))) (nat_same t l.parent (sym e))
found_before t (l ∷ lets) r (suc i) h e =
    let above : l.parent < get_or (map (λ l. l.parent) lets) i 0 = each_above l.parent (map (λ l. l.parent) lets) r.0 i (omega (arith, h)) in
    ap (λ b. cond b 0 (suc (lets_before t lets))) (nat_differ t l.parent (λ (q : t ≡ l.parent). absurd (omega (arith, q, e, above))))
    ∙ ap suc (found_before t lets r.1 i (omega (arith, h)) e)

number_is : (t : ℕ) (lets : List LetTree) (n : ℕ) → (t ≡ 0 → ⊥) → lets_before t lets ≡ n → n + 1 ≡ let_number lets t
number_is zero lets n h e = absurd (h refl)
number_is (suc t) lets n h e = let one : n + 1 ≡ suc n = omega arith in one ∙ ap suc (sym e)

pub number_found : (t : ℕ) (ns : List ℕ) → IsRising ns → (t ≡ 0 → ⊥) → (i : ℕ) → i < length ns → get_or ns i 0 ≡ t → (lets : List LetTree) → map (λ l. l.parent) lets ≡ ns → i + 1 ≡ let_number lets t
number_found t ns r n i h e lets p =
    number_is t lets i n (found_before t lets (subst IsRising (sym p) r) i (subst (λ (z : List ℕ). i < length z) (sym p) h) (ap (λ (z : List ℕ). get_or z i 0) p ∙ e))

length_parents : (lets : List LetTree) → length (map (λ (l : LetTree). l.parent) lets) ≡ length lets
length_parents [] = refl
length_parents (l ∷ lets) = ap suc (length_parents lets)

pub number_absent : (t : ℕ) (ns : List ℕ) → (t ≡ 0 → ⊥) → (i : ℕ) → ((k : ℕ) → k < i → get_or ns k 0 < t) → ((k : ℕ) → i ≤ k → k < length ns → t < get_or ns k 0) → (lets : List LetTree) → map (λ l. l.parent) lets ≡ ns → length ns + 1 ≡ let_number lets t
number_absent t ns n i low high lets p =
    number_is t lets (length ns) n (absent_before t lets (λ k b q. differs k (subst (λ m. k < m) (sym (length_parents lets) ∙ ap length p) b) (q ∙ ap (λ (z : List ℕ). get_or z k 0) p)) ∙ sym (length_parents lets) ∙ ap length p)
  where
    differs : (k : ℕ) → k < length ns → t ≡ get_or ns k 0 → ⊥
    differs k b q = ⊎_elim (λ (l : k < i). let x : get_or ns k 0 < t = low k l in absurd (omega (arith, x, q))) (λ (l : i ≤ k). let x : t < get_or ns k 0 = high k l b in absurd (omega (arith, x, q))) (either k i)
      where
        either : (x y : ℕ) → (x < y) ⊎ (y ≤ x)
        either zero zero = inr (omega arith)
        either zero (suc y) = inl (omega arith)
        either (suc x) zero = inr (omega arith)
        either (suc x) (suc y) = ⊎_elim (λ (l : x < y). inl (omega (arith, l))) (λ (l : y ≤ x). inr (omega (arith, l))) (either x y)
