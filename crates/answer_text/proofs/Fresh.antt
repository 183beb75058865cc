-- Where places stand in the order of their indexes, a run's index is new.
use Rattle.std.proofs.Common.{◌≡◌, ℕ, ℤ, suc, ◌+◌, ◌-◌, ◌<◌, ◌≤◌, List, [], ◌∷◌, ◌++◌, refl, sym, ap, ap₂, ◌∙◌, subst, Bool, true, false, filter, get_or, length, take, drop, slice_range, All, arith, true≢false, length-take, min}
use Rattle.std.specs.List.{AllByRecursion as Each}
use Rattle.std.specs.List.Sorted.{IsSortedByKey}
use Rattle.std.specs.Ordering.{is_lt, int_cmp, ordering_then, ordering_reverse}
use Rattle.std.specs.declared.cmp.Ordering.{Ordering}
use Rattle.std.specs.declared.cmp.Ordering.TheVariants.{Less, Equal, Greater}
use Rattle.std.specs.Cmp.{IsTotalOrder, then_total, on_total, int_cmp_total}
use Rattle.std.proofs.lemmas.List.{get_or-take}
use Rattle.std.proofs.lemmas.List.Sorted.{sorted_far, ranks_by}
use Rattle.nq_model.specs.Operators.{int_of}
use Rattle.nq_model.specs.declared.table.Cell.{Cell}
use Rattle.nq_model.specs.declared.table.Cell.TheVariants as cell
use Rattle.nq_model.proofs.Canonical.{cell_order}
use Rattle.answer_text.specs.Indexes.{index_cmp, is_index}
use Rattle.answer_text.specs.Spans.{index_of}
use Rattle.answer_text.proofs.Spanning.{same_index, index_itself, take_split, filter_both, filter_no, each_also, run_each}

pub index_total : IsTotalOrder index_cmp
index_total = then_total (on_total (λ (i : ℤ × ℤ). i.0) int_cmp_total)
    (on_total (λ (i : ℤ × ℤ). i.1) int_cmp_total)

int_tie : (a b : ℤ) → int_cmp a b ≡ Equal → a ≡ b
int_tie a b e = ap int_of (cell_order.ties (cell.Int a) (cell.Int b) e)

then_tie : (r s : Ordering) → ordering_then r s ≡ Equal → (r ≡ Equal) × (s ≡ Equal)
then_tie Less s e = absurd (cc)
then_tie Equal s e = (refl, e)
then_tie Greater s e = absurd (cc)

index_one : (i j : ℤ × ℤ) → index_cmp i j ≡ Equal → i ≡ j
index_one i j e =
    let parts = then_tie (int_cmp i.0 j.0) (int_cmp i.1 j.1) e in
    ap₂ (λ (x y : ℤ). (x, y)) (int_tie i.0 j.0 parts.0) (int_tie i.1 j.1 parts.1)

neither : (r s : Ordering) → s ≡ ordering_reverse r → is_lt r ≡ false → is_lt s ≡ false → r ≡ Equal
neither Less s e h k = absurd (true≢false h)
neither Equal s e h k = refl
neither Greater s e h k = absurd (true≢false (sym (ap is_lt e) ∙ k))

each_place : (P : ℕ → Type 0) (xs : List ℕ) → ((k : ℕ) → k < length xs → P (get_or xs k 0))
    → Each P xs
each_place P [] h = tt
each_place P (x ∷ xs) h = (
  h 0 (omega arith),
  each_place P xs
      (λ k below. h (suc k) (omega (arith, below))),
)

different : (i j : ℤ × ℤ) (b : Bool) → is_index i j ≡ b → (is_index i j ≡ true → ⊥) → is_index i j
    ≡ false
different i j true e never = absurd (never e)
different i j false e never = e

module _ (rows : List (List Cell)) (places : List ℕ) where
  -- no row before a place stands under the index of the row there
  abbrev pub IsFresh : ℕ → Type 0
  IsFresh start = start < length places → filter (λ p. is_index (index_of rows p)
      (index_of rows (get_or places start 0))) (take start places) ≡ []

  pub first_fresh : IsFresh 0
  first_fresh below = refl

  module _ (up : IsSortedByKey (index_of rows) index_cmp places) where
    far : (i j : ℕ) → i ≤ j → j < length places → is_lt (index_cmp
        (index_of rows (get_or places j 0)) (index_of rows (get_or places i 0))) ≡ false
    far i j le below = sorted_far
        (λ (x y : ℕ). is_lt (index_cmp (index_of rows x) (index_of rows y)))
        (ranks_by index_total (index_of rows)) places up i j 0 le below

    pub next_fresh : (start n end : ℕ) (index : ℤ × ℤ) → start < length places → end ≡ start + 1 + n
        → index ≡ index_of rows (get_or places start 0)
        → All (λ p. is_index (index_of rows p) index ≡ true) (take n (drop (start + 1) places))
        → (end < length places → is_index (index_of rows (get_or places end 0)) index ≡ false)
        → IsFresh end
    next_fresh start n end index here e own run ends below =
        let next : ℤ × ℤ = index_of rows (get_or places end 0) in
        let apart : (is_index index next ≡ true → ⊥) = λ h. true≢false
        (sym (index_itself index) ∙ ap (λ (i : ℤ × ℤ). is_index i index)
        (same_index index next h) ∙ ends below) in
        let before : Each (λ p. is_index (index_of rows p) next ≡ false) (take start places)
        = each_place (λ p. is_index (index_of rows p) next ≡ false) (take start places)
        (λ k low.
        let short : k < min start (length places) = subst (λ (m : ℕ). k < m)
        (length-take start places) low in
        let place : get_or (take start places) k 0 ≡ get_or places k 0
        = get_or-take start places k 0 (omega (arith, short)) in
        let this : ℤ × ℤ = index_of rows (get_or places k 0) in
        let old : is_index this next ≡ false = different this next (is_index this next) refl (λ h.
        let one : this ≡ next = same_index this next h in
        let not_above : is_lt (index_cmp index next) ≡ false
        = ap₂ (λ (i j : ℤ × ℤ). is_lt (index_cmp i j)) own (sym one)
        ∙ far k start (omega (arith, short)) here in
        let not_below : is_lt (index_cmp next index) ≡ false
        = ap (λ (i : ℤ × ℤ). is_lt (index_cmp next i)) own
        ∙ far start end (omega (arith, e)) below in
        let tie : index ≡ next = index_one index next (neither (index_cmp index next)
        (index_cmp next index) (index_total.antisymm next index) not_above not_below) in
        apart (ap (λ (i : ℤ × ℤ). is_index index i) (sym tie) ∙ index_itself index)) in
        ap (λ (p : ℕ). is_index (index_of rows p) next) place ∙ old) in
        let within : Each (λ p. is_index (index_of rows p) next ≡ false)
        (slice_range places start end) = each_also
        (λ p. is_index (index_of rows p) index ≡ true)
        (λ p. is_index (index_of rows p) next ≡ false)
        (λ p h. ap (λ (i : ℤ × ℤ). is_index i next) (same_index (index_of rows p) index h)
        ∙ different index next (is_index index next) refl apart) (slice_range places start end)
        (run_each rows places start n end index here e own run) in
        let pass : ℕ → Bool = λ p. is_index (index_of rows p) next in
        ap (filter pass) (take_split places start (end - start) end (omega (arith, e)))
        ∙ filter_both pass (take start places) (slice_range places start end)
        ∙ ap₂ (λ (xs ys : List ℕ). xs ++ ys) (filter_no pass (take start places) before)
        (filter_no pass (slice_range places start end) within)
