-- Bags of the elements that the rows at places are.
use Rattle.std.proofs.Common.{◌≡◌, ℕ, ◌+◌, ◌<◌, List, ◌++◌, map, sym, ap, ap₂, ◌∙◌, length, min, take, drop, get_or}
use Rattle.std.proofs.lemmas.Simd.{map-map}
use Rattle.std.specs.Ordering.{nat_cmp}
use Rattle.nq_model.specs.Canonical.{value_cmp, written, written_elements}
use Rattle.nq_model.specs.Separators.{separator}
use Rattle.nq_model.specs.Values.{Nested, bag_of, elements_of}
use Rattle.nq_model.specs.declared.table.Cell.{Cell}
use Rattle.rows.specs.Places.{row_at, rows_at}
use Rattle.canon.proofs.Ends.{elements_end}
use Rattle.canon.proofs.Writing.{elements_more}

module _ (view : List Cell → Nested) (rows : List (List Cell)) where
  abbrev view_at : ℕ → Nested
  view_at place = view (row_at rows place)

  -- how two bags compare where the shorter one ends
  pub places_end : (a b : List ℕ) (i : ℕ) → i ≡ min (length a) (length b) →
      value_cmp (bag_of (map view (rows_at rows (drop i a))))
      (bag_of (map view (rows_at rows (drop i b)))) ≡ nat_cmp (length a) (length b)
  places_end a b i e =
      ap₂ (λ (x y : List Nested). value_cmp (bag_of x) (bag_of y))
      (map-map view (row_at rows) (drop i a)) (map-map view (row_at rows) (drop i b))
      ∙ elements_end view_at a b i e

  -- the text of the first rows, and that of one more
  pub rows_more : (places : List ℕ) (i place : ℕ) → i < length places → place
      ≡ get_or places i place
      → written_elements (elements_of (map view (rows_at rows (take (i + 1) places))))
      ≡ written_elements (elements_of (map view (rows_at rows (take i places))))
      ++ (separator i ++ written (view (row_at rows place)))
  rows_more places i place h e =
      ap (λ (l : List Nested). written_elements (elements_of l))
      (map-map view (row_at rows) (take (i + 1) places))
      ∙ elements_more view_at places i place h e
      ∙ ap (λ (l : List Nested). written_elements (elements_of l)
      ++ (separator i ++ written (view (row_at rows place))))
      (sym (map-map view (row_at rows) (take i places)))
