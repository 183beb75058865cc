-- Rows in groups, under each index in the order of the elements.
use Rattle.std.proofs.Common.{◌≡◌, ℕ, ℤ, List, [], ◌∷◌, refl, sym, ap, ◌∙◌, Bool, true, false, cond, map, filter, length, IsPermutation}
use Rattle.std.proofs.lemmas.Simd.{map-map}
use Rattle.nq_model.specs.Bags.{Reordered}
use Rattle.nq_model.specs.Canonical.{value_cmp}
use Rattle.nq_model.specs.Numberings.{count_from}
use Rattle.nq_model.specs.Orders.{sorted_by}
use Rattle.nq_model.specs.Values.{Nested}
use Rattle.nq_model.specs.declared.table.Cell.{Cell}
use Rattle.nq_model.proofs.Bags.{matched_filter, matched_map}
use Rattle.nq_model.proofs.Canonical.{value_order}
use Rattle.nq_model.proofs.Orders.{sorted_reordered}
use Rattle.rows.specs.Places.{row_at, rows_at}
use Rattle.canon.proofs.AllRows.{rows_from}
use Rattle.canon.proofs.Sorting.{reordered_from_permutation}
use Rattle.stitcher.specs.FlatNumbers.{index_at}
use Rattle.answer_text.specs.Indexes.{is_index, rows_under}
use Rattle.answer_text.specs.Members.{under, AreInRuns, AreRuns}
use Rattle.answer_text.specs.Parts.{value_in}
use Rattle.answer_text.specs.Spans.{index_of, spanned}
use Rattle.answer_text.specs.declared.part.Part.{Part}
use Rattle.answer_text.specs.declared.runs.Runs.{Runs}
use Rattle.answer_text.specs.declared.spans.Spans.{Spans}

module _ (element : Part) (rows : List (List Cell)) where
  abbrev value_at : ℕ → Nested
  value_at p = value_in element (row_at rows p)

  abbrev pass : ℤ × ℤ → ℕ → Bool
  pass i p = is_index (index_of rows p) i

  -- the same of the same lists
  pub runs_moved : (before all now sorted : List ℕ) (spans : Spans) → before ≡ all → sorted ≡ now
      → AreInRuns element rows before now spans → AreInRuns element rows all sorted spans
  runs_moved before all now sorted spans e h runs i =
      ap (map value_at) (ap (λ (l : List ℕ). spanned spans l i) h) ∙ runs i
      ∙ ap (λ (l : List ℕ). sorted_by value_cmp (map value_at (under rows l i))) e

  -- places that are put in another order first are in the same runs
  pub runs_of_all : (all places sorted : List ℕ) (spans : Spans) → IsPermutation all places
      → AreInRuns element rows places sorted spans → AreInRuns element rows all sorted spans
  runs_of_all all places sorted spans permuted runs i =
      let kept : Reordered (under rows all i) (under rows places i)
      = matched_filter (λ (x y : ℕ). x ≡ y) (pass i) (pass i)
      (λ x y e. ap (pass i) e) all places (reordered_from_permutation all places permuted) in
      let valued : Reordered (map value_at (under rows all i)) (map value_at (under rows places i))
      = matched_map (λ (x y : ℕ). x ≡ y) (λ (v w : Nested). v ≡ w) value_at value_at
      (λ x y e. ap value_at e) (under rows all i) (under rows places i) kept in
      runs i ∙ sym (sorted_reordered value_cmp value_order (map value_at (under rows all i))
      (map value_at (under rows places i)) valued)

  filter_rows : (q : List Cell → Bool) (ps : List ℕ) → map (row_at rows)
      (filter (λ p. q (row_at rows p)) ps) ≡ filter q (map (row_at rows) ps)
  filter_rows q [] = refl
  filter_rows q (p ∷ ps) = go (q (row_at rows p)) (filter_rows q ps)
    where
      go : (b : Bool) → map (row_at rows) (filter (λ k. q (row_at rows k)) ps)
          ≡ filter q (map (row_at rows) ps)
          → map (row_at rows) (cond b (p ∷ filter (λ k. q (row_at rows k)) ps)
          (filter (λ k. q (row_at rows k)) ps)) ≡ cond b
          (row_at rows p ∷ filter q (map (row_at rows) ps)) (filter q (map (row_at rows) ps))
      go true rest = ap (λ (l : List (List Cell)). row_at rows p ∷ l) rest
      go false rest = rest

  -- the runs of all rows give the elements under each index in canonical order
  pub groups_sorted : (runs : Runs) → AreRuns element rows runs → (i : ℤ × ℤ)
      → map (value_in element) (rows_at rows (spanned runs.spans runs.places i))
      ≡ sorted_by value_cmp (map (value_in element) (rows_under i rows))
  groups_sorted runs are i =
      let all : List ℕ = count_from 0 (length rows) in
      let named : map value_at (under rows all i) ≡ map (value_in element) (rows_under i rows)
      = sym (map-map (value_in element) (row_at rows) (under rows all i))
      ∙ ap (map (value_in element)) (filter_rows (λ r. is_index (index_at r 0) i) all
      ∙ ap (filter (λ r. is_index (index_at r 0) i)) (rows_from [] rows)) in
      map-map (value_in element) (row_at rows) (spanned runs.spans runs.places i) ∙ are i
      ∙ ap (sorted_by value_cmp) named
