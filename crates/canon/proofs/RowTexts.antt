-- Rows in the order of their cells, and the lines that are written of them.
use Rattle.std.proofs.Common.{◌≡◌, ◌<◌, ◌+◌, ℕ, zero, suc, List, [], ◌∷◌, ◌++◌, length, map, take, get_or, All, IsPermutation, codes, decimal, refl, sym, ap, ap₂, ◌∙◌, subst, arith, append_assoc, add-zero}
use Rattle.std.specs.List.{flat_map, join_with_byte}
use Rattle.std.specs.List.Sorted.{IsSortedByKey}
use Rattle.std.specs.Cmp.Lexicographic.{lists_total}
use Rattle.std.specs.Ordering.{is_lt}
use Rattle.std.proofs.lemmas.List.{take_more, length-map}
use Rattle.std.proofs.lemmas.List.Sorted.{All-permutation}
use Rattle.nq_model.specs.Bags.{Reordered}
use Rattle.nq_model.specs.Canonical.{cell_text}
use Rattle.nq_model.specs.Cells.{cell_cmp, column_type_of, RowFits}
use Rattle.nq_model.specs.NamedRows.{no_cell}
use Rattle.nq_model.specs.Numberings.{Rises, count_from, key_lt}
use Rattle.nq_model.specs.Orders.{sorted_by}
use Rattle.nq_model.specs.declared.table.Cell.{Cell}
use Rattle.nq_model.specs.declared.table.ColumnType.{ColumnType}
use Rattle.nq_model.proofs.Bags.{matched_length}
use Rattle.nq_model.proofs.Canonical.{cell_order, lists_tie}
use Rattle.nq_model.proofs.Orders.{IsStrictOrder, sorted_reordered}
use Rattle.rows.specs.Places.{row_at, rows_at}
use Rattle.row_order.specs.Keys.{key_of, keys_at}
use Rattle.row_order.proofs.Rising.{rises_next}
use Rattle.canon.proofs.AllRows.{length_push, behind, rows_from}
use Rattle.canon.proofs.Sorting.{sorted_by_key}
use Rattle.canon.specs.RowTexts.{bar, row_cmp, row_line, rows_text, sorted_rows}

-- 1. lines

cells_push : (cells : List Cell) (first c : Cell)
    → join_with_byte 124 (map cell_text (first ∷ (cells ++ c ∷ [])))
    ≡ join_with_byte 124 (map cell_text (first ∷ cells)) ++ (codes "|" ++ cell_text c)
cells_push [] first c = refl
cells_push (d ∷ cells) first c =
    ap (λ (l : List ℕ). cell_text first ++ (124 ∷ l)) (cells_push cells d c)
    ∙ sym (append_assoc (cell_text first) (124 ∷ join_with_byte 124 (map cell_text (d ∷ cells)))
    (codes "|" ++ cell_text c))

-- the cells up to a place, and the one there
pub cells_more : (cells : List Cell) (k : ℕ) (c : Cell) → k < length cells → c ≡ get_or cells k c
    → join_with_byte 124 (map cell_text (take (k + 1) cells))
    ≡ join_with_byte 124 (map cell_text (take k cells)) ++ (bar k ++ cell_text c)
cells_more [] k c below is = absurd (omega (arith, below))
cells_more (d ∷ cells) zero c below is =
    ap (λ (l : List Cell). join_with_byte 124 (map cell_text l))
    (take_more (d ∷ cells) zero c below ∙ ap (λ (z : Cell). z ∷ []) (sym is))
cells_more (d ∷ cells) (suc k) c below is =
    ap (λ (l : List Cell). join_with_byte 124 (map cell_text l))
    (take_more (d ∷ cells) (suc k) c below ∙ ap (λ (z : Cell). d ∷ (take k cells ++ z ∷ []))
    (sym is))
    ∙ cells_push (take k cells) d c

-- 2. rows in order

count_at : (a n k d : ℕ) → k < n → get_or (count_from a n) k d ≡ a + k
count_at a zero k d below = absurd (omega (arith, below))
count_at a (suc n) zero d below = sym (add-zero a)
count_at a (suc n) (suc k) d below = count_at (suc a) n k d (omega (arith, below)) ∙ omega arith

count_length : (a n : ℕ) → length (count_from a n) ≡ n
count_length a zero = refl
count_length a (suc n) = ap suc (count_length (suc a) n)

-- the key of a row under all its columns is the row
key_from : (before row : List Cell) → key_of (count_from (length before) (length row))
    (before ++ row) ≡ row
key_from before [] = refl
key_from before (c ∷ row) =
    let next : length (before ++ c ∷ []) ≡ suc (length before) = length_push before c in
    ap₂ (λ (d : Cell) (ds : List Cell). d ∷ ds) (behind before c row no_cell)
    (ap₂ (λ (all : List Cell) (n : ℕ). key_of (count_from n (length row)) all)
    (sym (append_assoc before (c ∷ []) row)) (sym next) ∙ key_from (before ++ c ∷ []) row)

row_order : IsStrictOrder row_cmp
row_order = record {
  total = lists_total cell_order.total;
  ties = lists_tie cell_cmp cell_order.ties;
}

module _ (rows : List (List Cell)) (types : List ColumnType) (fit : All (RowFits types) rows)
    (places : List ℕ)
    (permuted : IsPermutation (count_from 0 (length rows)) places) (up : Rises key_lt (keys_at rows (count_from 0 (length types)) places)) where
  abbrev columns : List ℕ
  columns = count_from 0 (length types)

  wide : (k : ℕ) → k < length rows → length (row_at rows k) ≡ length types
  wide k below = sym (length-map (row_at rows k) column_type_of) ∙ ap length (fit k [] below)

  key_is : (k : ℕ) → k < length rows → key_of columns (row_at rows k) ≡ row_at rows k
  key_is k below = ap (λ (n : ℕ). key_of (count_from 0 n) (row_at rows k)) (sym (wide k below))
      ∙ key_from [] (row_at rows k)

  abbrev Within : ℕ → Type 0
  Within place = key_of columns (row_at rows place) ≡ row_at rows place

  all_within : All Within (count_from 0 (length rows))
  all_within k d below =
      let here : k < length rows = subst (λ (n : ℕ). k < n) (count_length 0 (length rows)) below in
      let is : get_or (count_from 0 (length rows)) k d ≡ k = count_at 0 (length rows) k d here
      ∙ omega arith in
      subst Within (sym is) (key_is k here)

  within : All Within places
  within = All-permutation Within (count_from 0 (length rows)) places permuted all_within

  in_order : IsSortedByKey (row_at rows) row_cmp places
  in_order k d low below =
      sym (ap₂ (λ (r s : List Cell). is_lt (row_cmp r s)) (within (k + 1) d below)
      (within k d (omega (arith, below))))
      ∙ rises_next key_lt (λ (place : ℕ). key_of columns (row_at rows place)) places up k d below

  -- the rows at places that are in the order of all cells are the rows in order
  pub rows_in_order : rows_at rows places ≡ sorted_by row_cmp rows
  rows_in_order =
      sorted_by_key row_cmp (row_at rows) row_order (count_from 0
      (length rows)) places permuted in_order
      ∙ ap (sorted_by row_cmp) (rows_from [] rows)

-- 3. rows in any order

pub rows_one : (rows others : List (List Cell)) → Reordered rows others → sorted_rows rows
    ≡ sorted_rows others
rows_one rows others same = sorted_reordered row_cmp row_order rows others same

pub one_text : (rows others : List (List Cell)) → Reordered rows others → rows_text rows
    ≡ rows_text others
unfolding rows_text
one_text rows others same =
    ap₂ (λ (n : ℕ) (ordered : List (List Cell)). codes "rows "
    ++ (decimal n ++ (codes "\n" ++ flat_map row_line ordered)))
    (matched_length (λ r s. r ≡ s) rows others same) (rows_one rows others same)
