-- Laws of the first place where rows do not fit their types.
use Rattle.std.proofs.Common.{◌≡◌, ◌⊎◌, ℕ, zero, suc, ◌+◌, ◌-◌, ◌<◌, List, [], ◌∷◌, Some, map, take, length, slice_get, get_or, All, refl, sym, ap, ap₂, ◌∙◌, subst, arith, add-one, inl, inr}
use Rattle.std.proofs.lemmas.Option.{slice_get_read, slice_get_within, get_or_from_slice_get}
use Rattle.std.proofs.lemmas.Bool.{cases_order}
use Rattle.std.proofs.lemmas.List.{get_or_default}
use Rattle.nq_model.specs.Cells.{column_type_of, RowFits}
use Rattle.nq_model.specs.declared.table.Cell.{Cell}
use Rattle.nq_model.specs.declared.table.ColumnType.{ColumnType}
use Rattle.sql_profile.specs.Fits.{DiffersFirstAt, IsFirstMisfit}
use Rattle.sql_profile.specs.declared.answer.Misfit.{Misfit}

same_next : {X : Type 0} (xs ys : List X) (i : ℕ) → take i xs ≡ take i ys → slice_get xs i ≡ slice_get ys i → take (suc i) xs ≡ take (suc i) ys
same_next [] [] i before here = refl
same_next [] (y ∷ ys) zero before here = cc
same_next [] (y ∷ ys) (suc i) before here = cc
same_next (x ∷ xs) [] zero before here = cc
same_next (x ∷ xs) [] (suc i) before here = cc
same_next (x ∷ xs) (y ∷ ys) zero before here =
    let one : x ≡ y = cc in ap (λ z. z ∷ []) one
same_next (x ∷ xs) (y ∷ ys) (suc i) before here =
    let one : x ≡ y = cc in
    let rest : take i xs ≡ take i ys = cc in
    ap₂ (λ z (zs : List _). z ∷ zs) one (same_next xs ys i rest here)

-- two lists that agree up to a place, and at it, agree up to the next
pub take_more_got : {X : Type 0} (xs ys : List X) (i : ℕ) → take i xs ≡ take i ys → slice_get xs i ≡ slice_get ys i → take (i + 1) xs ≡ take (i + 1) ys
take_more_got xs ys i before here = rw add-one (same_next xs ys i before here)

-- what a list has at a place, its part up to a later place has there
slice_get-take : {X : Type 0} (xs : List X) (n i : ℕ) → i < n → slice_get (take n xs) i ≡ slice_get xs i
slice_get-take xs zero i below = absurd (omega arith)
slice_get-take [] (suc n) i below = refl
slice_get-take (x ∷ xs) (suc n) zero below = refl
slice_get-take (x ∷ xs) (suc n) (suc i) below = slice_get-take xs n i (omega arith)

-- a row that differs from the types at a place, and every row before it fits
pub first_misfit : (rows : List (List Cell)) (types : List ColumnType) (index place : ℕ)
    → index < length rows → All (RowFits types) (take index rows) → DiffersFirstAt types (get_or rows index []) place
    → IsFirstMisfit rows types (record { row = index + 1; column = place + 1 })
first_misfit rows types index place within fit differs =
    let at_row : index + 1 - 1 ≡ index = omega arith in
    let at_column : place + 1 - 1 ≡ place = omega arith in
    let row : List Cell = get_or rows index [] in
    record {
      row_counted = omega arith;
      column_counted = omega arith;
      fit_before = rw at_row fit;
      cells = row;
      is_row = rw at_row (slice_get_read rows (length rows) index row refl within (get_or_default rows index [] row within));
      differs = rw at_column differs;
    }

-- a row that fits differs nowhere
no_difference : (types : List ColumnType) (row : List Cell) (place : ℕ) → RowFits types row → DiffersFirstAt types row place → ⊥
no_difference types row place fit differs = differs.other_here (ap (λ (ts : List ColumnType). slice_get ts place) fit)

-- the row at a place is one of all
row_of_all : (P : List Cell → Type 0) (rows : List (List Cell)) (i : ℕ) (row : List Cell) → slice_get rows i ≡ Some row → All P rows → P row
row_of_all P rows i row is all =
    subst P (get_or_from_slice_get rows i row row is) (all i row (slice_get_within rows i row is))

pub fits_without_misfit : (rows : List (List Cell)) (types : List ColumnType) (m : Misfit) → All (RowFits types) rows → IsFirstMisfit rows types m → ⊥
fits_without_misfit rows types m all first =
    no_difference types first.cells (m.column - 1) (row_of_all (RowFits types) rows (m.row - 1) first.cells first.is_row all) first.differs

-- of two first misfits neither is in an earlier row, and in one row neither is at an earlier place
not_earlier_row : (rows : List (List Cell)) (types : List ColumnType) (m n : Misfit) → IsFirstMisfit rows types m → IsFirstMisfit rows types n → m.row - 1 < n.row - 1 → ⊥
not_earlier_row rows types m n first second below =
    let stands = slice_get-take rows (n.row - 1) (m.row - 1) below ∙ first.is_row in
    no_difference types first.cells (m.column - 1) (row_of_all (RowFits types) (take (n.row - 1) rows) (m.row - 1) first.cells stands second.fit_before) first.differs

not_earlier_place : (types : List ColumnType) (row : List Cell) (p q : ℕ) → DiffersFirstAt types row p → DiffersFirstAt types row q → p < q → ⊥
not_earlier_place types row p q first second below =
    let row_types = map column_type_of row in
    first.other_here (sym (slice_get-take row_types q p below) ∙ ap (λ (ts : List ColumnType). slice_get ts p) second.same_before ∙ slice_get-take types q p below)

same_place : (types : List ColumnType) (row : List Cell) (p q : ℕ) → DiffersFirstAt types row p → DiffersFirstAt types row q → p ≡ q
same_place types row p q first second = go (cases_order p q)
  where
    go : (p ≡ q) ⊎ ((p < q) ⊎ (q < p)) → p ≡ q
    go (inl same) = same
    go (inr (inl below)) = absurd (not_earlier_place types row p q first second below)
    go (inr (inr above)) = absurd (not_earlier_place types row q p second first above)

same_row : (rows : List (List Cell)) (types : List ColumnType) (m n : Misfit) → IsFirstMisfit rows types m → IsFirstMisfit rows types n → m.row - 1 ≡ n.row - 1
same_row rows types m n first second = go (cases_order (m.row - 1) (n.row - 1))
  where
    go : (m.row - 1 ≡ n.row - 1) ⊎ ((m.row - 1 < n.row - 1) ⊎ (n.row - 1 < m.row - 1)) → m.row - 1 ≡ n.row - 1
    go (inl same) = same
    go (inr (inl below)) = absurd (not_earlier_row rows types m n first second below)
    go (inr (inr above)) = absurd (not_earlier_row rows types n m second first above)

pub one_first_misfit : (rows : List (List Cell)) (types : List ColumnType) (m n : Misfit) → IsFirstMisfit rows types m → IsFirstMisfit rows types n → m ≡ n
one_first_misfit rows types m n first second =
    let index : m.row - 1 ≡ n.row - 1 = same_row rows types m n first second in
    let stands : Some first.cells ≡ Some second.cells = sym first.is_row ∙ ap (slice_get rows) index ∙ second.is_row in
    let cells : first.cells ≡ second.cells = cc in
    let differs : DiffersFirstAt types second.cells (m.column - 1) = subst (λ row. DiffersFirstAt types row (m.column - 1)) cells first.differs in
    let place : m.column - 1 ≡ n.column - 1 = same_place types second.cells (m.column - 1) (n.column - 1) differs second.differs in
    let row : m.row ≡ n.row = omega (arith, first.row_counted, second.row_counted) in
    let column : m.column ≡ n.column = omega (arith, first.column_counted, second.column_counted) in
    let made : ℕ → ℕ → Misfit = λ r c. record { row = r; column = c } in
    ap₂ made row column
