-- The rows at all places.
use Rattle.std.proofs.Common.{◌≡◌, ℕ, suc, List, [], ◌∷◌, ◌++◌, length, map, get_or, refl, sym, ap, ap₂, ◌∙◌, append_assoc}
use Rattle.nq_model.specs.Numberings.{count_from}
use Rattle.nq_model.specs.declared.table.Cell.{Cell}
use Rattle.rows.specs.Places.{row_at}

pub length_push : {A : Type 0} (xs : List A) (x : A) → length (xs ++ x ∷ []) ≡ suc (length xs)
length_push [] x = refl
length_push (y ∷ xs) x = ap suc (length_push xs x)

-- what stands behind some elements
pub behind : {A : Type 0} (xs : List A) (x : A) (ys : List A) (d : A)
    → get_or (xs ++ x ∷ ys) (length xs) d ≡ x
behind [] x ys d = refl
behind (y ∷ xs) x ys d = behind xs x ys d

pub rows_from : (before rows : List (List Cell)) → map (row_at (before ++ rows))
    (count_from (length before) (length rows)) ≡ rows
rows_from before [] = refl
rows_from before (row ∷ rows) =
    let next : length (before ++ row ∷ []) ≡ suc (length before) = length_push before row in
    ap₂ (λ (r : List Cell) (rs : List (List Cell)). r ∷ rs) (behind before row rows [])
    (ap₂ (λ (all : List (List Cell)) (n : ℕ). map (row_at all) (count_from n (length rows)))
    (sym (append_assoc before (row ∷ []) rows)) (sym next)
    ∙ rows_from (before ++ row ∷ []) rows)
