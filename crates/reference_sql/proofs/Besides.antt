-- Two lists side by side, where the shorter one ends.
use Rattle.std.proofs.Common.{◌≡◌, ℕ, List, [], ◌∷◌, ◌++◌, drop, length, min, zip, refl, sym, ap, ◌∙◌, arith, length-drop, append-nil}
use Rattle.nq_model.specs.declared.table.Cell.{Cell}
use Rattle.sql_profile.specs.AllowedAnswers.{beside}

ended : (cells : List Cell) (rows : List (List Cell)) → min (length cells) (length rows) ≡ 0 → beside cells rows ≡ []
ended [] rows e = refl
ended (c ∷ cs) [] e = refl
ended (c ∷ cs) (r ∷ rs) e = absurd (omega (arith, e))

pub all_beside : (cells : List Cell) (rows longer whole : List (List Cell)) (i : ℕ) → i ≡ min (length cells) (length rows) → longer ++ beside (drop i cells) (drop i rows) ≡ whole → longer ≡ whole
all_beside cells rows longer whole i is so_far =
    let a = length-drop i cells in let b = length-drop i rows in
    sym (append-nil longer) ∙ ap (λ (l : List (List Cell)). longer ++ l) (sym (ended (drop i cells) (drop i rows) (omega (arith, is, a, b)))) ∙ so_far

zip_ended : {A B : Type 0} (xs : List A) (ys : List B) → min (length xs) (length ys) ≡ 0 → zip xs ys ≡ []
zip_ended [] ys e = refl
zip_ended (x ∷ xs) [] e = refl
zip_ended (x ∷ xs) (y ∷ ys) e = absurd (omega (arith, e))

pub all_zipped : {A B : Type 0} (xs : List A) (ys : List B) (fields whole : List (A × B)) (i : ℕ) → i ≡ min (length xs) (length ys) → fields ++ zip (drop i xs) (drop i ys) ≡ whole → fields ≡ whole
all_zipped xs ys fields whole i is so_far =
    let a = length-drop i xs in let b = length-drop i ys in
    sym (append-nil fields) ∙ ap (λ (l : List (_ × _)). fields ++ l) (sym (zip_ended (drop i xs) (drop i ys) (omega (arith, is, a, b)))) ∙ so_far
