-- How two key lists compare where the shorter one ends.
use Rattle.std.proofs.Common.{◌≡◌, ℕ, suc, ◌-◌, List, [], ◌∷◌, drop, length, min, refl, ◌∙◌, arith, length-drop}
use Rattle.std.proofs.lemmas.Bool.Decides.{nat_tests}
use Rattle.std.specs.declared.cmp.Ordering.TheVariants.{Less, Greater}
use Rattle.std.specs.Ordering.{nat_cmp}
use Rattle.std.specs.Cmp.{nat_cmp_is}
use Rattle.std.specs.Cmp.Lexicographic.{slice_cmp}
use Rattle.nq_model.specs.Cells.{cell_cmp}
use Rattle.nq_model.specs.declared.table.Cell.{Cell}

rests_cmp : (m n i : ℕ) → i ≡ min m n → nat_cmp (m - i) (n - i) ≡ nat_cmp m n
rests_cmp m n i e = grind (arith, nat_tests)

keys_ended : (xs ys : List Cell) → min (length xs) (length ys) ≡ 0 → slice_cmp cell_cmp xs ys ≡ nat_cmp (length xs) (length ys)
keys_ended [] [] e = refl
keys_ended [] (y ∷ ys) e = nat_cmp_is 0 (suc (length ys)) Less (omega arith)
keys_ended (x ∷ xs) [] e = nat_cmp_is (suc (length xs)) 0 Greater (omega arith)
keys_ended (x ∷ xs) (y ∷ ys) e = absurd (omega arith)

pub keys_end : (xs ys : List Cell) (i : ℕ) → i ≡ min (length xs) (length ys) → slice_cmp cell_cmp (drop i xs) (drop i ys) ≡ nat_cmp (length xs) (length ys)
keys_end xs ys i e =
    let a = length-drop i xs in
    let b = length-drop i ys in
    keys_ended (drop i xs) (drop i ys) (omega (arith, e, a, b)) ∙ grind (arith, a, b, rests_cmp (length xs) (length ys) i e)
