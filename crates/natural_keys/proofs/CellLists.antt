-- How two lists of cells compare where the shorter one ends.
use Rattle.std.proofs.Common.{◌≡◌, ℕ, suc, ◌-◌, List, [], ◌∷◌, drop, length, min, refl, ◌∙◌, arith, length-drop}
use Rattle.std.proofs.lemmas.Bool.Decides.{nat_tests}
use Rattle.std.specs.declared.cmp.Ordering.TheVariants.{Less, Greater}
use Rattle.std.specs.Ordering.{nat_cmp}
use Rattle.std.specs.Cmp.{nat_cmp_is}
use Rattle.std.specs.Cmp.Lexicographic.{slice_cmp}
use Rattle.nq_model.specs.Cells.{cell_cmp}
use Rattle.nq_model.specs.declared.table.Cell.{Cell}

-- at the shorter one's length, one of the two rests is empty
rests_cmp : (m n i : ℕ) → i ≡ min m n → nat_cmp (m - i) (n - i) ≡ nat_cmp m n
rests_cmp m n i e = grind (arith, nat_tests)

ended : (xs ys : List Cell) → min (length xs) (length ys) ≡ 0
    → slice_cmp cell_cmp xs ys ≡ nat_cmp (length xs) (length ys)
ended [] [] e = refl
ended [] (y ∷ ys) e = nat_cmp_is 0 (suc (length ys)) Less (omega arith)
ended (x ∷ xs) [] e = nat_cmp_is (suc (length xs)) 0 Greater (omega arith)
ended (x ∷ xs) (y ∷ ys) e = absurd (omega arith)

pub cells_end : (a b : List Cell) (i : ℕ) → i ≡ min (length a) (length b)
    → slice_cmp cell_cmp (drop i a) (drop i b) ≡ nat_cmp (length a) (length b)
cells_end a b i e = ended (drop i a) (drop i b) (rw (length-drop, length-drop) (omega arith))
    ∙ rw (length-drop, length-drop) (rests_cmp (length a) (length b) i e)
