-- Counts and sums, one value after the other.
use Rattle.std.proofs.Common.{◌≡◌, ℤ, pos, List, [], ◌∷◌, ◌++◌, map, length, length-append, refl, ap, sym, ◌∙◌}
use Rattle.std.specs.Prelude.{◌+ℤ◌}
use Rattle.std.specs.Int.{int_wrap, w64}
use Rattle.std.proofs.Math.IntN.{+ℤ_idr}
use Rattle.std.proofs.lemmas.Int.{int_wrap-add_left}
use Rattle.std.proofs.lemmas.List.{map-append}
use Rattle.nq_model.specs.Meaning.{cell_of}
use Rattle.nq_model.specs.Operators.{int_of}
use Rattle.nq_model.specs.Totals.{whole_sum, count_of, sum_of}
use Rattle.nq_model.specs.Values.{Nested, nested}
use Rattle.nq_model.specs.declared.table.Cell.{Cell}
use Rattle.nq_model.specs.declared.value.Value.{Value}
use Rattle.nq_model.proofs.Totals.{whole_append}

pub none_counted : pos 0 ≡ count_of (map nested [])
unfolding int_wrap
none_counted = refl

pub none_summed : pos 0 ≡ sum_of (map cell_of (map nested []))
unfolding int_wrap
none_summed = refl

more_counted : (vs : List Nested) (v : Nested) → int_wrap w64 (count_of vs +ℤ pos 1) ≡ count_of (vs ++ v ∷ [])
more_counted vs v =
    int_wrap-add_left w64 (pos (length vs)) (pos 1) ∙ ap (λ n. int_wrap w64 (pos n)) (sym (length-append vs (v ∷ [])))

pub one_counted : (vs : List Value) (v : Value) (n r m : ℤ) → n ≡ count_of (map nested vs) → r ≡ int_wrap w64 (n +ℤ pos 1) → m ≡ r → m ≡ count_of (map nested (vs ++ v ∷ []))
one_counted vs v n r m h e same =
    same
    ∙ e
    ∙ ap (λ k. int_wrap w64 (k +ℤ pos 1)) h
    ∙ more_counted (map nested vs) (nested v)
    ∙ ap (λ (l : List Nested). count_of l) (sym (map-append nested vs (v ∷ [])))

more_summed : (cs : List Cell) (c : Cell) → int_wrap w64 (sum_of cs +ℤ int_of c) ≡ sum_of (cs ++ c ∷ [])
more_summed cs c =
    int_wrap-add_left w64 (whole_sum (map int_of cs)) (int_of c)
    ∙ ap (λ n. int_wrap w64 (whole_sum (map int_of cs) +ℤ n)) (sym (+ℤ_idr (int_of c)))
    ∙ ap (int_wrap w64) (sym (whole_append (map int_of cs) (int_of c ∷ [])))
    ∙ ap (λ (l : List ℤ). int_wrap w64 (whole_sum l)) (sym (map-append int_of cs (c ∷ [])))

pub one_summed : (vs : List Value) (v : Value) (n r m : ℤ) → n ≡ sum_of (map cell_of (map nested vs)) → r ≡ int_wrap w64 (n +ℤ int_of (cell_of (nested v))) → m ≡ r → m ≡ sum_of (map cell_of (map nested (vs ++ v ∷ [])))
one_summed vs v n r m h e same =
    same
    ∙ e
    ∙ ap (λ k. int_wrap w64 (k +ℤ int_of (cell_of (nested v)))) h
    ∙ more_summed (map cell_of (map nested vs)) (cell_of (nested v))
    ∙ ap sum_of (sym (ap (map cell_of) (map-append nested vs (v ∷ [])) ∙ map-append cell_of (map nested vs) (nested v ∷ [])))
