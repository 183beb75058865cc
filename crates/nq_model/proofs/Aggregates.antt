-- What is asked of a bag does not depend on its order, and goes part by part.
use Rattle.std.proofs.Common.{◌≡◌, List, [], ◌∷◌, ◌++◌, map, refl, sym, ap, ap₂, ◌∙◌, length, pos}
use Rattle.std.specs.Prelude.{ℤ, ◌+ℤ◌}
use Rattle.std.specs.Int.{int_wrap, w64}
use Rattle.std.proofs.Math.IntN.{+ℤ_comm, +ℤ_assoc}
use Rattle.std.proofs.lemmas.List.{map-append}
use Rattle.nq_model.specs.Bags.{Pick, here, there, Matched}
use Rattle.nq_model.specs.Meaning.{cell_of, is_none, aggregate_value}
use Rattle.nq_model.specs.Operators.{int_of, binary_value}
use Rattle.nq_model.specs.Terms.{Aggregate, Emptiness, Count, Sum}
use Rattle.nq_model.specs.Totals.{whole_sum, sum_of}
use Rattle.nq_model.specs.Values.{Nested, base, rec, bag, Same}
use Rattle.nq_model.specs.declared.table.Cell.{Cell}
use Rattle.nq_model.specs.declared.table.Cell.TheVariants as cell
use Rattle.nq_model.specs.declared.term.Binary.TheVariants.{Add}
use Rattle.nq_model.proofs.Bags.{matched_length}
use Rattle.nq_model.proofs.Totals.{count_append, sum_append}

picked_sum : (f : Nested → ℤ) {y : Nested} {ys rest : List Nested} → Pick y ys rest → whole_sum (map f ys) ≡ f y +ℤ whole_sum (map f rest)
picked_sum f here = refl
picked_sum f {y = y} (there {z = z} {ys = ys} {rest = rest} p) =
    ap (λ n. f z +ℤ n) (picked_sum f p)
    ∙ sym (+ℤ_assoc (f z) (f y) (whole_sum (map f rest)))
    ∙ ap (λ n. n +ℤ whole_sum (map f rest)) (+ℤ_comm (f z) (f y))
    ∙ +ℤ_assoc (f y) (f z) (whole_sum (map f rest))

same_number : (v w : Nested) → Same v w → int_of (cell_of v) ≡ int_of (cell_of w)
same_number (base c) (base d) s = ap int_of s
same_number (base c) (rec gs) s = absurd s
same_number (base c) (bag ws) s = absurd s
same_number (rec fs) (base d) s = absurd s
same_number (rec fs) (rec gs) s = refl
same_number (rec fs) (bag ws) s = absurd s
same_number (bag vs) (base d) s = absurd s
same_number (bag vs) (rec gs) s = absurd s
same_number (bag vs) (bag ws) s = refl

matched_sum : (vs ws : List Nested) → Matched Same vs ws → whole_sum (map (λ v. int_of (cell_of v)) vs) ≡ whole_sum (map (λ v. int_of (cell_of v)) ws)
matched_sum [] ws m = ap (λ (l : List Nested). whole_sum (map (λ v. int_of (cell_of v)) l)) (sym m)
matched_sum (v ∷ vs) ws m =
    ap₂ (λ a b. a +ℤ b) (same_number v m.0 m.3) (matched_sum vs m.1 m.4) ∙ sym (picked_sum (λ v. int_of (cell_of v)) m.2)

numbers_of : (vs : List Nested) → map int_of (map cell_of vs) ≡ map (λ v. int_of (cell_of v)) vs
numbers_of [] = refl
numbers_of (v ∷ vs) = ap (λ (l : List ℤ). int_of (cell_of v) ∷ l) (numbers_of vs)

is_none_length : {A B : Type 0} (xs : List A) (ys : List B) → length xs ≡ length ys → is_none xs ≡ is_none ys
is_none_length [] [] e = refl
is_none_length [] (y ∷ ys) e = absurd (cc)
is_none_length (x ∷ xs) [] e = absurd (cc)
is_none_length (x ∷ xs) (y ∷ ys) e = refl

-- what is asked of the same multisets is the same
pub same_aggregate : (g : Aggregate) (vs ws : List Nested) → Matched Same vs ws → aggregate_value g vs ≡ aggregate_value g ws
same_aggregate Emptiness vs ws m = ap cell.Bool (is_none_length vs ws (matched_length Same vs ws m))
same_aggregate Count vs ws m = ap (λ n. cell.Int (int_wrap w64 (pos n))) (matched_length Same vs ws m)
same_aggregate Sum vs ws m =
    ap (λ n. cell.Int (int_wrap w64 n)) (ap whole_sum (numbers_of vs) ∙ matched_sum vs ws m ∙ sym (ap whole_sum (numbers_of ws)))

-- of two parts, and of none
pub count_joined : (xs ys : List Nested) → aggregate_value Count (xs ++ ys) ≡ binary_value Add (aggregate_value Count xs) (aggregate_value Count ys)
count_joined xs ys = ap cell.Int (count_append xs ys)

pub sum_joined : (xs ys : List Nested) → aggregate_value Sum (xs ++ ys) ≡ binary_value Add (aggregate_value Sum xs) (aggregate_value Sum ys)
sum_joined xs ys = ap (λ (l : List Cell). cell.Int (sum_of l)) (map-append cell_of xs ys) ∙ ap cell.Int (sum_append (map cell_of xs) (map cell_of ys))

pub count_none : aggregate_value Count [] ≡ cell.Int (pos 0)
unfolding int_wrap
count_none = refl

pub sum_none : aggregate_value Sum [] ≡ cell.Int (pos 0)
unfolding int_wrap
sum_none = refl
