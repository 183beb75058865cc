-- How sameness is found by counting, from the front.
use Rattle.std.proofs.Common.{◌≡◌, ℕ, suc, ◌+◌, ◌<◌, ◌&&◌, Bool, true, false, List, [], ◌∷◌, map, length, drop, get_or, count_by, nat_eq, bytes_eq, refl, ap, sym, ◌∙◌, drop-cons, arith, ◌↔◌, IsTrue}
use Rattle.std.proofs.lemmas.List.{length-map}
use Rattle.nq_model.specs.Values.{Nested, Same, same, same_fields, same_counts, elements_of, fields_of, nested}
use Rattle.nq_model.specs.declared.value.Value.{Value}
use Rattle.nq_model.specs.declared.value.Value.TheVariants.{Rec, Bag}
use Rattle.nq_model.proofs.Sameness.{elements_back, same_Decides}
use Rattle.nq_model.proofs.Trees.{nested_record, nested_bag}

and_false : (a b : Bool) → b ≡ false → (a && b) ≡ false
and_false true b e = e
and_false false b e = refl

pub counts_next : (all : List Value) (vs ws : List Nested) (i : ℕ) (x : Value) → i < length all → x ≡ get_or all i x →
    same_counts (elements_of (map nested (drop i all))) vs ws
    ≡ (nat_eq (count_by (same (nested x)) vs) (count_by (same (nested x)) ws) && same_counts (elements_of (map nested (drop (i + 1) all))) vs ws)
counts_next all vs ws i x h e =
    let next : suc i ≡ i + 1 = omega arith in
    ap (λ d. same_counts (elements_of (map nested d)) vs ws) (drop-cons all i x h ∙ ap (λ y. y ∷ drop (suc i) all) (sym e))
    ∙ ap (λ n. nat_eq (count_by (same (nested x)) vs) (count_by (same (nested x)) ws) && same_counts (elements_of (map nested (drop n all))) vs ws) next

nat_differ : (m n : ℕ) (b : Bool) → (m ≡ n → ⊥) → (nat_eq m n && b) ≡ false
nat_differ m n b h = grind arith

nat_same : (m n : ℕ) (b : Bool) → m ≡ n → (nat_eq m n && b) ≡ b
nat_same m n b h = grind arith

pub counts_fail : (all : List Value) (vs ws : List Nested) (i m n : ℕ) (x : Value) → i < length all → x ≡ get_or all i x →
    m ≡ count_by (same (nested x)) vs → n ≡ count_by (same (nested x)) ws → (m ≡ n → ⊥) →
    same_counts (elements_of (map nested (drop i all))) vs ws ≡ false
counts_fail all vs ws i m n x h e p q d =
    counts_next all vs ws i x h e ∙ nat_differ (count_by (same (nested x)) vs) (count_by (same (nested x)) ws) _ (λ r. d (p ∙ r ∙ sym q))

pub counts_go_on : (all : List Value) (vs ws : List Nested) (i m n : ℕ) (x : Value) → i < length all → x ≡ get_or all i x →
    m ≡ count_by (same (nested x)) vs → n ≡ count_by (same (nested x)) ws → m ≡ n →
    same_counts (elements_of (map nested (drop i all))) vs ws ≡ same_counts (elements_of (map nested (drop (i + 1) all))) vs ws
counts_go_on all vs ws i m n x h e p q d =
    counts_next all vs ws i x h e ∙ nat_same (count_by (same (nested x)) vs) (count_by (same (nested x)) ws) _ (sym p ∙ d ∙ q)

-- records of different length are not the same
pub fields_differ : (fs gs : List (List ℕ × Nested)) → (length fs ≡ length gs → ⊥) → same_fields (fields_of fs) (fields_of gs) ≡ false
fields_differ [] [] h = absurd (h refl)
fields_differ [] (g ∷ gs) h = refl
fields_differ (f ∷ fs) [] h = refl
fields_differ (f ∷ fs) (g ∷ gs) h =
    and_false (bytes_eq f.0 g.0) _ (and_false (same f.1 g.1) _ (fields_differ fs gs (λ e. h (ap suc e))))

pub same_records : (xs ys : List (List ℕ × Value)) → same (nested (Rec xs)) (nested (Rec ys))
    ≡ same_fields (fields_of (map (λ f. (f.0, nested f.1)) xs)) (fields_of (map (λ f. (f.0, nested f.1)) ys))
same_records xs ys = rw (nested_record xs, nested_record ys) refl

pub same_bags : (xs ys : List Value) → same (nested (Bag xs)) (nested (Bag ys))
    ≡ (nat_eq (length xs) (length ys) && same_counts (elements_of (map nested xs)) (map nested xs) (map nested ys))
same_bags xs ys =
    rw (nested_bag xs, nested_bag ys, elements_back (map nested xs), elements_back (map nested ys), length-map, length-map) refl

-- what counting answers is whether the two are the same
pub same_answered : (r : Bool) (v w : Nested) → r ≡ same v w → IsTrue r ↔ Same v w
same_answered r v w e = let d = same_Decides v w in (λ h. d.0 (sym e ∙ h), λ h. e ∙ d.1 h)
