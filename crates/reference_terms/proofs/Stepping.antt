-- Single steps: of fields, one after the other, and of whole terms until no step is left.
use Rattle.std.proofs.Common.{◌≡◌, ℕ, Bool, true, false, Option, Some, None, List, [], ◌∷◌, ◌++◌, refl, sym, ap, ◌∙◌, subst as along}
use Rattle.nq_model.specs.Terms.{PlacedTerm, PlacedFields, placed, placed_fields}
use Rattle.nq_model.specs.Unfolding.{part, step, step_fields, here, after, Steps, Unfolds}
use Rattle.nq_model.specs.declared.term.Term.{Term}
use Rattle.nq_model.proofs.Unfolding.{join}
use Rattle.reference_terms.specs.Stepping.{Tells, Then}

-- fields with one more behind them
abbrev behind : List ℕ → PlacedTerm → PlacedFields → PlacedFields
behind l t PlacedFields.none = PlacedFields.with_field l t PlacedFields.none
behind l t (PlacedFields.with_field m u fs) = PlacedFields.with_field m u (behind l t fs)

behind_all : (l : List ℕ) (t : Term) (fs : List (List ℕ × Term)) → placed_fields (fs ++ (l, t) ∷ []) ≡ behind l (placed t) (placed_fields fs)
behind_all l t [] = refl
behind_all l t (f ∷ fs) = ap (PlacedFields.with_field f.0 (placed f.1)) (behind_all l t fs)

behind_by : (l m : List ℕ) (o q : Option PlacedTerm) (t u : PlacedTerm) (fs : PlacedFields) (r s : Option PlacedFields)
    → s ≡ part r (behind l t) (part q (λ x. behind l x fs) None)
    → part o (λ x. PlacedFields.with_field m x (behind l t fs)) (part s (PlacedFields.with_field m u) None)
    ≡ part (part o (λ x. PlacedFields.with_field m x fs) (part r (PlacedFields.with_field m u) None)) (behind l t) (part q (λ x. behind l x (PlacedFields.with_field m u fs)) None)
behind_by l m (Some x) q t u fs r s e = refl
behind_by l m None q t u fs (Some y) s e = ap (λ z. part z (PlacedFields.with_field m u) None) e
behind_by l m None (Some y) t u fs None s e = ap (λ z. part z (PlacedFields.with_field m u) None) e
behind_by l m None None t u fs None s e = ap (λ z. part z (PlacedFields.with_field m u) None) e

step_behind : (l : List ℕ) (t : PlacedTerm) (fs : PlacedFields) → step_fields (behind l t fs) ≡ part (step_fields fs) (behind l t) (part (step t) (λ x. behind l x fs) None)
step_behind l t PlacedFields.none = refl
step_behind l t (PlacedFields.with_field m u fs) = behind_by l m (step u) (step t) t u fs (step_fields fs) (step_fields (behind l t fs)) (step_behind l t fs)

one_by : (l : List ℕ) (t u : PlacedTerm) (fs gs : PlacedFields) (o : Option PlacedFields) (q : Option PlacedTerm) (m n : Bool) → Tells o m fs gs → Then m q t n u → Tells (part o (behind l t) (part q (λ x. behind l x fs) None)) n (behind l t fs) (behind l u gs)
one_by l t u fs gs o q true true h k =
    ap (λ x. part x (behind l t) (part q (λ y. behind l y fs) None)) h ∙ ap (λ x. Some (behind l x gs)) (sym k.1)
one_by l t u fs gs o q true false h k = absurd (let e : false ≡ true = k.0 in cc)
one_by l t u fs gs o q false true h k =
    ap (λ x. part x (behind l t) (part q (λ y. behind l y fs) None)) h.0 ∙ ap (λ x. part x (λ y. behind l y fs) None) k ∙ ap (λ x. Some (behind l u x)) (sym h.1)
one_by l t u fs gs o q false false h k = (
  ap (λ x. part x (behind l t) (part q (λ y. behind l y fs) None)) h.0 ∙ ap (λ x. part x (λ y. behind l y fs) None) k.0,
  ap (λ x. behind l u x) h.1 ∙ ap (λ x. behind l x fs) k.1,
)

-- one more field behind those that the loop has seen
pub one_more_field : (l : List ℕ) (t u : Term) (fs gs new : List (List ℕ × Term)) (m n : Bool) → Tells (step_fields (placed_fields fs)) m (placed_fields fs) (placed_fields gs) → Then m (step (placed t)) (placed t) n (placed u) → new ≡ gs ++ (l, u) ∷ []
    → Tells (step_fields (placed_fields (fs ++ (l, t) ∷ []))) n (placed_fields (fs ++ (l, t) ∷ [])) (placed_fields new)
one_more_field l t u fs gs new m n h k e =
    let x = behind l (placed t) (placed_fields fs) in
    let y = behind l (placed u) (placed_fields gs) in
    along (λ z. Tells (step_fields z) n z (placed_fields new)) (sym (behind_all l t fs))
    (along (λ z. Tells (step_fields x) n x z) (sym (ap placed_fields e ∙ behind_all l u gs))
    (along (λ z. Tells z n x y) (sym (step_behind l (placed t) (placed_fields fs)))
    (one_by l (placed t) (placed u) (placed_fields fs) (placed_fields gs) (step_fields (placed_fields fs)) (step (placed t)) m n h k)))

-- one more step, and the end of the steps
pub one_more_step : (t u v : PlacedTerm) (moved : Bool) → Steps t u → Tells (step u) moved u v → moved ≡ true → Steps t v
one_more_step t u v true s h e = join s (after h here)
one_more_step t u v false s h e = absurd (cc)

pub no_more_steps : (t u v : PlacedTerm) (moved : Bool) → Steps t u → Tells (step u) moved u v → moved ≡ false → Unfolds t v
no_more_steps t u v true s h e = absurd (cc)
no_more_steps t u v false s h e = along (λ x. Unfolds t x) (sym h.1) (record { steps = s; ended = h.0 })
