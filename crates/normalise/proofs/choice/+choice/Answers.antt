use Rattle.std.proofs.Common.{◌≡◌, ◌≤◌, ◌+◌, suc, arith, ap₂, ◌++◌, ◌∷◌, [], ap, sym, ◌∙◌, append_assoc, append-nil, length, reverse, List}
use Rattle.std.specs.Vec.Iter.{into_iter_items, into_iter_len}
use Rattle.std.proofs.lemmas.List.{map-append}
use Rattle.std.proofs.lemmas.Result.{IfOk-weaker}
use Rattle.nq_model.specs.NamedRows.{Label}
use Rattle.nq_ir.specs.RawForms.{RawBody, choice}
use Rattle.normalise.specs.Choices.{choice_list, weight, weights}
use Rattle.normalise.specs.Raw.{fields_of, fields_view, moved_base, moved_body, raw_body, raw_fields_of}
use Rattle.normalise.specs.declared.raw.MovedBody.{MovedBody}
use Rattle.normalise.proofs.Views.{body_rec}
use Rattle.normalise.proofs.Choices.{choices_are, choice_step, none_left}
use Rattle.normalise.proofs.choice.+choice.Goals as goal

pub fields_choice-loop-field-preserved : goal.fields_choice-loop-field-preserved
fields_choice-loop-field-preserved t c =
    let x : Label × MovedBody = c.in-Some.field in
    let rest = into_iter_items c.next.new.self in
    let test = moved_base c.args.test.now in
    let step : into_iter_items c.loop-field.field-iterator ≡ x ∷ rest = (rw c.in-Some.is at c.next.ensures.steps).0 in
    let old = c.loop-field.all in
    let made : Label × MovedBody = c.in_ok-field_choice.field-0 in
    let one : Label × RawBody = (made.0, moved_body made.1) in
    let later = choice_list test (fields_view rest) (fields_view (reverse c.pop.new.self)) in
    let chosen = choice_step test x rest c.loop-field.right c.pop.new.self c.pop.result made c.pop.ensures c.in_ok-field_choice.ensures in
    let bound : weights (raw_fields_of rest) ≤ weights (raw_fields_of (x ∷ rest)) = omega arith in
    let whole = ap (λ (l : List (Label × MovedBody)). weights (raw_fields_of l)) step in
    let before = c.loop-field.invariant.1 in
    let count = c.loop-field.invariant.2 in
    let len : into_iter_len c.next.new.self + 1 ≡ into_iter_len c.loop-field.field-iterator = (rw c.in-Some.is at c.next.ensures.steps).1 in (
      ap (λ (l : List (Label × RawBody)). l ++ later) (ap fields_view c.in_ok-push.ensures.ok ∙ map-append (λ (f : Label × MovedBody). (f.0, moved_body f.1)) old (made ∷ []))
          ∙ append_assoc (fields_view old) (one ∷ []) later
          ∙ ap (λ (l : List (Label × RawBody)). fields_view old ++ l) (sym chosen ∙ ap (λ (l : List (Label × MovedBody)). choice_list test (fields_view l) (fields_view (reverse c.loop-field.right))) (sym step))
          ∙ c.loop-field.invariant.0,
      omega (arith, bound, whole, before),
      omega (arith, len, count, ap length step),
    )

pub choice-fields_choice-requires : goal.choice-fields_choice-requires
choice-fields_choice-requires t c =
    let old : weight (raw_body c.args.yes) ≡ suc (weights (raw_fields_of c.in-Rec.yes)) = ap weight (ap raw_body c.in-Rec.is ∙ body_rec c.in-Rec.yes) in
    (omega arith, tt)

pub fields_choice-field_choice-requires : goal.fields_choice-field_choice-requires
fields_choice-field_choice-requires t c =
    let whole : weights (raw_fields_of (into_iter_items c.loop-field.field-iterator)) ≡ suc (weight (moved_body c.in-Some.field.1) + weights (raw_fields_of (into_iter_items c.next.new.self))) = ap (λ (l : List (Label × MovedBody)). weights (raw_fields_of l)) (rw c.in-Some.is at c.next.ensures.steps).0 in
    let before = c.loop-field.invariant.1 in
    (omega arith, tt)

pub fields_choice-returns : goal.fields_choice-returns
fields_choice-returns t c =
    let test = moved_base c.args.test.now in
    let all = fields_view c.loop-field.all in
    let none : into_iter_items c.loop-field.field-iterator ≡ [] = none_left (into_iter_items c.loop-field.field-iterator) (sym c.loop-field.invariant.2 ∙ (rw c.in-None.is at c.next.ensures.steps).0) in
    ap fields_of (sym (append-nil all) ∙ ap (λ (l : List (Label × MovedBody)). all ++ choice_list test (fields_view l) (fields_view (reverse c.loop-field.right))) (sym none) ∙ c.loop-field.invariant.0)
    ∙ choices_are test (fields_view c.args.yes) (fields_view c.args.no)

pub chosen-returns : goal.chosen-returns
chosen-returns t c =
    IfOk-weaker c.new.result _ _ (λ m e. e ∙ c.in_ok-choice.ensures ∙ ap₂ (choice (moved_base c.args.test.now)) c.in_ok-yes.ensures c.in_ok-no.ensures) c.new.ensures

pub chosen-choice-requires : goal.chosen-choice-requires
chosen-choice-requires t c =
    let same : weight (raw_body c.in_ok-yes.yes) ≡ weight (moved_body c.args.yes) = ap weight c.in_ok-yes.ensures in
    (omega arith, tt)
