use Rattle.std.proofs.Common.{◌≡◌, ◌∷◌, List, IfOk, ap, sym, ◌∙◌, length, map, subst}
use Rattle.std.proofs.lemmas.List.{length-map}
use Rattle.nq_model.specs.Values.{Nested, nested}
use Rattle.nq_ir.specs.declared.path.Step.{Step}
use Rattle.nq_ir.specs.declared.path.Step.TheVariants.{Down}
use Rattle.nq_execute.proofs.Summaries.{none_under, bag_here, bag_inside}
use Rattle.nq_execute.proofs.summary.+count.Goals as goal

pub count_under-returns : goal.count_under-returns
count_under-returns t c =
    none_under c.args.label.now c.args.path.now c.args.fields.now c.loop-field.field-index c.loop-field-test.false c.loop-field.invariant

pub count_in_bag-returns-in-None : goal.count_in_bag-returns-in-None
count_in_bag-returns-in-None t c =
    sym (ap length (bag_here c.args.path.now (map nested c.args.elements.now) c.in-None.ensures.cases) ∙ length-map c.args.elements.now nested)

pub count_in_bag-returns-in-Some-Down-default : goal.count_in_bag-returns-in-Some-Down-default
count_in_bag-returns-in-Some-Down-default t c =
    let step = c.in-Some-Down-default in
    let is : c.args.path.now ≡ Down ∷ step.rest.now = step.ensures.cases.0 ∙ ap (λ (s : Step). s ∷ step.rest.now) step.field-0-0-is in
    let P : List Nested → Type 0 = λ es. IfOk c.count_inside.result (λ count. count ≡ length es) in
    subst P (sym (bag_inside c.args.path.now step.rest.now (map nested c.args.elements.now) is)) c.count_inside.ensures
