use Rattle.std.proofs.Common.{◌≡◌, ◌∙◌, ◌++◌, ◌∷◌, [], ◌<◌, length, ap, ap₂, sym, arith}
use Rattle.std.proofs.lemmas.Result.{on_ok_weaker}
use Rattle.nq_model.specs.Types.{type_tree, field_types_of, fields_view}
use Rattle.nq_ir.specs.declared.path.Step.TheVariants.{Field}
use Rattle.nq_ir.specs.Paths.{paths, paths_in}
use Rattle.shred_types.specs.Under.{steps_of, under}
use Rattle.shred_types.proofs.Under.{steps_pushed, under_bag, field_pushed, type_of_bag}
use Rattle.shred_types.proofs.walk.+paths.Goals as goal

pub push_paths-returns-in_ok-deeper-in-Bag : goal.push_paths-returns-in_ok-deeper-in-Bag
push_paths-returns-in_ok-deeper-in-Bag t c =
    let before = steps_of c.args.all.now in
    let own = steps_of c.push.new.self in
    let steps = c.args.steps.now in
    let a = type_tree c.in-Bag.element.value in
    let pushed : own ≡ before ++ steps ∷ [] = steps_pushed c.args.all.now c.push.new.self (record { steps = c.in_ok-copied-in-Bag.field-0 }) c.in_ok-push-in-Bag.ensures.ok ∙ ap (λ z. before ++ z ∷ []) c.in_ok-copied-in-Bag.ensures in
    on_ok_weaker c.push_paths.result (λ w.
    under_bag steps a before own (steps_of c.push_paths.new.all) pushed (w ∙ ap₂ (λ d x. own ++ under d (paths (type_tree x))) (c.as_slice-in-Bag.ensures ∙ c.in_ok-deeper-in-Bag.ensures) c.deref.ensures)
    ∙ ap (λ z. before ++ under steps (paths z)) (sym (ap type_tree c.in-Bag.is ∙ type_of_bag c.in-Bag.element))) c.push_paths.ensures

pub push_field_paths-loop-field-preserved : goal.push_field_paths-loop-field-preserved
push_field_paths-loop-field-preserved t c =
    let inside : c.loop-field.field-index < length c.args.fields.now = omega arith in
    field_pushed c.args.fields.now c.loop-field.field-index c.field-item.result inside c.field-item.is c.args.steps.now c.as_slice.result.now (steps_of c.loop-field.all) (steps_of c.push_paths.new.all) (steps_of c.args.all.now ++ under c.args.steps.now (paths_in (field_types_of (fields_view c.args.fields.now)))) (c.as_slice.ensures ∙ c.in_ok-deeper.ensures ∙ ap (λ z. c.args.steps.now ++ Field z ∷ []) c.in_ok-copy.ensures) c.in_ok-push_paths.ensures c.loop-field.invariant
