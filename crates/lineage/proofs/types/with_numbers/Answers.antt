use Rattle.std.proofs.Common.{List, ap, ◌∙◌}
use Rattle.nq_model.proofs.Terms.{type_of_record}
use Rattle.nq_model.specs.NamedRows.{Label}
use Rattle.nq_model.specs.Types.{TypeTree, field_types_of, type_tree, fields_view}
use Rattle.nq_model.specs.declared.ty.Ty.TheVariants as ty
use Rattle.lineage.proofs.Steps.{element_built}
use Rattle.lineage.proofs.Views.{type_int}
use Rattle.lineage.specs.TraceForms.{element_fields, ints}
use Rattle.lineage.proofs.types.with_numbers.Goals as goal

pub returns : goal.returns
returns c =
    type_of_record c.in_ok-in_label_order.field-0
    ∙ ap (λ (fs : List (Label × TypeTree)). TypeTree.rec (field_types_of fs))
    (ap fields_view c.in_ok-in_label_order.ensures
    ∙ element_built type_tree c.in_ok-from_str.field-0 c.in_ok-from_str-2.field-0 ty.Int
    c.args.value
    (ints c.args.count) c.new-fields.result.items c.push.new.self.items c.push_ints.new.fields.items
    c.push-2.new.self.items c.new-fields.ensures.items c.in_ok-from_str.ensures
    c.in_ok-from_str-2.ensures c.in_ok-push.ensures.items c.in_ok-push_ints.ensures
    c.in_ok-push-2.ensures.items
    ∙ ap (λ (t : TypeTree). element_fields t (ints c.args.count) (type_tree c.args.value)) type_int)
