use Rattle.std.proofs.Common.{List, ap, ◌∙◌}
use Rattle.nq_ir.proofs.Forms.{body_rec}
use Rattle.nq_ir.specs.Trees.{BodyTree, body_tree, bodies_of}
use Rattle.nq_model.specs.NamedRows.{Label}
use Rattle.lineage.proofs.Steps.{element_built}
use Rattle.lineage.specs.Places.{bodies_view}
use Rattle.lineage.specs.TraceForms.{element_fields, number_bodies}
use Rattle.lineage.proofs.bodies.whole_body.Goals as goal

pub returns : goal.returns
returns c =
    let rs = number_bodies c.args.count c.args.gens.now in
    body_rec c.in_ok-in_label_order.field-0
    ∙ ap (λ (fs : List (Label × BodyTree)). BodyTree.rec_body (bodies_of fs))
    (ap bodies_view c.in_ok-in_label_order.ensures
    ∙ element_built body_tree c.in_ok-from_str.field-0 c.in_ok-from_str-2.field-0
    c.in_ok-int_body.field-0 c.args.body rs c.new-fields.result.items c.push.new.self.items
    c.push_numbers.new.fields.items c.push-2.new.self.items c.new-fields.ensures.items
    c.in_ok-from_str.ensures c.in_ok-from_str-2.ensures c.in_ok-push.ensures.items
    c.in_ok-push_numbers.ensures c.in_ok-push-2.ensures.items
    ∙ ap (λ (t : BodyTree). element_fields t rs (body_tree c.args.body)) c.in_ok-int_body.ensures)
