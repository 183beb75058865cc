use Rattle.nq_types.specs.Scopes.{types_in}
use Rattle.nq_types.proofs.RecordFacts.{record_given, record_faults, handed_on}
use Rattle.nq_types.proofs.walk.+walk.Goals as goal

pub check_node-returns-in_err-fields-in-Rec : goal.check_node-returns-in_err-fields-in-Rec
check_node-returns-in_err-fields-in-Rec t c =
    let h = record_faults c.args.tables.now.schema.now (types_in c.args.scope.now) c.args.place c.args.node.now c.in-Rec.fields _ c.in-Rec.is (rw c.as_slice.ensures at c.in_err-fields-in-Rec.ensures.err) in
    handed_on c.from_residual-in_err-fields-in-Rec.result _ _ c.from_residual-in_err-fields-in-Rec.ensures.1 h

pub check_node-returns-in_ok-in_label_order-in-Rec :
    goal.check_node-returns-in_ok-in_label_order-in-Rec
check_node-returns-in_ok-in_label_order-in-Rec t c =
    record_given c.args.tables.now.schema.now (types_in c.args.scope.now) c.args.place c.args.node.now c.in-Rec.fields c.in_ok-fields-in-Rec.fields c.in_ok-in_label_order-in-Rec.field-0
    c.in-Rec.is (rw c.as_slice.ensures at c.in_ok-fields-in-Rec.ensures.ok) c.in_ok-in_label_order-in-Rec.ensures
