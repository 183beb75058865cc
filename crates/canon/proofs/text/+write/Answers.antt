use Rattle.std.proofs.Common.{arith}
use Rattle.nq_model.specs.Values.{nested}
use Rattle.canon.proofs.Writing.{appended, three_pieces, elements_more, fields_more}
use Rattle.canon.proofs.text.+write.Goals as goal

pub write_bag-loop-i-preserved : goal.write_bag-loop-i-preserved
write_bag-loop-i-preserved t c =
    let next = elements_more nested c.args.elements.now c.loop-i.i c.index-elements-i.result
    (omega arith) c.index-elements-i.is in
    appended _ _ _ _ _ _ _ _ c.loop-i.invariant c.in_ok-write_separator.ensures
    c.in_ok-write_value.ensures next

pub write_record-loop-i-preserved : goal.write_record-loop-i-preserved
write_record-loop-i-preserved t c =
    let next = fields_more nested c.args.fields.now c.loop-i.i c.index-fields-i.result
    (omega arith) c.index-fields-i.is in
    let field = three_pieces _ _ _ _ _ _ _
    (rw c.as_str.ensures.value at c.in_ok-push_str-2.ensures.bytes)
    c.in_ok-push_str-3.ensures.bytes c.in_ok-write_value.ensures in
    appended _ _ _ _ _ _ _ _ c.loop-i.invariant c.in_ok-write_separator.ensures field next
