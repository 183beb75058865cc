use Rattle.std.proofs.Common.{arith}
use Rattle.nq_types.proofs.Writing.{appended, three_pieces, fields_more}
use Rattle.nq_types.proofs.text.+put.Goals as goal

pub put_record-loop-i-preserved : goal.put_record-loop-i-preserved
put_record-loop-i-preserved t c =
    let next = fields_more c.args.fields.now c.loop-i.i c.index-fields-i.result (omega arith) c.index-fields-i.is in
    let field = three_pieces _ _ _ _ _ _ _ (rw c.as_str.ensures.value at c.in_ok-push_str-2.ensures.bytes) c.in_ok-push_str-3.ensures.bytes c.in_ok-put_type.ensures in
    appended _ _ _ _ _ _ _ _ c.loop-i.invariant c.in_ok-put_separator.ensures field next
