use Rattle.std.proofs.Common.{ℕ, get_or, arith, codes}
use Rattle.std.proofs.lemmas.List.{get_or_default}
use Rattle.nq_model.specs.Canonical.{written}
use Rattle.nq_model.specs.Separators.{separator}
use Rattle.rows.specs.Places.{row_at}
use Rattle.answer_text.specs.Parts.{value_in}
use Rattle.canon.proofs.Writing.{appended, fields_more}
use Rattle.answer_text.proofs.Headed.{headed}
use Rattle.answer_text.proofs.Placed.{rows_more}
use Rattle.answer_text.proofs.write.+write.Goals as goal

pub write_bag-loop-i-preserved : goal.write_bag-loop-i-preserved
write_bag-loop-i-preserved t c =
    let places = c.args.places.now in
    let i = c.loop-i.i in
    let place : ℕ = get_or places i 0 in
    let next = rows_more (value_in c.args.element.now) c.args.rows.now places i place (omega arith)
    (get_or_default places i 0 place (omega arith)) in
    appended _ _ _ _ _ _ _ _ c.loop-i.invariant c.in_ok-write_separator.ensures
    c.in_ok-write_part.ensures next

pub write_fields-loop-i-preserved : goal.write_fields-loop-i-preserved
write_fields-loop-i-preserved t c =
    let next = fields_more (λ part. value_in part (row_at c.args.rows.now c.args.row))
    c.args.fields.now c.loop-i.i c.index-fields-i.result (omega arith) c.index-fields-i.is in
    let field = c.index-fields-i.result in
    let value = written (value_in field.1 (row_at c.args.rows.now c.args.row)) in
    headed _ _ _ _ _ (separator c.loop-i.i) field.0 (codes " = ") value _ c.loop-i.invariant
    c.in_ok-write.ensures c.in_ok-write_part.ensures next
