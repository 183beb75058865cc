use Rattle.std.proofs.Common.{◌∙◌, sym, arith}
use Rattle.nq_model.specs.Values.{nested}
use Rattle.canon.proofs.Ends.{elements_end, fields_end}
use Rattle.canon.proofs.order.+compare.Goals as goal

pub compare_bags-returns : goal.compare_bags-returns
compare_bags-returns t c =
    c.cmp.ensures ∙ sym (elements_end nested c.args.elements.now c.args.others.now c.loop-i.i
    (omega (arith, c.min-i-end.ensures))) ∙ c.loop-i.invariant

pub compare_fields-returns : goal.compare_fields-returns
compare_fields-returns t c =
    c.cmp.ensures ∙ sym (fields_end c.args.left.now c.args.right.now c.loop-i.i
    (omega (arith, c.min-i-end.ensures))) ∙ c.loop-i.invariant
