use Rattle.std.proofs.Common.{◌∙◌, sym, arith}
use Rattle.canon.proofs.Ends.{labels_end}
use Rattle.canon.proofs.order.compare_labels.Goals as goal

pub returns : goal.returns
returns c =
    c.cmp.ensures ∙ sym (labels_end c.args.left.now c.args.right.now c.loop-i.i
    (omega (arith, c.min-i-end.ensures))) ∙ c.loop-i.invariant
