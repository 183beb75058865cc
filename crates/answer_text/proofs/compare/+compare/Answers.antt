use Rattle.std.proofs.Common.{◌∙◌, sym, arith}
use Rattle.answer_text.specs.Parts.{value_in}
use Rattle.answer_text.proofs.Placed.{places_end}
use Rattle.answer_text.proofs.compare.+compare.Goals as goal

pub compare_bags-returns : goal.compare_bags-returns
compare_bags-returns t c =
    c.cmp.ensures ∙ sym (places_end (value_in c.args.element.now) c.args.rows.now
    c.args.elements.now c.args.others.now c.loop-i.i (omega (arith, c.min-i-end.ensures)))
    ∙ c.loop-i.invariant
