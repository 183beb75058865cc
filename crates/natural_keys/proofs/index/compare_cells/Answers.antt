use Rattle.std.proofs.Common.{◌∙◌, sym, arith}
use Rattle.natural_keys.proofs.CellLists.{cells_end}
use Rattle.natural_keys.proofs.index.compare_cells.Goals as goal

pub returns : goal.returns
returns c =
    c.cmp.ensures ∙ sym (cells_end c.args.left.now c.args.right.now c.loop-at.at
    (omega (arith, c.min-at-end.ensures))) ∙ c.loop-at.invariant
