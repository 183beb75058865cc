use Rattle.std.proofs.Common.{arith}
use Rattle.reference_forms.proofs.Loops.{row_ends}
use Rattle.reference_forms.proofs.named.named_row.Goals as goal

pub returns : goal.returns
returns c = row_ends c.args.columns.now c.args.cells.now c.loop-at.at c.loop-at.row (omega arith) c.loop-at.invariant
