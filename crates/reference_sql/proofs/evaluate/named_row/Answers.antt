use Rattle.std.proofs.Common.{arith}
use Rattle.reference_sql.proofs.Besides.{all_zipped}
use Rattle.reference_sql.proofs.evaluate.named_row.Goals as goal

pub returns : goal.returns
returns c =
    all_zipped c.args.names.now c.args.row.now c.loop-i.fields _ c.loop-i.i (omega (arith, c.min-i-end.ensures)) c.loop-i.invariant
