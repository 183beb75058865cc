use Rattle.std.proofs.Common.{arith}
use Rattle.diagnostics.proofs.ColumnSteps.{split_is}
use Rattle.diagnostics.proofs.columns.split_column.Goals as goal

pub returns-clause-columns : goal.returns-clause-columns
returns-clause-columns c =
    split_is c.args.bytes.now c.split_at.result.0.now c.split_at.result.1.now c.column_len.result
    (omega arith)
    c.column_len.ensures c.split_at.ensures.front c.split_at.ensures.back
