use Rattle.std.proofs.Common.{◌<◌, length, arith}
use Rattle.std.proofs.lemmas.Result.{err_from_is_err_and}
use Rattle.schema_reader.proofs.Told.{columns_told}
use Rattle.schema_reader.proofs.shapes.columns_of.Goals as goal

pub returns-in_err-judge_column : goal.returns-in_err-judge_column
returns-in_err-judge_column c =
    let p = err_from_is_err_and c.from_residual.result c.from_residual.ensures.1 in
    let h = rw c.as_slice.ensures at c.in_err-judge_column.ensures in
    let l : c.loop-column.column-index < length c.args.written.now = omega arith in
    rw (p.1, p.2) (columns_told c.args.written.now c.loop-column.column-index _ _ c.in_err-judge_column.field-0.0 l h c.loop-column.invariant.left)
