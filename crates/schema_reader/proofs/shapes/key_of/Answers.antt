use Rattle.std.proofs.Common.{◌<◌, length, arith}
use Rattle.std.proofs.lemmas.Result.{err_from_is_err_and}
use Rattle.nq_model.specs.Tables.{names_of}
use Rattle.schema_reader.proofs.Told.{keys_told}
use Rattle.schema_reader.proofs.shapes.key_of.Goals as goal

pub returns-in_err-judge_key : goal.returns-in_err-judge_key
returns-in_err-judge_key c =
    let p = err_from_is_err_and c.from_residual.result c.from_residual.ensures.1 in
    let h = rw c.as_slice.ensures at c.in_err-judge_key.ensures in
    let l : c.loop-name.name-index < length c.args.written.now = omega arith in
    rw (p.1, p.2) (keys_told (names_of c.args.columns.now) c.args.written.now c.loop-name.name-index _ _ c.in_err-judge_key.field-0.0 l h c.loop-name.invariant.left)
