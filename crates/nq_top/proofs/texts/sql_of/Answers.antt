use Rattle.std.proofs.Common.{rules}
use Rattle.nq_top.proofs.SqlReadings.{sql_stops}
use Rattle.nq_top.proofs.texts.sql_of.Goals as goal

pub returns-in_err-types-clause-says : goal.returns-in_err-types-clause-says
returns-in_err-types-clause-says c = λ reading.
    sql_stops reading c.args.schema.now c.args.text c.as_slice.result.now c.in_err-types.field-0.0 c.from_residual.result (search rules) c.as_slice.ensures (c.in_err-types.ensures.says reading)
