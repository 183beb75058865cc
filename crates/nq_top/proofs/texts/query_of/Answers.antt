use Rattle.std.proofs.Common.{rules}
use Rattle.nq_top.proofs.QueryReadings.{query_said, query_stops, type_stops}
use Rattle.nq_top.proofs.texts.query_of.Goals as goal

pub returns-in_err-term-clause-says : goal.returns-in_err-term-clause-says
returns-in_err-term-clause-says c = λ reading.
    query_stops reading c.args.schema.now c.args.text.now c.in_err-term.field-0.0 _ (search rules) (c.in_err-term.ensures.says reading)

pub returns-in_err-ty-clause-says : goal.returns-in_err-ty-clause-says
returns-in_err-ty-clause-says c = λ reading.
    type_stops reading c.args.schema.now c.args.text.now c.in_ok-term.term c.in_err-ty.field-0.0 _ (search rules) (c.in_ok-term.ensures.says reading) c.in_err-ty.ensures.says

pub returns-clause-says : goal.returns-clause-says
returns-clause-says c = λ reading.
    query_said reading c.args.schema.now c.args.text.now c.in_ok-term.term c.in_ok-ty.ty (c.in_ok-term.ensures.says reading) c.in_ok-ty.ensures.says
