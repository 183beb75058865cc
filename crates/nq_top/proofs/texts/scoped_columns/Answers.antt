use Rattle.nq_top.proofs.SqlReadings.{columns_said}
use Rattle.nq_top.proofs.texts.scoped_columns.Goals as goal

pub returns-in-Ok-clause-says : goal.returns-in-Ok-clause-says
returns-in-Ok-clause-says c = λ text. columns_said c.args.schema.now c.args.tree.now c.in-Ok.types text c.in-Ok.ensures.ok
