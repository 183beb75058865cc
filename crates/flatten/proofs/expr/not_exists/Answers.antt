use Rattle.flatten.proofs.Lists.{not_exists_of}
use Rattle.flatten.proofs.expr.not_exists.Goals as goal

pub returns : goal.returns
returns c = not_exists_of 0 c.in_ok-query.query c.args.selects c.in_ok-query.ensures
