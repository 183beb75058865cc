use Rattle.flatten.proofs.Lists.{query_seen}
use Rattle.flatten.proofs.text.query.Goals as goal

pub returns : goal.returns
returns c = query_seen c.args.selects
