use Rattle.sql_scope.proofs.Scopes.{aliases_outermost}
use Rattle.sql_scope.proofs.walk.judge_whole.Goals as goal

pub returns : goal.returns
returns c = rw aliases_outermost at c.judge_query.ensures
