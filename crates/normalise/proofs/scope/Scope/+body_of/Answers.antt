use Rattle.normalise.specs.Scopes.{bodies}
use Rattle.normalise.proofs.MovedBodies.{found_under}
use Rattle.normalise.proofs.Scopes.{scope_under}
use Rattle.normalise.proofs.scope.Scope.+body_of.Goals as goal

pub returns-in_ok-plus-in-Under : goal.returns-in_ok-plus-in-Under
returns-in_ok-plus-in-Under t c =
    rw (c.in-Under.is, scope_under c.in-Under.count c.in-Under.outer, found_under c.args.more c.in-Under.count c.args.k (bodies c.in-Under.outer.now)) (rw c.in_ok-plus-in-Under.ensures at c.body_of-in-Under.ensures)
