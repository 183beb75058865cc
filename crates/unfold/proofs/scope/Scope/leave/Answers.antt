use Rattle.unfold.proofs.Scopes.{left_by}
use Rattle.unfold.proofs.scope.Scope.leave.Goals as goal

pub returns : goal.returns
returns c = λ es e h.
    left_by c.pop.result c.pop.new.self.items c.args.self.now.binders.items _ _ es e c.args.self.now.binders.ok.0 c.pop.ensures.items c.pop.ensures.cases h
