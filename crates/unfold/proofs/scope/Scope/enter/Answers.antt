use Rattle.unfold.proofs.Scopes.{entered}
use Rattle.unfold.proofs.scope.Scope.enter.Goals as goal

pub returns : goal.returns
returns c = λ es e h i.
    entered c.args.self.now.binders.items c.push.new.self.items c.args.binder es e c.in_ok-push.ensures.items h i
