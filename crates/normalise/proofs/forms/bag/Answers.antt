use Rattle.std.proofs.Common.{◌∙◌}
use Rattle.std.proofs.lemmas.Result.{IfOk-weaker}
use Rattle.normalise.proofs.Views.{body_bag}
use Rattle.normalise.proofs.forms.bag.Goals as goal

pub returns : goal.returns
returns c = IfOk-weaker c.new.result _ _ (λ b e. e ∙ body_bag c.args.comps) c.new.ensures
