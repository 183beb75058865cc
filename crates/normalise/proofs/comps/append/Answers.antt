use Rattle.std.proofs.Common.{ap, ◌∙◌}
use Rattle.std.proofs.lemmas.Result.{IfOk-weaker}
use Rattle.normalise.specs.Raw.{raw_comps}
use Rattle.normalise.proofs.Lists.{comps_joined}
use Rattle.normalise.proofs.comps.append.Goals as goal

pub returns : goal.returns
returns c = IfOk-weaker c.joined.result _ _ (λ l e. ap raw_comps e ∙ comps_joined c.args.left c.args.right) c.joined.ensures
