use Rattle.std.proofs.Common.{ap, ◌∙◌}
use Rattle.std.proofs.lemmas.Result.{IfOk-weaker}
use Rattle.normalise.specs.Raw.{raw_tests}
use Rattle.normalise.proofs.Lists.{tests_joined}
use Rattle.normalise.proofs.tests.append_tests.Goals as goal

pub returns : goal.returns
returns c = IfOk-weaker c.joined.result _ _ (λ l e. ap raw_tests e ∙ tests_joined c.args.left c.args.right) c.joined.ensures
