use Rattle.std.proofs.Common.{ap, ◌∙◌, map}
use Rattle.std.proofs.lemmas.Result.{IfOk-weaker}
use Rattle.normalise.specs.Raw.{comp_part, tests_of}
use Rattle.normalise.proofs.Lists.{tests_bodiless}
use Rattle.normalise.proofs.tests.tests_of.Goals as goal

pub returns : goal.returns
returns c = IfOk-weaker c.each_test.result _ _ (λ ts e. ap tests_of e ∙ tests_bodiless (map comp_part c.args.comps)) c.each_test.ensures
