use Rattle.normalise.proofs.Lists.{bodiless_is}
use Rattle.normalise.proofs.tests.test_in.Goals as goal

pub returns : goal.returns
returns c = bodiless_is c.args.comp
