use Rattle.normalise.specs.Raw.{test_part}
use Rattle.normalise.proofs.Lists.{comp_inside}
use Rattle.normalise.proofs.comps.inside_one.Goals as goal

pub returns : goal.returns
returns c = comp_inside (test_part c.args.outer) c.args.part c.in_ok-whole.whole c.in_ok-whole.ensures
