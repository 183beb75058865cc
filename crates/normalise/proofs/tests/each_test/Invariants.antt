use Rattle.std.proofs.Common.{◌≡◌, map}
use Rattle.normalise.specs.Raw.{bodiless, comp_part, test_part}
use Rattle.normalise.proofs.tests.each_test.Given as goal

abbrev pub invariant-loop-comp : goal.invariant-loop-comp
invariant-loop-comp l = map test_part l.tests ≡ map bodiless (map comp_part l.yielded)
