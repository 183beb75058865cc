use Rattle.std.proofs.Common.{◌≡◌, ◌++◌, map}
use Rattle.normalise.specs.Raw.{test_inside, test_part}
use Rattle.normalise.proofs.tests.put_each_test_inside.Given as goal

abbrev pub invariant-loop-part : goal.invariant-loop-part
invariant-loop-part l =
    map test_part l.all ≡ map test_part l.initial.all ++ map (test_inside (test_part l.outer).tables (test_part l.outer).conds) (map test_part l.yielded)
