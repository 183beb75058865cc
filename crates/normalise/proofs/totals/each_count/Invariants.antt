use Rattle.std.proofs.Common.{◌≡◌, map}
use Rattle.normalise.specs.Raw.{count_in, moved_base, test_part}
use Rattle.normalise.proofs.totals.each_count.Given as goal

abbrev pub invariant-loop-test : goal.invariant-loop-test
invariant-loop-test l = map moved_base l.all ≡ map count_in (map test_part l.yielded)
