use Rattle.std.proofs.Common.{◌≡◌, map}
use Rattle.normalise.specs.Raw.{comp_part, moved_base, sum_in}
use Rattle.normalise.proofs.totals.each_sum.Given as goal

abbrev pub invariant-loop-comp : goal.invariant-loop-comp
invariant-loop-comp l = map moved_base l.all ≡ map sum_in (map comp_part l.yielded)
