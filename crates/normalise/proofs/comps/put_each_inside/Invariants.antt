use Rattle.std.proofs.Common.{◌≡◌, ◌++◌, map}
use Rattle.normalise.specs.Raw.{comp_part, inside_part, test_part}
use Rattle.normalise.proofs.comps.put_each_inside.Given as goal

abbrev pub invariant-loop-part : goal.invariant-loop-part
invariant-loop-part l =
    map comp_part l.all ≡ map comp_part l.initial.all ++ map (inside_part (test_part l.outer).tables (test_part l.outer).conds) (map comp_part l.yielded)
