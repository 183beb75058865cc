use Rattle.std.proofs.Common.{◌++◌, ap, ◌∙◌, map, List}
use Rattle.normalise.specs.Raw.{moved_base, test_inside, test_part}
use Rattle.normalise.specs.declared.raw.RawTest.{RawTest as CodeTest}
use Rattle.normalise.proofs.Lists.{tests_guarded}
use Rattle.normalise.proofs.tests.guarded_tests.Goals as goal

pub returns : goal.returns
returns c =
    let o = test_part c.in_ok-outer.outer in
    let added = map (test_inside o.tables o.conds) (map test_part c.args.parts) in
    tests_guarded (moved_base c.args.cond) o c.args.parts c.put_tests_inside.new.all c.in_ok-outer.ensures (c.in_ok-put_tests_inside.ensures ∙ ap (λ (z : List CodeTest). map test_part z ++ added) c.in_ok-all.ensures)
