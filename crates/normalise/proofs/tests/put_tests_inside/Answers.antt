use Rattle.std.proofs.Common.{rules, ◌≡◌, ◌++◌, map}
use Rattle.normalise.specs.Raw.{test_part, test_inside}
use Rattle.normalise.proofs.Lists.{put_last}
use Rattle.normalise.proofs.tests.put_tests_inside.Goals as goal

pub returns-in_ok-push-in-Some : goal.returns-in_ok-push-in-Some
returns-in_ok-push-in-Some c =
    let gs = (test_part c.args.outer).tables in
    let bs = (test_part c.args.outer).conds in
    let old = c.args.all.now in
    let mid = c.put_each_test_inside.new.all in
    let before = c.pop.new.self in
    let last = c.in-Some.last in
    let made = c.in_ok-part-in-Some.part in
    let each : map test_part mid ≡ map test_part old ++ map (test_inside gs bs) (map test_part before) = search rules in
    let one : test_part made ≡ test_inside gs bs (test_part last) = search rules in
    put_last test_part (test_inside gs bs) old mid c.push.new.self c.args.parts before last made c.in-Some.ensures each one c.in_ok-push-in-Some.ensures.ok
