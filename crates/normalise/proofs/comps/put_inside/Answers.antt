use Rattle.std.proofs.Common.{rules, ◌≡◌, ◌++◌, map}
use Rattle.normalise.specs.Raw.{comp_part, inside_part, test_part}
use Rattle.normalise.proofs.Lists.{put_last}
use Rattle.normalise.proofs.comps.put_inside.Goals as goal

pub returns-in_ok-push-in-Some : goal.returns-in_ok-push-in-Some
returns-in_ok-push-in-Some c =
    let gs = (test_part c.args.outer).tables in
    let bs = (test_part c.args.outer).conds in
    let old = c.args.all.now in
    let mid = c.put_each_inside.new.all in
    let before = c.pop.new.self in
    let last = c.in-Some.last in
    let made = c.in_ok-part-in-Some.part in
    let each : map comp_part mid ≡ map comp_part old ++ map (inside_part gs bs) (map comp_part before) = search rules in
    let one : comp_part made ≡ inside_part gs bs (comp_part last) = search rules in
    put_last comp_part (inside_part gs bs) old mid c.push.new.self c.args.parts before last made c.in-Some.ensures each one c.in_ok-push-in-Some.ensures.ok
