use Rattle.std.proofs.Common.{◌-◌, arith}
use Rattle.stitcher.proofs.Grouping.{none_going, one_more, all_grouped}
use Rattle.stitcher.proofs.groups.group.Goals as goal

pub loop-done-init : goal.loop-done-init
loop-done-init g c =
    none_going g.S.Index.PartialEq.eq ((g.S.IndexScheme.scheme c.args.scheme.now).outer c.args.path) c.args.rows.now c.in_ok-groups.groups.firsts c.in_ok-groups.groups.nexts c.in_ok-groups.ensures.none c.in_ok-groups.ensures.empty

pub loop-done-preserved : goal.loop-done-preserved
loop-done-preserved g c =
    one_more g.S.Index.PartialEq.eq ((g.S.IndexScheme.scheme c.args.scheme.now).outer c.args.path) c.args.rows.now g.met.S.Index.Eq.laws c.loop-done.done (c.len-in-loop-done.result - 1 - c.loop-done.done) c.loop-done.groups.firsts c.push_front.new.self.firsts c.loop-done.groups.nexts c.push_front.new.self.nexts c.in_ok-outer.field-0 (omega arith) (omega arith) c.in_ok-outer.ensures c.in_ok-push_front.ensures c.loop-done.invariant

pub returns-clause-grouped : goal.returns-clause-grouped
returns-clause-grouped g c =
    all_grouped g.S.Index.PartialEq.eq ((g.S.IndexScheme.scheme c.args.scheme.now).outer c.args.path) c.args.rows.now c.loop-done.done c.loop-done.groups.firsts c.loop-done.groups.nexts (omega arith) (omega arith) c.loop-done.invariant

pub returns-clause-counted : goal.returns-clause-counted
returns-clause-counted g c = omega (arith, c.loop-done.invariant.counted)

pub returns-clause-goes_on : goal.returns-clause-goes_on
returns-clause-goes_on g c = c.loop-done.invariant.goes_on
