use Rattle.std.proofs.Common.{arith, All, sym, subst, ap, [], ◌∷◌, length, length-append}
use Rattle.nq_model.specs.Cells.{RowFits}
use Rattle.stitcher.specs.Schemes.{AnswerRows}
use Rattle.stitcher.specs.Stitching.{rows_of, HasGroups, EachInGroups}
use Rattle.stitcher.proofs.Ready.{rows_at, one_group_more}
use Rattle.stitcher.proofs.source.groups_of.Goals as goal

pub group-requires-clause-fits : goal.group-requires-clause-fits
group-requires-clause-fits g c =
    subst (λ (rows : AnswerRows). All (RowFits ((g.S.IndexScheme.scheme c.args.scheme.now).columns c.loop-path.path)) rows) (rows_at c.args.answers.now c.loop-path.path c.index-answers-path.result c.loop-path-test.true) (c.requires.fits c.loop-path.path)

pub loop-path-preserved : goal.loop-path-preserved
loop-path-preserved g c =
    let S = g.S.IndexScheme.scheme c.args.scheme.now in
    let rows = rows_of c.args.answers.now in
    let made = c.in_ok-group.ensures in
    let own = subst (λ (rows : AnswerRows). HasGroups g.S.Index.PartialEq.eq (S.outer c.loop-path.path) rows c.in_ok-group.field-0) (sym (rows_at c.args.answers.now c.loop-path.path c.index-answers-path.result c.loop-path-test.true)) (record { grouped = made.grouped; counted = made.counted; goes_on = made.goes_on }) in
    let is = c.in_ok-push.ensures.ok in
    record {
      counted = omega (arith, length-append c.loop-path.groups (c.in_ok-group.field-0 ∷ []), ap length is, c.loop-path.invariant.counted);
      each = subst (λ (groups : _). EachInGroups g.S.Index.PartialEq.eq S rows groups) (sym is) (one_group_more g.S.Index.PartialEq.eq S rows c.loop-path.groups c.loop-path.path c.in_ok-group.field-0 c.loop-path.invariant.counted own c.loop-path.invariant.each);
    }
