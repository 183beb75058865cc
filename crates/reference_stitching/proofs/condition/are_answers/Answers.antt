use Rattle.std.proofs.Common.{◌≡◌, List, All, sym, subst, ◌∙◌, arith, length}
use Rattle.nq_model.specs.Cells.{RowFits}
use Rattle.nq_model.specs.declared.table.ColumnType.{ColumnType}
use Rattle.stitcher.specs.Schemes.{AnswerRows}
use Rattle.nq_model.specs.Types.{type_tree}
use Rattle.reference_stitching.proofs.Answered.{no_error, paths_counted, is_path, one_more_fits, all_fit}
use Rattle.reference_stitching.proofs.condition.are_answers.Goals as goal

pub columns-requires : goal.columns-requires
columns-requires g c =
    let many = paths_counted c.in_ok-paths.paths (type_tree c.args.of.now) c.in_ok-paths.ensures in
    is_path (g.S.IndexScheme.scheme c.args.scheme.now) (type_tree c.args.of.now) c.loop-path.path (length c.args.answers.now) c.requires (omega (arith, many)) (omega arith)

pub loop-path-preserved : goal.loop-path-preserved
loop-path-preserved g c =
    let S = g.S.IndexScheme.scheme c.args.scheme.now in
    let rows : AnswerRows = c.index-answers-path.result.rows in
    let fit = no_error (All (RowFits c.as_slice.result.now) rows) c.fits.result (sym c.is_err.ensures.value ∙ c.if-is_err.false) c.fits.ensures.ok in
    let types : c.as_slice.result.now ≡ S.columns c.loop-path.path = c.as_slice.ensures ∙ c.in_ok-columns.ensures in
    one_more_fits (g.S.IndexScheme.scheme c.args.scheme.now) c.args.answers.now c.loop-path.path c.index-answers-path.result c.loop-path-test.true c.index-answers-path.is (subst (λ (t : List ColumnType). All (RowFits t) rows) types fit) c.loop-path.invariant

pub returns : goal.returns
returns g c = λ _.
    let many = paths_counted c.in_ok-paths.paths (type_tree c.args.of.now) c.in_ok-paths.ensures in
    all_fit (g.S.IndexScheme.scheme c.args.scheme.now) (type_tree c.args.of.now) c.args.answers.now c.loop-path.path c.requires (omega (arith, many)) (omega arith) c.loop-path.invariant
