use Rattle.std.proofs.Common.{rules, get_or, []}
use Rattle.std.proofs.lemmas.List.{take_all}
use Rattle.std.proofs.lemmas.List.Elements.{All-more}
use Rattle.nq_model.specs.Cells.{RowFits}
use Rattle.sql_profile.proofs.answer.fits.Goals as goal

pub loop-index-preserved : goal.loop-index-preserved
loop-index-preserved c =
    let types = c.args.columns.now in
    let here : RowFits types (get_or c.args.answer.now.rows c.loop-index.index []) = search rules in
    All-more (RowFits types) c.args.answer.now.rows c.loop-index.index [] (search rules) c.loop-index.invariant here

pub returns-clause-ok : goal.returns-clause-ok
returns-clause-ok c =
    rw (take_all c.loop-index.index c.args.answer.now.rows (search rules)) at c.loop-index.invariant
