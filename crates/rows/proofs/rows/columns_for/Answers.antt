use Rattle.std.proofs.Common.{◌∙◌, ◌++◌, List, [], ◌∷◌, pos, sym, ap₂}
use Rattle.std.proofs.lemmas.List.{map_more}
use Rattle.nq_model.specs.declared.table.Cell.{Cell}
use Rattle.nq_model.specs.declared.cell_ref.CellRef.{CellRef}
use Rattle.nq_model.specs.declared.cell_ref.CellRef.TheVariants as seen
use Rattle.rows.proofs.rows.columns_for.Goals as goal

abbrev none : CellRef → List Cell
none x = []

pub loop-preserved : goal.loop-preserved
loop-preserved c =
    c.in_ok-push.ensures.items
    ∙ ap₂ (λ (columns : List (List Cell)) (column : List Cell). columns ++ column ∷ []) c.loop.invariant c.new.ensures
    ∙ sym (map_more none c.args.row.now c.loop.index (seen.Int (pos 0)) c.loop-test.true)
