use Rattle.std.proofs.Common.{◌<◌, ◌∙◌, length, arith}
use Rattle.std.proofs.lemmas.List.{get_or_default}
use Rattle.nq_model.specs.CellRefs.{cell_seen}
use Rattle.rows.specs.Places.{row_at}
use Rattle.canon.proofs.RowTexts.{cells_more}
use Rattle.canon.proofs.Writing.{appended}
use Rattle.canon.proofs.row_lines.write_line.Goals as goal

pub loop-column-preserved : goal.loop-column-preserved
loop-column-preserved c =
    let row = row_at c.args.rows.now c.args.row in
    let column = c.loop-column.column in
    let cell = cell_seen c.cell.result in
    let below : column < length row = omega (
      arith,
      c.loop-column-test.true,
      c.width-column-end.ensures,
    ) in
    let next = cells_more row column cell below (c.cell.ensures
    ∙ get_or_default row column _ cell below) in
    appended _ _ _ _ _ _ _ _ c.loop-column.invariant c.in_ok-write_bar.ensures
    c.in_ok-write_cell.ensures next
