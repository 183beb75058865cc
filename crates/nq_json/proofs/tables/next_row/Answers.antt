use Rattle.std.proofs.Common.{map, All, ◌∙◌}
use Rattle.std.proofs.lemmas.List.Elements.{All-push}
use Rattle.nq_model.specs.CellRefs.{cell_seen}
use Rattle.nq_model.specs.Cells.{RowFits}
use Rattle.nq_model.specs.SchemaTables.{IsSound}
use Rattle.nq_model.specs.Tables.{types_of}
use Rattle.row_keys.proofs.TwinFacts.{keys_more}
use Rattle.nq_json.proofs.tables.next_row.Goals as goal

pub returns-clause-table : goal.returns-clause-table
returns-clause-table c = λ keeps table.
    let rows = c.args.rows.now in
    let row = map cell_seen c.in_ok-cells.cells.items in
    record {
      fit = All-push (RowFits (types_of c.args.shape.now.columns)) rows row table.fit (rw c.as_slice.ensures at c.in_ok-cells.ensures.fit);
      sound = All-push (All IsSound) rows row table.sound c.in_ok-cells.ensures.sound;
      keys_differ = keys_more c.args.shape.now rows row table.keys_differ (rw c.as_slice-2.ensures.value at c.in_ok-earlier.ensures.twin keeps ∙ c.in-None.is);
    }
