use Rattle.std.proofs.Common.{◌≡◌, [], drop, length}
use Rattle.nq_model.specs.SchemaTables.{IsTableOf}
use Rattle.row_keys.specs.FirstRows.{KeepsIndex}
use Rattle.serde_json.specs.View.{items_view}
use Rattle.nq_json.specs.Tables.{rows_after}
use Rattle.nq_json.proofs.tables.read_json_table.Given as goal

abbrev pub invariant-loop-at : goal.invariant-loop-at
invariant-loop-at l = record {
  so_far : rows_after l.shape [] (items_view l.item-items) ≡ rows_after l.shape l.rows (items_view (drop l.at l.item-items));
  keeps : KeepsIndex l.shape l.rows l.index;
  table : IsTableOf l.shape l.rows;
  number : l.at ≡ length l.rows;
}
