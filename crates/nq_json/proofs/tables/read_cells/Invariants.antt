use Rattle.std.proofs.Common.{◌≡◌, ◌+◌, drop, take, map, All}
use Rattle.nq_model.specs.CellRefs.{cell_seen}
use Rattle.nq_model.specs.Cells.{RowFits}
use Rattle.nq_model.specs.SchemaTables.{IsSound}
use Rattle.nq_model.specs.Tables.{types_of}
use Rattle.serde_json.specs.View.{members_view}
use Rattle.nq_json.specs.Tables.{cells_from}
use Rattle.nq_json.proofs.CellFacts.{cells_then}
use Rattle.nq_json.proofs.tables.read_cells.Given as goal

abbrev pub invariant-loop-at : goal.invariant-loop-at
invariant-loop-at l = record {
  so_far : cells_from l.row 1 l.columns (members_view l.members.entries) ≡ cells_then (map cell_seen l.cells.items) (cells_from l.row (l.at + 1) (drop l.at l.columns) (members_view l.members.entries));
  fit : RowFits (types_of (take l.at l.columns)) (map cell_seen l.cells.items);
  sound : All IsSound (map cell_seen l.cells.items);
}
