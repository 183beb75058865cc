use Rattle.std.proofs.Common.{◌≡◌, ◌+◌, length, drop, map, zip}
use Rattle.csv.specs.Records.{fields_of}
use Rattle.nq_model.specs.CellRefs.{cell_seen}
use Rattle.nq_model.specs.Tables.{types_of}
use Rattle.table_reader.specs.Spelling.{cells_from}
use Rattle.table_reader.proofs.RowFacts.{cells_then}
use Rattle.table_reader.proofs.cells.read_row.Given as goal

abbrev pub invariant-loop-at : goal.invariant-loop-at
invariant-loop-at l = record {
  width : length (fields_of l.fields) ≡ length l.columns;
  so_far : cells_from l.row 1 (zip (types_of l.columns) (fields_of l.fields)) ≡ cells_then (map cell_seen l.cells.items) (cells_from l.row (l.at + 1) (zip (types_of (drop l.at l.columns)) (drop l.at (fields_of l.fields))));
}
