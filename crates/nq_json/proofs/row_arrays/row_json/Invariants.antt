use Rattle.std.proofs.Common.{◌≡◌, map, take}
use Rattle.rows.specs.Places.{row_at}
use Rattle.serde_json.specs.View.{view}
use Rattle.nq_json.specs.Json.{cell_json}
use Rattle.nq_json.proofs.row_arrays.row_json.Given as goal

abbrev pub invariant-loop-column : goal.invariant-loop-column
invariant-loop-column l = map view l.cells.items ≡ map cell_json (take l.column (row_at l.rows l.row))
