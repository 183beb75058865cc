use Rattle.std.proofs.Common.{◌≡◌, map, take}
use Rattle.rows.specs.Places.{rows_at}
use Rattle.serde_json.specs.View.{view}
use Rattle.nq_json.specs.Rows.{row_json}
use Rattle.nq_json.proofs.row_arrays.rows_json.Given as goal

abbrev pub invariant-loop-place : goal.invariant-loop-place
invariant-loop-place l = map view l.arrays.items ≡ map row_json (rows_at l.rows (take l.place-index l.places))
