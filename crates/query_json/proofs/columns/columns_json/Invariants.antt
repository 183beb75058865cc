use Rattle.std.proofs.Common.{◌≡◌, ◌++◌, map, drop}
use Rattle.serde_json.specs.View.{view}
use Rattle.query_json.specs.QueryForms.{columns_from}
use Rattle.query_json.proofs.columns.columns_json.Given as goal

abbrev pub invariant-loop-place : goal.invariant-loop-place
invariant-loop-place l = map view l.items.items ++ columns_from l.place (drop l.place l.columns) ≡ columns_from 0 l.columns
