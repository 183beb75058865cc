use Rattle.std.proofs.Common.{◌≡◌, drop}
use Rattle.serde_json.specs.View.{members_view}
use Rattle.nq_json.specs.Tables.{has_columns}
use Rattle.nq_json.proofs.tables.has_columns.Given as goal

abbrev pub invariant-loop-column : goal.invariant-loop-column
invariant-loop-column l = has_columns l.columns (members_view l.members.entries) ≡ has_columns (drop l.column-index l.columns) (members_view l.members.entries)
