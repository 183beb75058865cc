use Rattle.std.proofs.Common.{◌≡◌, drop}
use Rattle.nq_model.specs.Databases.{database, table_meaning}
use Rattle.rows.specs.Tables.{rows_of}
use Rattle.reference_terms.proofs.tables.table_meaning.Given as goal

abbrev pub invariant-loop-place : goal.invariant-loop-place
invariant-loop-place l = table_meaning (database (drop l.place l.shapes) (rows_of (drop l.place l.tables))) l.name ≡ table_meaning (database l.shapes (rows_of l.tables)) l.name
