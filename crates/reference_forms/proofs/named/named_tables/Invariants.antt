use Rattle.std.proofs.Common.{◌≡◌, ◌++◌, drop, map}
use Rattle.nq_model.specs.Databases.{database}
use Rattle.nq_model.specs.NamedRows.{named_table}
use Rattle.rows.specs.Tables.{rows_of}
use Rattle.reference_forms.proofs.named.named_tables.Given as goal

abbrev pub invariant-loop-at : goal.invariant-loop-at
invariant-loop-at l =
    l.all ++ map named_table (database (drop l.at l.shapes) (rows_of (drop l.at l.tables))) ≡ map named_table (database l.shapes (rows_of l.tables))
