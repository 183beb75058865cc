use Rattle.std.proofs.Common.{◌≡◌, take}
use Rattle.sql_profile.specs.AllowedAnswers.{tables_of}
use Rattle.reference_sql.proofs.evaluate.tables_of.Given as goal

abbrev pub invariant-loop-table : goal.invariant-loop-table
invariant-loop-table l = l.tables ≡ tables_of (take l.table-index l.held)
