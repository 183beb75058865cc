use Rattle.std.proofs.Common.{◌≡◌, take}
use Rattle.explanations.specs.SqlColumns.{columns_view}
use Rattle.explanations.proofs.sql_columns.lent_columns.Given as goal

abbrev pub invariant-loop-column : goal.invariant-loop-column
invariant-loop-column l = columns_view l.lent ≡ take l.column-index l.columns
