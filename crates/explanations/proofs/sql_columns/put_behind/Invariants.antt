use Rattle.std.proofs.Common.{◌≡◌, ◌++◌, drop}
use Rattle.explanations.specs.SqlColumns.{columns_behind, columns_view}
use Rattle.explanations.proofs.sql_columns.put_behind.Given as goal

abbrev pub invariant-loop-column : goal.invariant-loop-column
invariant-loop-column l =
    l.text ++ columns_behind (columns_view (drop l.column-index l.columns))
    ≡ l.initial.text ++ columns_behind (columns_view l.columns)
