use Rattle.std.proofs.Common.{◌≡◌, take}
use Rattle.sql_scope.proofs.tables.columns_of.Given as goal

abbrev pub invariant-loop-column : goal.invariant-loop-column
invariant-loop-column l = l.made ≡ take l.column-index l.columns
