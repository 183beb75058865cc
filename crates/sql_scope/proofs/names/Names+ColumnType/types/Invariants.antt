use Rattle.std.proofs.Common.{◌≡◌, map, take}
use Rattle.sql_scope.proofs.names.Names+ColumnType.types.Given as goal

abbrev pub invariant-loop-column : goal.invariant-loop-column
invariant-loop-column l = l.types ≡ map (λ c. c.1) (take l.column-index l.columns)
