use Rattle.std.proofs.Common.{◌≡◌, take}
use Rattle.sql_scope.specs.Names.{named}
use Rattle.sql_scope.proofs.names.Names+ColumnType.copy.Given as goal

abbrev pub invariant-loop-column : goal.invariant-loop-column
invariant-loop-column l = l.copy ≡ named (take l.column-index l.columns)
