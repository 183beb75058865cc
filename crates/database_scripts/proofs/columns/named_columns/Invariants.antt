use Rattle.std.proofs.Common.{◌≡◌, ◌++◌, drop}
use Rattle.database_scripts.specs.Columns.{columns_from}
use Rattle.database_scripts.proofs.columns.named_columns.Given as goal

abbrev pub invariant-loop-place : goal.invariant-loop-place
invariant-loop-place l = l.columns ++ columns_from l.place (drop l.place l.types) ≡ columns_from 0 l.types
