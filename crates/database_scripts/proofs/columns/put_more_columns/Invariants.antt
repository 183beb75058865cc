use Rattle.std.proofs.Common.{◌≡◌, ◌++◌, drop}
use Rattle.database_scripts.specs.Columns.{more_columns}
use Rattle.database_scripts.proofs.columns.put_more_columns.Given as goal

abbrev pub invariant-loop-column : goal.invariant-loop-column
invariant-loop-column l = l.text ++ more_columns l.form l.sign (drop l.column-index l.columns) ≡ l.initial.text ++ more_columns l.form l.sign l.columns
