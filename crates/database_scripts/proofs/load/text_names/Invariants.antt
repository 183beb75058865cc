use Rattle.std.proofs.Common.{◌≡◌, ◌++◌, drop}
use Rattle.database_scripts.specs.Loads.{text_names}
use Rattle.database_scripts.proofs.load.text_names.Given as goal

abbrev pub invariant-loop-column : goal.invariant-loop-column
invariant-loop-column l = l.names ++ text_names (drop l.column-index l.columns) ≡ text_names l.columns
