use Rattle.std.proofs.Common.{◌≡◌, ◌++◌, drop}
use Rattle.database_scripts.specs.Columns.{more_names}
use Rattle.database_scripts.proofs.columns.put_more_names.Given as goal

abbrev pub invariant-loop-name : goal.invariant-loop-name
invariant-loop-name l = l.text ++ more_names (drop l.name-index l.names) ≡ l.initial.text ++ more_names l.names
