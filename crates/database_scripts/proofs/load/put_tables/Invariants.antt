use Rattle.std.proofs.Common.{◌≡◌, ◌++◌, drop}
use Rattle.database_scripts.specs.Loads.{tables_text}
use Rattle.database_scripts.proofs.load.put_tables.Given as goal

abbrev pub invariant-loop-shape : goal.invariant-loop-shape
invariant-loop-shape l = l.text ++ tables_text l.database (drop l.shape-index l.shapes) ≡ l.initial.text ++ tables_text l.database l.shapes
