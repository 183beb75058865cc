use Rattle.std.proofs.Common.{◌≡◌, take}
use Rattle.sql_profile.specs.Scope.{shapes_of_schema}
use Rattle.sql_scope.proofs.tables.tables_of.Given as goal

abbrev pub invariant-loop-shape : goal.invariant-loop-shape
invariant-loop-shape l = l.made ≡ shapes_of_schema (take l.shape-index l.shapes)
