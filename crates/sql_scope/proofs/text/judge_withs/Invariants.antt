use Rattle.std.proofs.Common.{◌≡◌, drop, map}
use Rattle.sql_profile.specs.Scope.{judge_withs}
use Rattle.sql_profile.specs.Trees.{placed_with}
use Rattle.sql_scope.specs.Steps.{}
use Rattle.sql_scope.proofs.text.judge_withs.Given as goal

abbrev pub invariant-loop-with : goal.invariant-loop-with
invariant-loop-with l = judge_withs l.tables (map placed_with (drop l.with-index l.withs)) ≡ judge_withs l.initial.tables (map placed_with l.withs)
