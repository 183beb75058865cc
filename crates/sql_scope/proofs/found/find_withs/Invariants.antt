use Rattle.std.proofs.Common.{◌≡◌, drop, map}
use Rattle.sql_profile.specs.Trees.{placed_query, placed_with}
use Rattle.sql_scope.specs.Found.{withs_found}
use Rattle.sql_scope.proofs.FoundTurns.{withs_left}
use Rattle.sql_scope.proofs.found.find_withs.Given as goal

abbrev pub invariant-loop-with : goal.invariant-loop-with
invariant-loop-with l =
    withs_found l.initial.tables (map placed_with l.text.withs) (placed_query l.text.main)
    ≡ withs_left l.tables (placed_query l.text.main) (drop l.with-index l.with-items)
