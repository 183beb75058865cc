use Rattle.std.proofs.Common.{◌≡◌, [], drop}
use Rattle.sql_scope.specs.Steps.{bounds}
use Rattle.sql_scope.proofs.Walks.{sources_left}
use Rattle.sql_scope.proofs.walk.judge_sources.Given as goal

abbrev pub invariant-loop-source : goal.invariant-loop-source
invariant-loop-source l = sources_left l.tables (bounds l.own) (drop l.source-index l.sources) ≡ sources_left l.tables [] l.sources
