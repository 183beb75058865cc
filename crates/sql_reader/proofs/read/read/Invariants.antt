use Rattle.std.proofs.Common.{◌≡◌, drop, map}
use Rattle.sql_reader.specs.Runs.{run}
use Rattle.sql_reader.specs.Stacks.{forms}
use Rattle.sql_reader.specs.States.{position_view}
use Rattle.sql_reader.specs.Steps.{On, start_state}
use Rattle.sql_reader.specs.Symbols.{token_view}
use Rattle.sql_reader.specs.Views.{base_view}
use Rattle.sql_reader.proofs.read.read.Given as goal

abbrev pub invariant-loop-token : goal.invariant-loop-token
invariant-loop-token l = run l.depth (map token_view l.tokens) start_state ≡ run l.depth (map token_view (drop l.token-index l.tokens)) (On (base_view l.base) (forms l.stack.levels) (position_view l.at))
