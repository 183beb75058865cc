use Rattle.std.proofs.Common.{◌≡◌, take, map}
use Rattle.nq_model.specs.Machines.{Reached}
use Rattle.sql_reader.specs.Runs.{run}
use Rattle.sql_reader.specs.Stacks.{forms}
use Rattle.sql_reader.specs.States.{position_view}
use Rattle.sql_reader.specs.Steps.{On, start_state}
use Rattle.sql_reader.specs.Symbols.{token_view}
use Rattle.sql_reader.specs.Views.{base_view}
use Rattle.sql_reader.proofs.openness.read_front.Given as goal

abbrev pub invariant-loop-count : goal.invariant-loop-count
invariant-loop-count l = run l.depth (map token_view (take l.count l.tokens)) start_state
    ≡ Reached
    (On (base_view l.base) (forms l.stack.levels) (position_view l.at))
