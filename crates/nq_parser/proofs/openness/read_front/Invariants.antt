use Rattle.std.proofs.Common.{◌≡◌, take, map}
use Rattle.nq_model.specs.Machines.{Reached}
use Rattle.nq_parser.specs.Editions.{edition_view}
use Rattle.nq_parser.specs.Machine.{run, start_state}
use Rattle.nq_parser.specs.States.{state_view}
use Rattle.query_syntax.specs.Symbols.{token_view}
use Rattle.nq_parser.proofs.openness.read_front.Given as goal

abbrev pub invariant-loop-count : goal.invariant-loop-count
invariant-loop-count l = run (edition_view l.edition) l.depth (map token_view (take l.count
    l.tokens)) start_state ≡ Reached (state_view l.state)
