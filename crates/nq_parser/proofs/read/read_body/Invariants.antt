use Rattle.std.proofs.Common.{◌≡◌, drop, map}
use Rattle.nq_parser.specs.Editions.{edition_view}
use Rattle.nq_parser.specs.Machine.{run, start_state}
use Rattle.nq_parser.specs.States.{state_view}
use Rattle.query_syntax.specs.Symbols.{token_view}
use Rattle.nq_parser.proofs.read.read_body.Given as goal

abbrev pub invariant-loop-token : goal.invariant-loop-token
invariant-loop-token l = run (edition_view l.edition) l.depth (map token_view l.tokens) start_state ≡ run (edition_view l.edition) l.depth (map token_view (drop l.token-index l.tokens)) (state_view l.state)
