use Rattle.std.proofs.Common.{◌≡◌, [], map, drop, ◌∙◌, ap}
use Rattle.std.proofs.lemmas.List.{drop_all}
use Rattle.nq_model.specs.Machines.{Reached}
use Rattle.nq_parser.specs.Editions.{edition_view}
use Rattle.nq_parser.specs.Machine.{run, start_state}
use Rattle.nq_parser.specs.States.{state_view}
use Rattle.query_syntax.specs.Symbols.{token_view}
use Rattle.nq_parser.proofs.Parsing.{ended_ready}
use Rattle.nq_parser.proofs.read.read_body.Goals as goal

pub unreachable-requires : goal.unreachable-requires
unreachable-requires c =
    let ts = c.args.tokens.now in
    let rest : drop c.loop-token.token-index ts ≡ [] = drop_all c.loop-token.token-index ts c.loop-token-test.false in
    let reached : run (edition_view c.args.edition) c.args.depth (map token_view ts) start_state ≡ Reached (state_view c.loop-token.state) =
    c.loop-token.invariant ∙ ap (λ xs. run (edition_view c.args.edition) c.args.depth (map token_view xs) (state_view c.loop-token.state)) rest in
    c.in-None.ensures (ended_ready (edition_view c.args.edition) c.args.depth (map token_view ts) (state_view c.loop-token.state) c.requires reached)
