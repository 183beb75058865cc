use Rattle.std.proofs.Common.{map, take}
use Rattle.nq_parser.specs.Editions.{edition_view}
use Rattle.query_syntax.specs.Symbols.{token_view}
use Rattle.expected_tokens.specs.Expected.{Picks}
use Rattle.expected_tokens.proofs.expected.pick.Given as goal

abbrev pub invariant-loop-kind : goal.invariant-loop-kind
invariant-loop-kind l = Picks (edition_view l.edition) l.depth (map token_view l.before) (take
    l.kind-index l.table) l.kinds
