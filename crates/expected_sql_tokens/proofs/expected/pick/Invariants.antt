use Rattle.std.proofs.Common.{map, take}
use Rattle.sql_reader.specs.Symbols.{token_view}
use Rattle.expected_sql_tokens.specs.Expected.{Picks}
use Rattle.expected_sql_tokens.proofs.expected.pick.Given as goal

abbrev pub invariant-loop-kind : goal.invariant-loop-kind
invariant-loop-kind l = Picks l.depth (map token_view l.before) (take l.kind-index l.table) l.kinds
