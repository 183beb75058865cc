use Rattle.std.proofs.Common.{◌≡◌, drop}
use Rattle.nq_model.specs.QueryTokens.{symbol_front}
use Rattle.query_syntax.specs.Fronts.{table_view}
use Rattle.query_syntax.proofs.marks.first_of.Given as goal

abbrev pub invariant-loop-row : goal.invariant-loop-row
invariant-loop-row l = symbol_front (table_view (drop l.row-index l.table)) l.bytes ≡ symbol_front (table_view l.table) l.bytes
