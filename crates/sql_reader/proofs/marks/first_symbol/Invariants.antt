use Rattle.std.proofs.Common.{◌≡◌, drop}
use Rattle.sql_profile.specs.Tokens.{symbol_front}
use Rattle.sql_reader.specs.Fronts.{table_view}
use Rattle.sql_reader.proofs.marks.first_symbol.Given as goal

abbrev pub invariant-loop-row : goal.invariant-loop-row
invariant-loop-row l = symbol_front (table_view (drop l.row-index l.table)) l.bytes ≡ symbol_front (table_view l.table) l.bytes
