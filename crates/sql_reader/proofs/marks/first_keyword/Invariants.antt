use Rattle.std.proofs.Common.{◌≡◌, drop}
use Rattle.sql_profile.specs.Tokens.{word_front}
use Rattle.sql_reader.specs.Fronts.{table_view}
use Rattle.sql_reader.proofs.marks.first_keyword.Given as goal

abbrev pub invariant-loop-row : goal.invariant-loop-row
invariant-loop-row l = word_front (table_view (drop l.row-index l.table)) l.word ≡ word_front (table_view l.table) l.word
