use Rattle.std.proofs.Common.{◌≡◌, [], drop, map}
use denote.Shadow.{shadow}
use denote.Text.{Utf8}
use Rattle.sql_reader.specs.Symbols.{token_view}
use Rattle.explanations.specs.SqlWords.{sql_around_from}
use Rattle.explanations.proofs.sql_words.sql_words_around.Given as goal

abbrev pub invariant-loop-token : goal.invariant-loop-token
invariant-loop-token l =
    (sql_around_from l.place l.before (map token_view (drop l.token-index l.tokens))
    ≡ sql_around_from l.place [] (map token_view l.tokens))
    × shadow (Utf8 l.before)
