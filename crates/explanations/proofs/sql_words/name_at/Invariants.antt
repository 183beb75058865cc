use Rattle.std.proofs.Common.{◌≡◌, drop, map}
use Rattle.sql_reader.specs.Symbols.{token_view}
use Rattle.explanations.specs.SqlWords.{name_at}
use Rattle.explanations.proofs.sql_words.name_at.Given as goal

abbrev pub invariant-loop-token : goal.invariant-loop-token
invariant-loop-token l =
    name_at l.place (map token_view (drop l.token-index l.tokens))
    ≡ name_at l.place (map token_view l.tokens)
