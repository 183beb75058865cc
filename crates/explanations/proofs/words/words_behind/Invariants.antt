use Rattle.std.proofs.Common.{◌≡◌, false, drop, map}
use Rattle.query_syntax.specs.Symbols.{token_view}
use Rattle.explanations.specs.Words.{behind_from}
use Rattle.explanations.proofs.words.words_behind.Given as goal

abbrev pub invariant-loop-token : goal.invariant-loop-token
invariant-loop-token l =
    behind_from l.here l.place (map token_view (drop l.token-index l.tokens))
    ≡ behind_from false l.place (map token_view l.tokens)
