use Rattle.std.proofs.Common.{◌≡◌, drop}
use Rattle.explanations.specs.Lists.{words_view}
use Rattle.explanations.specs.SqlPlaces.{is_spelled}
use Rattle.explanations.proofs.sql_places.is_spelled.Given as goal

abbrev pub invariant-loop-known : goal.invariant-loop-known
invariant-loop-known l =
    is_spelled (words_view (drop l.known-index l.words)) l.word
    ≡ is_spelled (words_view l.words) l.word
