use Rattle.std.proofs.Common.{◌≡◌, take, map}
use Rattle.explanations.specs.Lists.{words_view}
use Rattle.explanations.specs.SqlWords.{sql_kind_words}
use Rattle.explanations.proofs.sql_stops.words_of.Given as goal

abbrev pub invariant-loop-kind : goal.invariant-loop-kind
invariant-loop-kind l = words_view l.words ≡ map sql_kind_words (take l.kind-index l.kinds)
