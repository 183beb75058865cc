use Rattle.std.proofs.Common.{◌≡◌, take, map}
use Rattle.explanations.specs.Lists.{words_view}
use Rattle.explanations.specs.Words.{kind_words}
use Rattle.explanations.proofs.lines.words_of.Given as goal

abbrev pub invariant-loop-kind : goal.invariant-loop-kind
invariant-loop-kind l = words_view l.words ≡ map kind_words (take l.kind-index l.kinds)
