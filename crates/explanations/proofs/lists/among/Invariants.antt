use Rattle.std.proofs.Common.{◌≡◌, drop}
use Rattle.explanations.specs.Lists.{among, words_view}
use Rattle.explanations.proofs.lists.among.Given as goal

abbrev pub invariant-loop-known : goal.invariant-loop-known
invariant-loop-known l =
    among (words_view (drop l.known-index l.words)) l.word ≡ among (words_view l.words) l.word
