use Rattle.std.proofs.Common.{◌≡◌, ◌++◌, drop}
use Rattle.explanations.specs.Lists.{listed_behind, words_view}
use Rattle.explanations.proofs.lists.put_behind.Given as goal

abbrev pub invariant-loop-at : goal.invariant-loop-at
invariant-loop-at l =
    l.text ++ listed_behind l.last (words_view (drop l.at l.words))
    ≡ l.initial.text ++ listed_behind l.last (words_view l.words)
