use Rattle.std.proofs.Common.{◌≡◌, drop}
use Rattle.explanations.specs.Lists.{all_among, words_view}
use Rattle.explanations.proofs.lists.all_among.Given as goal

abbrev pub invariant-loop-part : goal.invariant-loop-part
invariant-loop-part l =
    all_among (words_view l.words) (words_view (drop l.part-index l.parts))
    ≡ all_among (words_view l.words) (words_view l.parts)
