use Rattle.std.proofs.Common.{◌≡◌, drop}
use Rattle.explanations.specs.Lists.{words_view}
use Rattle.explanations.specs.Nearest.{first_two_apart}
use Rattle.explanations.proofs.nearest.first_two_apart.Given as goal

abbrev pub invariant-loop-name : goal.invariant-loop-name
invariant-loop-name l =
    first_two_apart (words_view (drop l.name-index l.names)) l.word
    ≡ first_two_apart (words_view l.names) l.word
