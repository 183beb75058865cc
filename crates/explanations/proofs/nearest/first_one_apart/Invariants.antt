use Rattle.std.proofs.Common.{◌≡◌, drop}
use Rattle.explanations.specs.Lists.{words_view}
use Rattle.explanations.specs.Nearest.{first_one_apart}
use Rattle.explanations.proofs.nearest.first_one_apart.Given as goal

abbrev pub invariant-loop-name : goal.invariant-loop-name
invariant-loop-name l =
    first_one_apart (words_view (drop l.name-index l.names)) l.word
    ≡ first_one_apart (words_view l.names) l.word
