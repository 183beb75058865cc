use Rattle.std.proofs.Common.{◌≡◌, drop}
use Rattle.explanations.specs.Hints.{first_said, hints_view}
use Rattle.explanations.specs.Lists.{words_view}
use Rattle.explanations.proofs.hints.first_said.Given as goal

abbrev pub invariant-loop-hint : goal.invariant-loop-hint
invariant-loop-hint l =
    first_said l.before l.found (words_view l.expected) l.otherwise
    (hints_view (drop l.hint-index l.hints))
    ≡ first_said l.before l.found (words_view l.expected) l.otherwise (hints_view l.hints)
