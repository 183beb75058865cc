use Rattle.std.proofs.Common.{◌≡◌, [], drop}
use Rattle.explanations.specs.Groups.{found_and, groups_view, names_from}
use Rattle.explanations.specs.Lists.{words_view}
use Rattle.explanations.proofs.groups.names_of.Given as goal

abbrev pub invariant-loop-group : goal.invariant-loop-group
invariant-loop-group l =
    found_and (words_view l.expected) l.found l.taken (drop l.group-index l.groups)
    ≡ names_from (words_view l.expected) [] (groups_view l.groups)
