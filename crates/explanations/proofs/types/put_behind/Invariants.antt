use Rattle.std.proofs.Common.{◌≡◌, ◌++◌, codes, drop}
use Rattle.explanations.specs.Explanations.{type_texts}
use Rattle.explanations.specs.Lists.{listed_behind}
use Rattle.nq_types.specs.Found.{types_found}
use Rattle.explanations.proofs.types.put_behind.Given as goal

abbrev pub invariant-loop-at : goal.invariant-loop-at
invariant-loop-at l =
    l.text ++ listed_behind (codes " and ") (type_texts (types_found (drop l.at l.types)))
    ≡ l.initial.text ++ listed_behind (codes " and ") (type_texts (types_found l.types))
