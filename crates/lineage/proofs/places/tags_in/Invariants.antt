use Rattle.std.proofs.Common.{◌≡◌, ◌++◌, drop}
use Rattle.lineage.specs.Places.{lent, tags_in}
use Rattle.lineage.proofs.places.tags_in.Given as goal

abbrev pub invariant-loop-body : goal.invariant-loop-body
invariant-loop-body l =
    l.tags.items ++ tags_in (lent (drop l.body-index l.bodies)) ≡ tags_in (lent l.bodies)
