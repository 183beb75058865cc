use Rattle.std.proofs.Common.{◌≡◌, ◌++◌, drop}
use Rattle.lineage.specs.Places.{lent, inside}
use Rattle.lineage.proofs.places.inside.Given as goal

abbrev pub invariant-loop-body : goal.invariant-loop-body
invariant-loop-body l =
    lent l.inner.items ++ inside (lent (drop l.body-index l.bodies)) ≡ inside (lent l.bodies)
