use Rattle.std.proofs.Common.{◌≡◌, ◌++◌, drop}
use Rattle.lineage.specs.Places.{lent, under}
use Rattle.lineage.proofs.places.under.Given as goal

abbrev pub invariant-loop-body : goal.invariant-loop-body
invariant-loop-body l =
    lent l.found.items ++ under l.label (lent (drop l.body-index l.bodies))
    ≡ under l.label (lent l.bodies)
