use Rattle.std.proofs.Common.{◌≡◌, drop, max}
use Rattle.lineage.specs.Places.{lent, width}
use Rattle.lineage.proofs.places.width.Given as goal

abbrev pub invariant-loop-body : goal.invariant-loop-body
invariant-loop-body l = max l.most (width (lent (drop l.body-index l.bodies)))
    ≡ width (lent l.bodies)
