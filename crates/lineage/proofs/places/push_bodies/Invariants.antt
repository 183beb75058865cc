use Rattle.std.proofs.Common.{◌≡◌, ◌++◌, drop, map}
use Rattle.nq_ir.specs.Trees.{comps_of, comp_part}
use Rattle.lineage.specs.Places.{lent, own_bodies}
use Rattle.lineage.proofs.places.push_bodies.Given as goal

abbrev pub invariant-loop-comp : goal.invariant-loop-comp
invariant-loop-comp l =
    lent l.inner.items ++ own_bodies (comps_of (map comp_part (drop l.comp-index l.comps)))
    ≡ lent l.initial.inner.items ++ own_bodies (comps_of (map comp_part l.comps))
