use Rattle.std.proofs.Common.{◌≡◌, drop, map, max}
use Rattle.nq_ir.specs.Trees.{comps_of, comp_part}
use Rattle.lineage.specs.Places.{most_gens}
use Rattle.lineage.proofs.places.most_gens.Given as goal

abbrev pub invariant-loop-comp : goal.invariant-loop-comp
invariant-loop-comp l =
    max l.most (most_gens (comps_of (map comp_part (drop l.comp-index l.comps))))
    ≡ most_gens (comps_of (map comp_part l.comps))
