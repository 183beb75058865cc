use Rattle.std.proofs.Common.{◌≡◌, ◌++◌, drop, map}
use Rattle.nq_ir.specs.Trees.{comps_of, comp_part}
use Rattle.lineage.specs.Places.{own_tags}
use Rattle.lineage.proofs.places.push_tags.Given as goal

abbrev pub invariant-loop-comp : goal.invariant-loop-comp
invariant-loop-comp l =
    l.tags.items ++ own_tags (comps_of (map comp_part (drop l.comp-index l.comps)))
    ≡ l.initial.tags.items ++ own_tags (comps_of (map comp_part l.comps))
