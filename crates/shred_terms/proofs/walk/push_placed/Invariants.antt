use Rattle.std.proofs.Common.{◌≡◌, ◌++◌, drop, map}
use Rattle.nq_ir.specs.Spots.{shaped, strand_tree}
use Rattle.shred_terms.specs.Placed.{placed_in}
use Rattle.shred_terms.proofs.walk.push_placed.Given as goal

abbrev pub invariant-loop-comp : goal.invariant-loop-comp
invariant-loop-comp l =
    map strand_tree l.strands ++ map shaped (placed_in l.around (drop l.comp-index l.comps))
    ≡ map strand_tree l.initial.strands ++ map shaped (placed_in l.around l.comps)
