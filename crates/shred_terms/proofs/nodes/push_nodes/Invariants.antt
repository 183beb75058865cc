use Rattle.std.proofs.Common.{◌≡◌, ◌++◌, drop, map}
use Rattle.shred_terms.specs.Levels.{node_of, node_view}
use Rattle.shred_terms.specs.Placed.{placed_in}
use Rattle.shred_terms.proofs.nodes.push_nodes.Given as goal

abbrev pub invariant-loop-comp : goal.invariant-loop-comp
invariant-loop-comp l =
    map node_view l.nodes.items ++ map node_of (placed_in l.around (drop l.comp-index l.comps))
    ≡ map node_view l.initial.nodes.items ++ map node_of (placed_in l.around l.comps)
