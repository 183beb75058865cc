use Rattle.std.proofs.Common.{◌≡◌, ◌++◌, drop, flat_map, map}
use Rattle.shred_terms.specs.Levels.{node_view, under_node}
use Rattle.shred_terms.proofs.nodes.nodes_under.Given as goal

abbrev pub invariant-loop-node : goal.invariant-loop-node
invariant-loop-node l =
    map node_view l.nodes.items ++ flat_map (under_node l.slot) (map node_view (drop l.node-index l.here))
    ≡ flat_map (under_node l.slot) (map node_view l.here)
