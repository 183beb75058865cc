use Rattle.std.proofs.Common.{◌≡◌, map}
use Rattle.nq_ir.specs.Spots.{strand_tree}
use Rattle.shred_terms.specs.Levels.{node_view}
use Rattle.shred_terms.proofs.nodes.strands_of.Given as goal

abbrev pub invariant-loop-node : goal.invariant-loop-node
invariant-loop-node l = map strand_tree l.strands ≡ map (λ d. d.0) (map node_view l.yielded)
