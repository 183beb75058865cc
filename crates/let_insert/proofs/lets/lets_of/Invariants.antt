use Rattle.std.proofs.Common.{◌≡◌, ◌++◌, drop, map}
use Rattle.nq_ir.specs.Lets.{let_tree, lets_after}
use Rattle.nq_ir.specs.Spots.{strand_tree}
use Rattle.let_insert.proofs.lets.lets_of.Given as goal

abbrev pub invariant-loop-strand : goal.invariant-loop-strand
invariant-loop-strand l =
    map let_tree l.lets ++ lets_after l.last (map (λ d. strand_tree d.now) (drop l.strand-index l.strands))
    ≡ lets_after 0 (map (λ d. strand_tree d.now) l.strands)
