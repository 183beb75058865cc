use Rattle.std.proofs.Common.{◌≡◌, List, map, take}
use Rattle.nq_ir.specs.Lets.{LetTree, part_tree, parts_on}
use Rattle.nq_ir.specs.Spots.{strand_tree}
use Rattle.let_insert.proofs.parts.parts_of.Given as goal

abbrev pub invariant-loop-strand : goal.invariant-loop-strand
invariant-loop-strand l =
    (lets : List LetTree) → map (λ x. x.parent) lets ≡ l.parents → map part_tree l.parts ≡ parts_on lets (map strand_tree (take l.strand-index l.strands))
