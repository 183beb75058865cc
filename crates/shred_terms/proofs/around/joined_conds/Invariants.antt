use Rattle.std.proofs.Common.{◌≡◌, ◌++◌, map, take}
use Rattle.nq_ir.specs.Trees.{base_tree}
use Rattle.shred_terms.proofs.around.joined_conds.Given as goal

abbrev pub invariant-loop-cond : goal.invariant-loop-cond
invariant-loop-cond l = map base_tree l.all ≡ map base_tree (take l.cond-index l.outer)

abbrev pub invariant-loop-cond-2 : goal.invariant-loop-cond-2
invariant-loop-cond-2 l = map base_tree l.all ≡ map base_tree l.outer ++ map base_tree (take l.cond-index l.own)
