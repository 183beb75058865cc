use Rattle.std.proofs.Common.{◌≡◌, ◌++◌, map}
use Rattle.nq_ir.specs.Trees.{base_tree}
use Rattle.natural_index.proofs.select.keep_at.Given as goal

abbrev pub invariant-loop-cond : goal.invariant-loop-cond
invariant-loop-cond l = map base_tree l.all ≡ map base_tree l.initial.all ++ map base_tree l.yielded
