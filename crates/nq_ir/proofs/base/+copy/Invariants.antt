use Rattle.std.proofs.Common.{◌≡◌, map, take}
use Rattle.nq_ir.specs.Trees.{base_tree, test_part}
use Rattle.nq_ir.proofs.base.+copy.Given as goal

abbrev pub invariant-copy_conds-loop-cond : goal.invariant-copy_conds-loop-cond
invariant-copy_conds-loop-cond l = map base_tree l.copies ≡ map base_tree (take l.cond-index l.conds)

abbrev pub invariant-copy_tests-loop-test : goal.invariant-copy_tests-loop-test
invariant-copy_tests-loop-test l = map test_part l.copies ≡ map test_part (take l.test-index l.tests)
