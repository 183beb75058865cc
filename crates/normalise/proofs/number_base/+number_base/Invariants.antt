use Rattle.std.proofs.Common.{◌≡◌, ◌+◌, ◌++◌, map, drop}
use Rattle.nq_ir.specs.Trees.{base_tree, test_part as numbered_part}
use Rattle.normalise.specs.Raw.{moved_base, test_part}
use Rattle.normalise.specs.Numbers.{numbers, bases_numbered, gens_in_bases, tests_numbered, gens_in_parts}
use Rattle.normalise.proofs.number_base.+number_base.Given as goal

abbrev pub invariant-number_conds-loop-cond : goal.invariant-number_conds-loop-cond
invariant-number_conds-loop-cond l =
    (bases_numbered l.first (numbers l.scope) (map moved_base l.conds) ≡ map base_tree l.numbered ++ bases_numbered l.next (numbers l.scope) (map moved_base (drop l.cond-index l.conds)))
    × (l.first + gens_in_bases (map moved_base l.conds) ≡ l.next + gens_in_bases (map moved_base (drop l.cond-index l.conds)))

abbrev pub invariant-number_tests-loop-test : goal.invariant-number_tests-loop-test
invariant-number_tests-loop-test l =
    (tests_numbered l.first (numbers l.scope) (map test_part l.tests) ≡ map numbered_part l.numbered ++ tests_numbered l.next (numbers l.scope) (map test_part (drop l.test-index l.tests)))
    × (l.first + gens_in_parts (map test_part l.tests) ≡ l.next + gens_in_parts (map test_part (drop l.test-index l.tests)))
