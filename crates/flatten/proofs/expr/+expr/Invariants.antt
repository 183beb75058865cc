use Rattle.std.proofs.Common.{◌≡◌, ◌+◌, ◌*◌, map, take}
use Rattle.nq_ir.specs.Trees.{base_tree, test_part}
use Rattle.sql_profile.specs.Trees.{link_tree, select_tree}
use Rattle.flatten.specs.Exprs.{base_expr}
use Rattle.flatten.specs.Emitted.{in_gens}
use Rattle.flatten.specs.Views.{test_select}
use Rattle.flatten.proofs.Chains.{spine}
use Rattle.flatten.proofs.expr.+expr.Given as goal

-- each level of an expression is built by some functions that go down no level
abbrev pub decreases-expr : goal.decreases-expr
decreases-expr l = l.levels * 8

abbrev pub decreases-pair : goal.decreases-pair
decreases-pair l = l.levels * 8 + 1

abbrev pub decreases-chain : goal.decreases-chain
decreases-chain l = l.levels * 8 + 1

abbrev pub decreases-links : goal.decreases-links
decreases-links l = l.levels * 8 + 1

abbrev pub decreases-all_of : goal.decreases-all_of
decreases-all_of l = l.levels * 8 + 1

abbrev pub decreases-keep : goal.decreases-keep
decreases-keep l = l.levels * 8 + 2

abbrev pub decreases-picked : goal.decreases-picked
decreases-picked l = l.levels * 8 + 3

abbrev pub decreases-test_select : goal.decreases-test_select
decreases-test_select l = l.levels * 8 + 3

abbrev pub decreases-count : goal.decreases-count
decreases-count l = l.levels * 8 + 4

abbrev pub decreases-selects : goal.decreases-selects
decreases-selects l = l.levels * 8 + 4

abbrev pub decreases-emptiness : goal.decreases-emptiness
decreases-emptiness l = l.levels * 8 + 5

abbrev pub invariant-chain-loop-left : goal.invariant-chain-loop-left
invariant-chain-loop-left l = spine (in_gens l.outer) l.op l.left l.links.items ≡ base_expr (in_gens l.outer) (base_tree l.base)

abbrev pub invariant-links-loop-part : goal.invariant-links-loop-part
invariant-links-loop-part l = map link_tree l.links ≡ map (base_expr (in_gens l.outer)) (map base_tree (take l.part-index l.parts))

abbrev pub invariant-selects-loop-test : goal.invariant-selects-loop-test
invariant-selects-loop-test l = map select_tree l.selects ≡ map (test_select (in_gens l.outer)) (map test_part (take l.test-index l.tests))
