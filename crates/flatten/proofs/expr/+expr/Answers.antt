use Rattle.std.proofs.Common.{◌≡◌, IfOk, List, [], length, subst, sym, ap, ◌∙◌, false, rules}
use Rattle.std.specs.Bool.{◌==◌}
use Rattle.nq_ir.specs.Trees.{base_tree, test_part}
use Rattle.nq_ir.specs.declared.base.Test.{Test}
use Rattle.sql_profile.specs.Trees.{ExprTree, SelectTree, expr_tree}
use Rattle.flatten.specs.Exprs.{base_expr}
use Rattle.flatten.specs.Emitted.{in_gens}
use Rattle.flatten.specs.Views.{query_from}
use Rattle.flatten.proofs.Chains.{all_joined, chain_linked, link_more, spine_end, spine_more}
use Rattle.flatten.proofs.Lists.{some_tests}
use Rattle.flatten.proofs.expr.+expr.Goals as goal

pub emptiness-returns : goal.emptiness-returns
emptiness-returns t c =
    let some : c.args.tests.now ≡ [] → ⊥ = λ e. (let w = subst (λ (z : List Test). false ≡ (length z == 0)) e c.if-is_empty.ensures in absurd (cc)) in
    let same = ap (λ (l : List SelectTree). ExprTree.not_exists (query_from l)) c.in_ok-selects.ensures ∙ sym (some_tests (in_gens c.args.outer.now) test_part c.args.tests.now some) in
    subst (λ (z : ExprTree). IfOk c.not_exists.result (λ made. expr_tree made ≡ z)) same c.not_exists.ensures

pub links-loop-part-preserved : goal.links-loop-part-preserved
links-loop-part-preserved t c =
    link_more (in_gens c.args.outer.now) c.loop-part.links _ c.args.parts.now c.loop-part.part-index c.part-item.result c.in_ok-right.right 0 c.loop-part-test.true c.part-item.is c.loop-part.invariant c.in_ok-right.ensures c.in_ok-push.ensures.ok

pub all_of-returns : goal.all_of-returns
all_of-returns t c =
    let outer = in_gens c.args.outer.now in
    let same = all_joined outer (expr_tree c.in_ok-first.first) (base_expr outer (base_tree c.args.first.now)) c.args.rest.now c.in_ok-more.more c.in_ok-first.ensures c.in_ok-more.ensures in
    subst (λ (z : ExprTree). IfOk c.chained.result (λ made. expr_tree made ≡ z)) same c.chained.ensures

pub chain-loop-left-preserved : goal.chain-loop-left-preserved
chain-loop-left-preserved t c =
    spine_more (in_gens c.args.outer.now) c.args.op c.in-Binary.own c.loop-left.left.now c.in-Binary.before c.in-Binary.right c.loop-left.links.items c.push.new.self.items 0 c.in_ok-right.right c.deref-left.result.now c.deref.result.now _
    c.in-Binary.is (search rules) c.deref-left.ensures c.deref.ensures c.in_ok-right.ensures c.in_ok-push.ensures.items c.loop-left.invariant

pub chain-returns : goal.chain-returns
chain-returns t c =
    let outer = in_gens c.args.outer.now in
    let same = spine_end outer c.args.op c.loop-left.left.now c.loop-left.links.items c.from_vec.result c.in_ok-first.first (base_expr outer (base_tree c.args.base.now)) c.in_ok-first.ensures (c.from_vec.ensures ∙ c.reverse.ensures.items) c.loop-left.invariant in
    subst (λ (z : ExprTree). IfOk c.chained.result (λ made. expr_tree made ≡ z)) same c.chained.ensures

pub expr-returns-in_ok-more-in-Chain : goal.expr-returns-in_ok-more-in-Chain
expr-returns-in_ok-more-in-Chain t c =
    let outer = in_gens c.args.outer.now in
    let same = chain_linked outer c.in-Chain.op c.in-Chain.first c.in-Chain.more c.args.base.now _ _ c.in_ok-first-in-Chain.first c.in_ok-more-in-Chain.more c.in-Chain.is c.deref-in-Chain.ensures c.as_slice.ensures c.in_ok-first-in-Chain.ensures c.in_ok-more-in-Chain.ensures in
    subst (λ (z : ExprTree). IfOk c.chained.result (λ made. expr_tree made ≡ z)) same c.chained.ensures
