use Rattle.std.proofs.Common.{◌∙◌, sym}
use Rattle.sql_profile.specs.Trees.{placed_picked}
use Rattle.sql_scope.specs.Steps.{Faults, aliases_in, judge_picked}
use Rattle.sql_scope.proofs.Chains.{chain_faulty, chain_gives, links_end, links_faulty, links_go_on}
use Rattle.sql_scope.proofs.Selects.{count_fine, count_faulty, picked_fine, picked_faulty, select_gives, sum_faulty, sum_gives}
use Rattle.sql_scope.proofs.Turns.{among_looked, given_on, handed_on, items_faulty, items_end, items_go_on, items_twice}
use Rattle.sql_scope.proofs.walk.+judge.Goals as goal

pub judge_items-returns-then-is_some : goal.judge_items-returns-then-is_some
judge_items-returns-then-is_some t c =
    items_twice c.args.tables.now (aliases_in c.args.scope.now) c.loop-item.columns c.args.items.now c.loop-item.item-index c.item-item.result c.in_ok-ty.ty c.loop-item-test.true c.item-item.is
    c.loop-item.invariant c.in_ok-ty.ensures (among_looked c.item-item.result.name c.loop-item.columns c.get.result _ c.get.ensures (sym c.is_some.ensures ∙ c.if-is_some.true))

pub judge_items-loop-item-preserved : goal.judge_items-loop-item-preserved
judge_items-loop-item-preserved t c =
    items_go_on c.args.tables.now (aliases_in c.args.scope.now) c.loop-item.columns c.in_ok-columns-2.columns c.args.items.now c.loop-item.item-index c.item-item.result c.in_ok-ty.ty _ c.loop-item-test.true c.item-item.is
    c.loop-item.invariant c.in_ok-ty.ensures (among_looked c.item-item.result.name c.loop-item.columns c.get.result _ c.get.ensures (sym c.is_some.ensures ∙ c.if-is_some.false)) c.in_ok-columns-2.ensures

pub judge_items-returns : goal.judge_items-returns
judge_items-returns t c =
    items_end c.args.tables.now (aliases_in c.args.scope.now) c.loop-item.columns c.args.items.now c.loop-item.item-index c.loop-item-test.false c.loop-item.invariant

pub judge_items-returns-in_err-ty : goal.judge_items-returns-in_err-ty
judge_items-returns-in_err-ty t c =
    given_on c.from_residual-in_err-ty.result c.in_err-ty.field-0.0 _ c.from_residual-in_err-ty.ensures.1
    (items_faulty c.args.tables.now (aliases_in c.args.scope.now) c.loop-item.columns c.args.items.now c.loop-item.item-index c.item-item.result c.in_err-ty.field-0.0 c.loop-item-test.true c.item-item.is c.loop-item.invariant c.in_err-ty.ensures)

pub judge_select-returns : goal.judge_select-returns
judge_select-returns t c = select_gives c.args.tables.now c.args.select.now _ _ c.judge_parts.result c.judge_parts.ensures (rw c.as_slice.ensures at c.in_ok-own.ensures.ok)

pub judge_picked-returns-clause-ok : goal.judge_picked-returns-clause-ok
judge_picked-returns-clause-ok t c =
    picked_fine c.args.tables.now c.args.over.now _ _ _ (rw c.as_slice.ensures at c.in_ok-own.ensures.ok) c.in_ok-judge_keep.ensures

pub judge_picked-returns-in_err-judge_keep-clause-err : goal.judge_picked-returns-in_err-judge_keep-clause-err
judge_picked-returns-in_err-judge_keep-clause-err t c =
    handed_on c.from_residual-in_err-judge_keep.result c.in_err-judge_keep.field-0.0 (Faults (judge_picked c.args.tables.now (aliases_in c.args.scope.now) (placed_picked c.args.over.now))) c.from_residual-in_err-judge_keep.ensures.1
    (picked_faulty c.args.tables.now c.args.over.now _ _ c.in_err-judge_keep.field-0.0 (rw c.as_slice.ensures at c.in_ok-own.ensures.ok) c.in_err-judge_keep.ensures)

pub judge_expr-returns-in_ok-judge_picked-in-Count : goal.judge_expr-returns-in_ok-judge_picked-in-Count
judge_expr-returns-in_ok-judge_picked-in-Count t c =
    count_fine c.args.tables.now (aliases_in c.args.scope.now) c.args.expr.now c.in-Count.over c.deref-in-Count.result.now c.deref-in-Count.ensures _ c.in-Count.is c.in_ok-judge_picked-in-Count.ensures.ok

pub judge_expr-returns-in_err-judge_picked-in-Count : goal.judge_expr-returns-in_err-judge_picked-in-Count
judge_expr-returns-in_err-judge_picked-in-Count t c =
    given_on c.from_residual-in_err-judge_picked-in-Count.result c.in_err-judge_picked-in-Count.field-0.0 _ c.from_residual-in_err-judge_picked-in-Count.ensures.1
    (count_faulty c.args.tables.now (aliases_in c.args.scope.now) c.args.expr.now c.in-Count.over c.deref-in-Count.result.now c.deref-in-Count.ensures c.in_err-judge_picked-in-Count.field-0.0 c.in-Count.is c.in_err-judge_picked-in-Count.ensures.err)

pub judge_expr-returns-in_ok-own-in-Sum : goal.judge_expr-returns-in_ok-own-in-Sum
judge_expr-returns-in_ok-own-in-Sum t c =
    sum_gives c.args.tables.now c.args.expr.now c.in-Sum.over c.in-Sum.value c.deref-in-Sum.result.now c.deref-in-Sum-2.result.now _ _ c.judge_summed.result c.deref-in-Sum.ensures c.deref-in-Sum-2.ensures c.in-Sum.is
    c.in_ok-own-in-Sum.ensures.ok c.judge_summed.ensures

pub judge_expr-returns-in_err-own-in-Sum : goal.judge_expr-returns-in_err-own-in-Sum
judge_expr-returns-in_err-own-in-Sum t c =
    given_on c.from_residual-in_err-own-in-Sum.result c.in_err-own-in-Sum.field-0.0 _ c.from_residual-in_err-own-in-Sum.ensures.1
    (sum_faulty c.args.tables.now (aliases_in c.args.scope.now) c.args.expr.now c.in-Sum.over c.in-Sum.value c.deref-in-Sum.result.now c.in_err-own-in-Sum.field-0.0 c.deref-in-Sum.ensures c.in-Sum.is c.in_err-own-in-Sum.ensures.err)

pub judge_expr-returns-in_err-first-in-Chain : goal.judge_expr-returns-in_err-first-in-Chain
judge_expr-returns-in_err-first-in-Chain t c =
    given_on c.from_residual-in_err-first-in-Chain.result c.in_err-first-in-Chain.field-0.0 _ c.from_residual-in_err-first-in-Chain.ensures.1
    (chain_faulty c.args.tables.now (aliases_in c.args.scope.now) c.args.expr.now c.in-Chain.op c.in-Chain.first c.in-Chain.more c.deref-in-Chain.result.now c.in-Chain.is c.deref-in-Chain.ensures c.in_err-first-in-Chain.field-0.0 c.in_err-first-in-Chain.ensures)

pub judge_expr-returns-in_ok-first-in-Chain : goal.judge_expr-returns-in_ok-first-in-Chain
judge_expr-returns-in_ok-first-in-Chain t c =
    chain_gives c.args.tables.now (aliases_in c.args.scope.now) c.args.expr.now c.in-Chain.op c.in-Chain.first c.in-Chain.more c.deref-in-Chain.result.now c.in-Chain.is c.deref-in-Chain.ensures c.in_ok-first-in-Chain.first c.as_slice.result.now
    c.judge_links.result c.in_ok-first-in-Chain.ensures c.as_slice.ensures c.judge_links.ensures

pub judge_links-returns-in_err-right : goal.judge_links-returns-in_err-right
judge_links-returns-in_err-right t c =
    given_on c.from_residual.result c.in_err-right.field-0.0 _ c.from_residual.ensures.1
    (links_faulty c.args.tables.now (aliases_in c.args.scope.now) c.args.op c.loop-link.given c.args.links.now c.loop-link.link-index c.link-item.result _ c.loop-link-test.true c.link-item.is c.loop-link.invariant c.in_err-right.field-0.0 c.in_err-right.ensures)

pub judge_links-loop-link-preserved : goal.judge_links-loop-link-preserved
judge_links-loop-link-preserved t c =
    links_go_on c.args.tables.now (aliases_in c.args.scope.now) c.args.op c.loop-link.given c.args.links.now c.loop-link.link-index c.link-item.result _ c.loop-link-test.true c.link-item.is c.loop-link.invariant
    c.in_ok-right.right c.in_ok-given.given c.in_ok-right.ensures c.in_ok-given.ensures

pub judge_links-returns : goal.judge_links-returns
judge_links-returns t c =
    links_end c.args.tables.now (aliases_in c.args.scope.now) c.args.op c.loop-link.given c.args.links.now c.loop-link.link-index _ c.loop-link-test.false c.loop-link.invariant
