use Rattle.std.proofs.Common.{◌∙◌, sym}
use Rattle.sql_scope.specs.Steps.{aliases_in}
use Rattle.sql_scope.proofs.FoundChains.{chain_inside, chain_linked}
use Rattle.sql_scope.proofs.FoundOperands.{binary_last, choose_last, inside_told, part_stopped}
use Rattle.sql_scope.proofs.FoundOperands.{part_typed, stopped_told, told, unary_last}
use Rattle.sql_scope.proofs.FoundSources.{count_inside, select_sourced, sum_sourced, sum_unpicked}
use Rattle.sql_scope.proofs.FoundTurns.{item_again, item_stops, items_done, items_go_on}
use Rattle.sql_scope.proofs.Turns.{among_looked}
use Rattle.sql_scope.proofs.found.+find.Goals as goal

pub find_expr-returns-in-Unary : goal.find_expr-returns-in-Unary
find_expr-returns-in-Unary t c =
    inside_told c.find_last.result _ _ _ (rw c.deref.ensures at c.find_last.ensures)
    (λ rule place broken. unary_last c.args.tables.now (aliases_in c.args.scope.now)
    c.args.expr.now c.in-Unary.op c.in-Unary.of c.in-Unary.is)

pub find_expr-returns-in-Typed : goal.find_expr-returns-in-Typed
find_expr-returns-in-Typed t c =
    let left = part_typed _ _ _ _ c.in_ok-left-in-Binary.ensures c.in-Typed.is in
    inside_told c.find_last-in-Typed.result _ _ _
    (rw c.deref-in-Typed.ensures at c.find_last-in-Typed.ensures)
    (λ rule place broken. binary_last c.args.tables.now (aliases_in c.args.scope.now)
    c.args.expr.now c.in-Binary.op c.in-Binary.left c.in-Binary.right c.in-Typed.left
    c.in-Binary.is (rw c.deref-in-Binary.ensures at left))

pub find_expr-returns-in-Typed-2 : goal.find_expr-returns-in-Typed-2
find_expr-returns-in-Typed-2 t c =
    let first = part_typed _ _ _ _ c.in_ok-first-in-Chain.ensures c.in-Typed-2.is in
    inside_told c.find_links.result _ _ _ (rw c.as_slice.ensures at c.find_links.ensures)
    (λ rule place broken. chain_linked c.args.tables.now (aliases_in c.args.scope.now)
    c.args.expr.now c.in-Chain.op c.in-Chain.first c.in-Chain.more c.in-Chain.is rule place broken
    c.in-Typed-2.first (rw c.deref-in-Chain.ensures at first))

pub find_expr-returns-in-Stopped-2 : goal.find_expr-returns-in-Stopped-2
find_expr-returns-in-Stopped-2 t c = λ rule place broken.
    let first = rw c.deref-in-Chain.ensures at c.in_ok-first-in-Chain.ensures in
    part_stopped _ _ _ _ first c.in-Stopped-2.is _
    ∙ sym (chain_inside c.args.tables.now (aliases_in c.args.scope.now) c.args.expr.now
    c.in-Chain.op c.in-Chain.first c.in-Chain.more c.in-Chain.is rule place broken)

pub find_expr-returns-in-Typed-4 : goal.find_expr-returns-in-Typed-4
find_expr-returns-in-Typed-4 t c =
    let test = part_typed _ _ _ _ c.in_ok-test-in-Choose.ensures c.in-Typed-3.is in
    let yes = part_typed _ _ _ _ c.in_ok-yes-in-Typed-3.ensures c.in-Typed-4.is in
    inside_told c.find_last-in-Typed-4.result _ _ _
    (rw c.deref-in-Typed-4.ensures at c.find_last-in-Typed-4.ensures)
    (λ rule place broken. choose_last c.args.tables.now (aliases_in c.args.scope.now)
    c.args.expr.now c.in-Choose.test c.in-Choose.yes c.in-Choose.no c.in-Typed-3.test
    c.in-Typed-4.yes c.in-Choose.is (rw c.deref-in-Choose.ensures at test)
    (rw c.deref-in-Typed-3.ensures at yes))

pub find_expr-returns-in-Count : goal.find_expr-returns-in-Count
find_expr-returns-in-Count t c =
    inside_told c.find_picked.result _ _ _ (rw c.deref-in-Count.ensures at c.find_picked.ensures)
    (λ rule place broken. sym (count_inside c.args.tables.now (aliases_in c.args.scope.now)
    c.args.expr.now c.in-Count.over c.in-Count.is rule place broken))

pub find_expr-returns-in-Ok : goal.find_expr-returns-in-Ok
find_expr-returns-in-Ok t c =
    inside_told c.find_last-in-Ok.result _ _ _
    (rw c.deref-in-Ok.ensures at c.find_last-in-Ok.ensures)
    (λ rule place broken. sym (sum_sourced c.args.tables.now c.args.expr.now c.in-Sum.over
    c.in-Sum.value _ _ c.in-Sum.is (rw c.deref-in-Sum.ensures at c.in-Ok.ensures.ok)))

pub find_expr-returns-in-Err-Broken : goal.find_expr-returns-in-Err-Broken
find_expr-returns-in-Err-Broken t c =
    inside_told c.find_picked-in-Err-Broken.result _ _ _
    (rw c.deref-in-Err-Broken.ensures at c.find_picked-in-Err-Broken.ensures)
    (λ rule place broken. sym (sum_unpicked c.args.tables.now (aliases_in c.args.scope.now)
    c.args.expr.now c.in-Sum.over c.in-Sum.value c.in-Sum.is c.in-Err-Broken.field-0-0
    c.in-Err-Broken.field-0-1 (rw (c.in-Err-Broken.field-0-is, c.deref-in-Sum.ensures) at
    c.in-Err-Broken.ensures.err)))

pub find_items-returns-in-Err-Broken : goal.find_items-returns-in-Err-Broken
find_items-returns-in-Err-Broken t c =
    let broken = rw c.in-Err-Broken.field-0-is at c.in-Err-Broken.ensures in
    stopped_told c.find_value.result _ _ _ c.in-Err-Broken.field-0-0 c.in-Err-Broken.field-0-1
    broken c.find_value.ensures
    (item_stops c.args.tables.now (aliases_in c.args.scope.now) c.loop-item.columns
    c.args.items.now c.loop-item.item-index c.item-item.result _ c.loop-item-test.true
    c.item-item.is c.loop-item.invariant c.in-Err-Broken.field-0-0 c.in-Err-Broken.field-0-1
    broken)

pub find_items-returns-then-is_some : goal.find_items-returns-then-is_some
find_items-returns-then-is_some t c =
    c.nothing.ensures ∙ item_again c.args.tables.now (aliases_in c.args.scope.now)
    c.loop-item.columns c.args.items.now c.loop-item.item-index c.item-item.result _
    c.loop-item-test.true c.item-item.is c.loop-item.invariant c.in-Ok.ty c.in-Ok.ensures
    (among_looked c.item-item.result.name c.loop-item.columns c.get.result _ c.get.ensures
    (sym c.is_some.ensures ∙ c.if-is_some.true))

pub find_items-loop-item-preserved : goal.find_items-loop-item-preserved
find_items-loop-item-preserved t c =
    items_go_on c.args.tables.now (aliases_in c.args.scope.now)
    c.loop-item.columns c.args.items.now c.loop-item.item-index c.item-item.result _
    c.loop-item-test.true c.item-item.is c.loop-item.invariant c.in-Ok.ty
    c.in_ok-columns-2.columns c.in-Ok.ensures
    (among_looked c.item-item.result.name c.loop-item.columns c.get.result _ c.get.ensures
    (sym c.is_some.ensures ∙ c.if-is_some.false)) c.in_ok-columns-2.ensures

pub find_items-returns : goal.find_items-returns
find_items-returns t c =
    c.nothing-2.ensures ∙ items_done c.args.tables.now (aliases_in c.args.scope.now)
    c.loop-item.columns c.args.items.now c.loop-item.item-index _ c.loop-item-test.false
    c.loop-item.invariant

pub find_select-returns-in-Ok : goal.find_select-returns-in-Ok
find_select-returns-in-Ok t c =
    told c.find_parts.result _ _ c.find_parts.ensures (sym (select_sourced c.args.tables.now
    c.args.select.now _ _ (rw c.as_slice.ensures at c.in-Ok.ensures.ok)))
