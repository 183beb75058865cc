use Rattle.std.proofs.Common.{[], ◌++◌, codes, string_bytes, sym, ap, ◌∙◌}
use Rattle.sql_profile.specs.Parts.{selects_tree}
use Rattle.sql_profile.specs.Printed.{printed_query}
use Rattle.sql_profile.proofs.Parts.{query_is}
use Rattle.sql_printer.proofs.Chains.{chain_written, choice_written}
use Rattle.sql_printer.proofs.Items.{item_text, items_joined, key_text, keys_joined, parts_end, select_text, selects_joined}
use Rattle.sql_printer.proofs.Texts.{three_pieces}
use Rattle.sql_printer.proofs.Totals.{count_printed, on_ok, sum_printed}
use Rattle.sql_printer.proofs.+put.Goals as goal

pub expr::put_expr-returns-in_ok-put_expr-in-Chain : goal.expr::put_expr-returns-in_ok-put_expr-in-Chain
expr::put_expr-returns-in_ok-put_expr-in-Chain t c =
    on_ok c.put_links.result (chain_written c.args.expr.now c.in-Chain.op c.in-Chain.first c.in-Chain.more c.as_slice.result.now c.len.result c.deref-in-Chain.result.now (string_bytes c.args.text.now) _ _ _ c.in-Chain.is c.deref-in-Chain.ensures
    c.len.ensures c.as_slice.ensures c.in_ok-put_openings-in-Chain.ensures c.in_ok-put_expr-in-Chain.ensures) c.put_links.ensures

pub expr::put_expr-returns-in_ok-put_part-in-Choose-2 : goal.expr::put_expr-returns-in_ok-put_part-in-Choose-2
expr::put_expr-returns-in_ok-put_part-in-Choose-2 t c =
    on_ok c.put_part-in-Choose-3.result (choice_written c.args.expr.now c.in-Choose.test c.in-Choose.yes c.in-Choose.no c.deref-in-Choose.result.now c.deref-in-Choose-2.result.now c.deref-in-Choose-3.result.now (string_bytes c.args.text.now) _ _ _ _
    c.in-Choose.is c.deref-in-Choose.ensures c.deref-in-Choose-2.ensures c.deref-in-Choose-3.ensures c.in_ok-push_str-in-Choose.ensures.bytes c.in_ok-put_part-in-Choose.ensures c.in_ok-put_part-in-Choose-2.ensures) c.put_part-in-Choose-3.ensures

pub expr::put_expr-returns-in_ok-push_str-in-Count : goal.expr::put_expr-returns-in_ok-push_str-in-Count
expr::put_expr-returns-in_ok-push_str-in-Count t c =
    on_ok c.put_picked.result (count_printed c.args.expr.now c.in-Count.over c.deref-in-Count.result.now c.deref-in-Count.ensures (string_bytes c.args.text.now) _ _ c.in-Count.is c.in_ok-push_str-in-Count.ensures.bytes) c.put_picked.ensures

pub expr::put_expr-returns-in_ok-put_part-in-Sum : goal.expr::put_expr-returns-in_ok-put_part-in-Sum
expr::put_expr-returns-in_ok-put_part-in-Sum t c =
    on_ok c.put_picked-in-Sum.result (sum_printed c.args.expr.now c.in-Sum.over c.deref-in-Sum-2.result.now c.deref-in-Sum-2.ensures c.in-Sum.value c.deref-in-Sum.result.now (string_bytes c.args.text.now) _ _ _ c.deref-in-Sum.ensures c.in-Sum.is
    c.in_ok-push_str-in-Sum.ensures.bytes c.in_ok-put_part-in-Sum.ensures) c.put_picked-in-Sum.ensures

pub expr::put_keys-returns : goal.expr::put_keys-returns
expr::put_keys-returns t c =
    parts_end key_text (codes "ORDER BY ") (codes ", ") c.loop-place.place c.args.keys.now (string_bytes c.loop-place.text) _ c.loop-place-test.false c.loop-place.invariant
    ∙ ap (λ l. string_bytes c.args.text.now ++ l) (keys_joined c.args.keys.now)

pub query::put_items-returns : goal.query::put_items-returns
query::put_items-returns t c =
    parts_end item_text [] (codes ", ") c.loop-place.place c.args.items.now (string_bytes c.loop-place.text) _ c.loop-place-test.false c.loop-place.invariant
    ∙ ap (λ l. string_bytes c.args.text.now ++ l) (items_joined c.args.items.now)

pub query::put_number-returns : goal.query::put_number-returns
query::put_number-returns t c = three_pieces _ _ _ _ _ _ _ c.in_ok-push_str.ensures.bytes c.in_ok-put_keys.ensures c.in_ok-push_str-2.ensures.bytes

pub query::put_query-returns : goal.query::put_query-returns
query::put_query-returns t c =
    let selects = c.as_slice-select-items.result.now in
    parts_end select_text [] (codes " UNION ALL ") c.loop-place.place selects (string_bytes c.loop-place.text) _ c.loop-place-test.false c.loop-place.invariant
    ∙ ap (λ l. string_bytes c.args.text.now ++ l) (selects_joined selects)
    ∙ ap (λ q. string_bytes c.args.text.now ++ printed_query q) (ap selects_tree c.as_slice-select-items.ensures ∙ sym (query_is c.args.query.now))
