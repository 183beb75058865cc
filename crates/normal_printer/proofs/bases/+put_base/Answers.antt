use Rattle.std.proofs.Common.{[], ◌++◌, codes, length, string_bytes, refl, sym, ap, ◌∙◌}
use Rattle.std.proofs.lemmas.Result.{on_ok_weaker}
use Rattle.nq_ir.specs.Trees.{conds_tree}
use Rattle.nq_ir.specs.Printed.{rec, no_field}
use Rattle.normal_printer.specs.Parts.{gens_text, test_term, where_text}
use Rattle.normal_printer.proofs.Chains.{chain_written}
use Rattle.normal_printer.proofs.Joined.{cond_term, conds_written, head_text, part_at, over_written, parts_end, sum_written, tests_written}
use Rattle.normal_printer.proofs.bases.+put_base.Goals as goal

pub put_test-returns : goal.put_test-returns
put_test-returns t c =
    let x = c.args.test.now in
    head_text x.gens (conds_tree x.conds) (rec no_field) _ _ _ _ (codes "[()]")
    (c.in_ok-put_gens.ensures ∙ ap (λ g. string_bytes c.args.text.now ++ gens_text g) c.as_slice.ensures)
    (c.in_ok-put_where.ensures ∙ ap (λ b. string_bytes c.put_gens.new.text ++ where_text (conds_tree b)) c.as_slice-2.ensures) c.in_ok-push_str.ensures.bytes refl

pub put_base-returns-in_ok-put_over-in-Sum : goal.put_base-returns-in_ok-put_over-in-Sum
put_base-returns-in_ok-put_over-in-Sum t c =
    on_ok_weaker c.put_summed.result (λ e. sum_written c.args.base.now c.in-Sum.over c.in-Sum.value _ _ _ _ c.in-Sum.is c.deref-in-Sum.ensures c.in_ok-put_over-in-Sum.ensures e) c.put_summed.ensures

pub put_over-returns : goal.put_over-returns
put_over-returns t c =
    let x = c.args.over.now in
    over_written x _ _ _ _ c.in_ok-push_str.ensures.bytes
    (c.in_ok-put_gens.ensures ∙ ap (λ g. string_bytes c.push_str.new.self ++ gens_text g) c.as_slice.ensures)
    (c.in_ok-put_where.ensures ∙ ap (λ b. string_bytes c.put_gens.new.text ++ where_text (conds_tree b)) c.as_slice-2.ensures)

pub put_tests-returns : goal.put_tests-returns
put_tests-returns t c =
    let tests = c.args.tests.now in
    parts_end (part_at test_term 2 (length tests)) [] (codes " ++ ") c.loop-place.place tests (string_bytes c.loop-place.text) _ c.loop-place-test.false c.loop-place.invariant
    ∙ ap (λ l. string_bytes c.args.text.now ++ l) (tests_written tests (sym c.is_empty.ensures ∙ c.if-is_empty.false))

pub put_where-returns : goal.put_where-returns
put_where-returns t c =
    let conds = c.args.conds.now in
    conds_written conds (string_bytes c.args.text.now) _ _ (sym c.is_empty.ensures ∙ c.if-is_empty.false) c.in_ok-push_str.ensures.bytes
    (parts_end (part_at cond_term 4 (length conds)) (codes "where (") (codes " && ") c.loop-place.place conds (string_bytes c.loop-place.text) _ c.loop-place-test.false c.loop-place.invariant)

pub put_base-returns-in_ok-put_first-in-Chain : goal.put_base-returns-in_ok-put_first-in-Chain
put_base-returns-in_ok-put_first-in-Chain t c =
    on_ok_weaker c.put_more.result (λ e. chain_written c.args.base.now c.in-Chain.op c.in-Chain.first c.in-Chain.more _ _ _ _ _ _ c.in-Chain.is c.deref-in-Chain.ensures c.len.ensures c.as_slice.ensures c.in_ok-put_first-in-Chain.ensures e) c.put_more.ensures
