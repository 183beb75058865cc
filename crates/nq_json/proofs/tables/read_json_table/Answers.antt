use Rattle.std.proofs.Common.{◌≡◌, ◌+◌, map, length, length-append, sym, ap, ◌∙◌, arith}
use Rattle.std.proofs.lemmas.List.{drop_all}
use Rattle.std.proofs.lemmas.Result.{err_from_is_err_and}
use Rattle.nq_model.specs.CellRefs.{cell_seen}
use Rattle.serde_json.specs.View.{view, items_view}
use Rattle.nq_json.specs.Tables.{rows_after}
use Rattle.nq_json.proofs.Arrays.{not_json, not_array, array_is, row_more, row_stop}
use Rattle.nq_json.proofs.tables.read_json_table.Goals as goal

pub returns-in_err-json-clause-fault : goal.returns-in_err-json-clause-fault
returns-in_err-json-clause-fault c =
    let told = err_from_is_err_and c.from_residual.result c.from_residual.ensures.1 in
    rw (told.1, told.2) (λ other.
    let no = c.in_err-json.ensures.err other in
    rw no.0 (not_json c.args.shape.now c.args.text.now no.1))

pub returns-in_default-clause-fault : goal.returns-in_default-clause-fault
returns-in_default-clause-fault c = λ _. not_array c.args.shape.now c.args.text.now (view c.in_ok-json.json) c.in_ok-json.ensures.ok (sym (rw c.in_default.is at c.as_array.ensures))

pub returns-in_err-cells-clause-fault : goal.returns-in_err-cells-clause-fault
returns-in_err-cells-clause-fault c =
    let l = c.loop-at in
    let items = c.deref-item-items.result.now in
    let number : l.at + 1 ≡ length l.rows + 1 = ap (λ n. n + 1) l.invariant.number in
    let whole = array_is c.args.shape.now c.args.text.now (view c.in_ok-json.json) (items_view items) c.in_ok-json.ensures.ok (rw c.deref-item-items.ensures.value (sym c.in-Some.ensures)) in
    let told = err_from_is_err_and c.from_residual-in_err-cells.result c.from_residual-in_err-cells.ensures.1 in
    rw (told.1, told.2) (λ other.
    whole ∙ l.invariant.so_far ∙ row_stop c.args.shape.now items l.at c.item-item.result c.loop-at-test.true c.item-item.is l.rows _ (c.in_err-cells.ensures.err l.invariant.keeps number other))

pub loop-at-preserved : goal.loop-at-preserved
loop-at-preserved c =
    let l = c.loop-at in
    let items = c.deref-item-items.result.now in
    let number : l.at + 1 ≡ length l.rows + 1 = ap (λ n. n + 1) l.invariant.number in
    let row = map cell_seen c.in_ok-cells.cells.items in
    let next = c.in_ok-cells.ensures.ok l.invariant.keeps number in
    let more = rw c.as_slice.ensures.value at c.in_ok-push_lent.ensures.ok in
    record {
      so_far = rw more (l.invariant.so_far ∙ row_more c.args.shape.now items l.at c.item-item.result c.loop-at-test.true c.item-item.is l.rows row next.0);
      keeps = rw more next.1;
      table = rw more (c.in_ok-cells.ensures.table l.invariant.keeps l.invariant.table);
      number = rw (more, length-append) (omega arith);
    }

pub returns-clause-rows : goal.returns-clause-rows
returns-clause-rows c =
    let l = c.loop-at in
    let items = c.deref-item-items.result.now in
    let whole = array_is c.args.shape.now c.args.text.now (view c.in_ok-json.json) (items_view items) c.in_ok-json.ensures.ok (rw c.deref-item-items.ensures.value (sym c.in-Some.ensures)) in
    let none = drop_all l.at items c.loop-at-test.false in
    whole ∙ l.invariant.so_far ∙ ap (λ vs. rows_after c.args.shape.now l.rows (items_view vs)) none
