use Rattle.std.proofs.Common.{◌∙◌, ◌-◌, ap, ap₂, sym, map, zip, arith}
use Rattle.nq_model.specs.Meaning.{put_field}
use Rattle.nq_model.specs.Orders.{by_label}
use Rattle.nq_model.specs.Tables.{names_of}
use Rattle.nq_model.specs.Values.{base, fields_view}
use Rattle.reference_terms.proofs.Fields.{none_behind, one_more}
use Rattle.reference_terms.proofs.TableRows.{cells_long, cells_short, cell_beside}
use Rattle.reference_terms.proofs.tables.row_record.Goals as goal

pub loop-place-init : goal.loop-place-init
loop-place-init c =
    let cells = zip (names_of c.args.columns.now) (map base c.args.row.now) in
    record {
      columns = omega arith;
      row = omega arith;
      made =
          ap fields_view c.new-fields.ensures
          ∙ ap by_label (sym (none_behind cells c.min-place.result (omega (arith, cells_short c.args.columns.now c.args.row.now))));
    }

pub loop-place-preserved : goal.loop-place-preserved
loop-place-preserved c =
    let cells = zip (names_of c.args.columns.now) (map base c.args.row.now) in
    let column = c.index-columns-place.result in
    let cell = c.index-row-place.result in
    let p = c.loop-place.place in
    record {
      columns = omega arith;
      row = omega arith;
      made =
          one_more cells _ p column.0 (base cell) c.loop-place-test.true (cells_long c.args.columns.now c.args.row.now p c.loop-place.invariant.columns c.loop-place.invariant.row)
          (cell_beside c.args.columns.now c.args.row.now (p - 1) column cell (column.0, base cell) (omega arith) (omega arith) c.index-columns-place.is c.index-row-place.is)
          (c.in_ok-fields.ensures ∙ ap₂ (λ l v. put_field l v (fields_view c.loop-place.fields)) (c.in_ok-label.ensures ∙ ap (λ z. z.0) (sym c.index-columns-place.is)) (c.value_of.ensures ∙ ap base c.in_ok-cell.ensures) ∙ ap (put_field column.0 (base cell)) c.loop-place.invariant.made);
    }
