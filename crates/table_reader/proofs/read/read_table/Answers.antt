use Rattle.std.proofs.Common.{◌∷◌, refl, arith, length-append, map}
use Rattle.std.proofs.lemmas.Result.{err_from_is_err_and}
use Rattle.csv.specs.Records.{fields_of}
use Rattle.nq_model.specs.CellRefs.{cell_seen}
use Rattle.table_reader.proofs.ReadFacts.{rows_end, rows_more, rows_stop}
use Rattle.table_reader.proofs.FitFacts.{table_given}
use Rattle.table_reader.proofs.read.read_table.Goals as goal

pub returns-then-not-branch-clause-fault : goal.returns-then-not-branch-clause-fault
returns-then-not-branch-clause-fault c =
    λ _. rw c.if-not-branch.true at (c.in_ok-read_header.ensures c.args.text.now c.reader_of-reader.ensures)

pub loop-row-init : goal.loop-row-init
loop-row-init c = record {
  has = rw c.new-rows.ensures (rw c.if-not-branch.false at (c.in_ok-read_header.ensures c.args.text.now c.reader_of-reader.ensures));
  keeps = λ _. rw c.new-rows.ensures c.in_ok-index.ensures;
  number = rw c.new-rows.ensures refl;
}

pub returns-then-not-branch-2-clause-rows : goal.returns-then-not-branch-2-clause-rows
returns-then-not-branch-2-clause-rows c =
    let has = c.loop-row.invariant.has in
    rows_end c.args.shape.now c.args.text.now c.loop-row.reader c.loop-row.rows has
    (rw c.if-not-branch-2.true at (c.in_ok-read_next.ensures c.args.text.now (has.header ∷ has.body) has.given))

pub returns-then-not-branch-2-clause-table : goal.returns-then-not-branch-2-clause-table
returns-then-not-branch-2-clause-table c = table_given c.args.shape.now c.args.text.now c.loop-row.rows (returns-then-not-branch-2-clause-rows c)

pub returns-in_err-cells-clause-fault : goal.returns-in_err-cells-clause-fault
returns-in_err-cells-clause-fault c =
    let has = c.loop-row.invariant.has in
    let given = rw c.if-not-branch-2.false at (c.in_ok-read_next.ensures c.args.text.now (has.header ∷ has.body) has.given) in
    let told = err_from_is_err_and c.from_residual-in_err-cells.result c.from_residual-in_err-cells.ensures.1 in
    rw (told.1, told.2) (λ other.
    rows_stop c.args.shape.now c.args.text.now c.loop-row.reader c.read_next.new.reader c.loop-row.rows has (fields_of c.read_next.new.fields) given _
    (c.in_err-cells.ensures.err c.loop-row.invariant.keeps c.loop-row.invariant.number other))

pub loop-row-preserved : goal.loop-row-preserved
loop-row-preserved c =
    let has = c.loop-row.invariant.has in
    let given = rw c.if-not-branch-2.false at (c.in_ok-read_next.ensures c.args.text.now (has.header ∷ has.body) has.given) in
    let row = c.in_ok-cells.ensures.ok c.loop-row.invariant.keeps c.loop-row.invariant.number in
    let more = rw c.as_slice.ensures.value at c.in_ok-push_lent.ensures.ok in
    record {
      has = rw more (rows_more c.args.shape.now c.args.text.now c.loop-row.reader c.read_next.new.reader c.loop-row.rows has (fields_of c.read_next.new.fields) given (map cell_seen c.in_ok-cells.cells.items) row.0);
      keeps = rw more row.1;
      number = rw (more, length-append) (omega arith);
    }

pub returns-in_err-push_lent-clause-fault : goal.returns-in_err-push_lent-clause-fault
returns-in_err-push_lent-clause-fault c =
    let told = err_from_is_err_and c.from_residual-in_err-push_lent.result c.from_residual-in_err-push_lent.ensures.1 in
    rw (told.1, told.2) (λ other. absurd (other refl))
