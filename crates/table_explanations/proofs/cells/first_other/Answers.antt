use Rattle.std.proofs.Common.{List, ℕ, sym, ap, ◌∙◌, drop, arith}
use Rattle.csv.specs.Records.{fields_of}
use Rattle.nq_model.specs.declared.table.ColumnType.{ColumnType}
use Rattle.table_explanations.specs.Explanations.{begins_with_name}
use Rattle.table_explanations.proofs.CellFacts.{other_behind}
use Rattle.table_explanations.proofs.cells.first_other.Goals as goal

pub loop-at-preserved : goal.loop-at-preserved
loop-at-preserved c =
    let cells = drop c.loop-at.at (fields_of c.args.cells.now) in
    let same = c.index-columns-at.is in
    let name = c.as_bytes.ensures.value ∙ c.as_str.ensures.value in
    other_behind c.args.columns.now (fields_of c.args.cells.now) c.loop-at.at
    c.index-columns-at.result (omega arith) same
    (ap (λ (column : List ℕ × ColumnType). begins_with_name column.0 cells) same
    ∙ ap (λ n. begins_with_name n cells) (sym name) ∙ sym c.has_name.ensures
    ∙ c.if-not-has_name.false)
    ∙ c.loop-at.invariant
