use Rattle.std.proofs.Common.{◌≢◌, take, All}
use Rattle.nq_model.specs.declared.table.TableShape.{TableShape}
use Rattle.traced_meaning.specs.NumberedTables.{number_column}
use Rattle.lineage.proofs.form.has_no_numbers.Given as goal

abbrev pub invariant-loop-shape : goal.invariant-loop-shape
invariant-loop-shape l =
    All (λ (shape : TableShape). All (λ column. column.0 ≢ number_column) shape.columns)
    (take l.shape-index l.shape-items)
