use Rattle.std.proofs.Common.{◌≡◌, drop}
use Rattle.nq_ir.specs.WellFormed.{table_columns}
use Rattle.natural_keys.proofs.columns.columns_of.Given as goal

abbrev pub invariant-loop-shape : goal.invariant-loop-shape
invariant-loop-shape l = table_columns (drop l.shape-index l.shape-items) l.table
    ≡ table_columns l.shape-items l.table
