use Rattle.std.proofs.Common.{All}
use Rattle.nq_model.specs.Cells.{RowFits}
use Rattle.nq_model.specs.Tables.{types_of}
use Rattle.test_engines.specs.Shapes.{pair_columns}
use Rattle.test_engines.proofs.tables.rows_of.Given as goal

abbrev pub invariant-loop-pair : goal.invariant-loop-pair
invariant-loop-pair l = All (RowFits (types_of pair_columns)) l.rows
