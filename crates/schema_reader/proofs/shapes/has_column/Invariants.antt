use Rattle.std.proofs.Common.{◌≡◌, drop}
use Rattle.nq_model.specs.Tables.{names_of}
use Rattle.schema_reader.specs.Shapes.{has}
use Rattle.schema_reader.proofs.shapes.has_column.Given as goal

abbrev pub invariant-loop-column : goal.invariant-loop-column
invariant-loop-column l = has (names_of (drop l.column-index l.columns)) l.name ≡ has (names_of l.columns) l.name
