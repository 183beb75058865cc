use Rattle.std.proofs.Common.{◌≡◌, [], map, take, drop}
use Rattle.nq_model.specs.Tables.{names_of}
use Rattle.schema_reader.specs.Shapes.{columns_fault}
use Rattle.schema_reader.specs.Views.{column_view}
use Rattle.schema_reader.specs.Answers.{pair_of}
use Rattle.schema_reader.proofs.shapes.columns_of.Given as goal

abbrev pub invariant-loop-column : goal.invariant-loop-column
invariant-loop-column l = record {
  made : l.columns ≡ map pair_of (map column_view (take l.column-index l.written));
  left : columns_fault (names_of l.columns) (map column_view (drop l.column-index l.written)) ≡ columns_fault [] (map column_view l.written);
}
