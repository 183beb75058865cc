use Rattle.std.proofs.Common.{◌≡◌, [], map, take, drop}
use Rattle.nq_model.specs.SchemaTexts.{shape_of}
use Rattle.schema_reader.specs.Shapes.{tables_fault}
use Rattle.schema_reader.specs.Reading.{table_view}
use Rattle.schema_reader.proofs.shapes.schema_of.Given as goal

abbrev pub invariant-loop-table : goal.invariant-loop-table
invariant-loop-table l = record {
  made : l.tables ≡ map shape_of (map table_view (take l.table-index l.written));
  left : tables_fault (map (λ t. t.name) l.tables) (map table_view (drop l.table-index l.written)) ≡ tables_fault [] (map table_view l.written);
}
