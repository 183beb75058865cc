use Rattle.std.proofs.Common.{◌≡◌, [], map, take, drop}
use Rattle.nq_model.specs.Tables.{names_of}
use Rattle.schema_reader.specs.Shapes.{keys_fault}
use Rattle.schema_reader.specs.Views.{name_view}
use Rattle.schema_reader.proofs.shapes.key_of.Given as goal

abbrev pub invariant-loop-name : goal.invariant-loop-name
invariant-loop-name l = record {
  made : l.key ≡ map (λ n. n.text) (map name_view (take l.name-index l.written));
  left : keys_fault (names_of l.columns) l.key (map name_view (drop l.name-index l.written)) ≡ keys_fault (names_of l.columns) [] (map name_view l.written);
}
