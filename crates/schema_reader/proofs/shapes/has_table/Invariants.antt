use Rattle.std.proofs.Common.{◌≡◌, map, drop}
use Rattle.schema_reader.specs.Shapes.{has}
use Rattle.schema_reader.proofs.shapes.has_table.Given as goal

abbrev pub invariant-loop-table : goal.invariant-loop-table
invariant-loop-table l = has (map (λ t. t.name) (drop l.table-index l.tables)) l.name ≡ has (map (λ t. t.name) l.tables) l.name
