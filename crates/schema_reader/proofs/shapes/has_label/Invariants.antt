use Rattle.std.proofs.Common.{◌≡◌, drop}
use Rattle.schema_reader.specs.Shapes.{has}
use Rattle.schema_reader.proofs.shapes.has_label.Given as goal

abbrev pub invariant-loop-label : goal.invariant-loop-label
invariant-loop-label l = has (drop l.label-index l.labels) l.name ≡ has l.labels l.name
