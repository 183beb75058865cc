use Rattle.std.proofs.Common.{◌≡◌, map, take}
use Rattle.flatten.specs.Emitted.{zero_value}
use Rattle.flatten.specs.Views.{value_tree}
use Rattle.flatten.proofs.values.zeros.Given as goal

abbrev pub invariant-loop-column : goal.invariant-loop-column
invariant-loop-column l = map value_tree l.values ≡ map zero_value (take l.column-index l.columns)
