use Rattle.std.proofs.Common.{◌≡◌, ◌+◌, drop, length}
use Rattle.natural_keys.specs.Layouts.{of_type}
use Rattle.natural_keys.proofs.layouts.count.Given as goal

abbrev pub invariant-loop-column : goal.invariant-loop-column
invariant-loop-column l = l.count + length (of_type l.of (drop l.column-index l.columns))
    ≡ length (of_type l.of l.columns)
