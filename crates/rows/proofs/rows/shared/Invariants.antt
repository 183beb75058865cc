use Rattle.std.proofs.Common.{◌≡◌}
use Rattle.rows.proofs.rows.shared.Given as goal

abbrev pub invariant-loop-column : goal.invariant-loop-column
invariant-loop-column l = l.shared.items ≡ l.yielded
