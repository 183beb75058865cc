use Rattle.std.proofs.Common.{◌≡◌, ◌-◌, drop}
use Rattle.diagnostics.specs.Columns.{columns}
use Rattle.diagnostics.proofs.columns.skip_columns.Given as goal

abbrev pub invariant-loop-at : goal.invariant-loop-at
invariant-loop-at l = drop (l.count - l._at) (columns l.rest) ≡ drop l.count (columns l.line)
