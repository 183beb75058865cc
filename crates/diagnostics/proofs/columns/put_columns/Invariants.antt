use Rattle.std.proofs.Common.{◌≡◌, ◌-◌, ◌++◌, take}
use Rattle.diagnostics.specs.Columns.{columns, shown_line}
use Rattle.diagnostics.proofs.columns.put_columns.Given as goal

abbrev pub invariant-loop-at : goal.invariant-loop-at
invariant-loop-at l =
    l.text ++ shown_line (take (l.count - l._at) (columns l.rest))
    ≡ l.initial.text ++ shown_line (take l.count (columns l.line))
