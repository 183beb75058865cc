use Rattle.std.proofs.Common.{◌≡◌, ◌++◌, take, drop}
use Rattle.diagnostics.specs.Lines.{first_line}
use Rattle.diagnostics.proofs.lines.first_line.Given as goal

abbrev pub invariant-loop-at : goal.invariant-loop-at
invariant-loop-at l = take l.at l.bytes ++ first_line (drop l.at l.bytes) ≡ first_line l.bytes
