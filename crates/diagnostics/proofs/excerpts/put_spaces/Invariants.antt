use Rattle.std.proofs.Common.{◌≡◌, ◌++◌, replicate}
use Rattle.diagnostics.proofs.excerpts.put_spaces.Given as goal

abbrev pub invariant-loop-at : goal.invariant-loop-at
invariant-loop-at l = l.text ≡ l.initial.text ++ replicate l._at 32
