use Rattle.std.proofs.Common.{◌≡◌, ◌++◌, replicate}
use Rattle.natural_keys.proofs.places.push_times.Given as goal

abbrev pub invariant-loop-at : goal.invariant-loop-at
invariant-loop-at l = l.columns ≡ l.initial.columns ++ replicate l.at l.of
