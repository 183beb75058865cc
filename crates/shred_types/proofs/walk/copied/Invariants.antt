use Rattle.std.proofs.Common.{◌≡◌, take}
use Rattle.shred_types.proofs.walk.copied.Given as goal

abbrev pub invariant-loop-step : goal.invariant-loop-step
invariant-loop-step l = l.copies ≡ take l.step-index l.steps
