use Rattle.std.proofs.Common.{◌≡◌, take}
use Rattle.nq_ir.proofs.path.Path.copy.Given as goal

abbrev pub invariant-loop-step : goal.invariant-loop-step
invariant-loop-step l = l.steps ≡ take l.step-index l.self.steps
