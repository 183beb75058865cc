use Rattle.std.proofs.Common.{◌≡◌, ◌++◌, drop}
use Rattle.command_line.specs.Paths.{steps_text}
use Rattle.command_line.proofs.paths.put_path.Given as goal

abbrev pub invariant-loop-step : goal.invariant-loop-step
invariant-loop-step l = l.text ++ steps_text (drop l.step-index l.steps) ≡ l.initial.text ++ steps_text l.steps
