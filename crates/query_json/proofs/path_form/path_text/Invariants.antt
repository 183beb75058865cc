use Rattle.std.proofs.Common.{◌≡◌, ◌++◌, string_bytes, drop}
use Rattle.std.specs.List.{flat_map}
use Rattle.query_json.specs.Paths.{path_text, step_text}
use Rattle.query_json.proofs.path_form.path_text.Given as goal

abbrev pub invariant-loop-step : goal.invariant-loop-step
invariant-loop-step l = string_bytes l.text ++ flat_map step_text (drop l.step-index l.steps) ≡ path_text l.steps
