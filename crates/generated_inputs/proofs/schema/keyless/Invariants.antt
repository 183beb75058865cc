use Rattle.std.proofs.Common.{◌≡◌, map, take}
use Rattle.generated_inputs.proofs.schema.keyless.Given as goal

abbrev pub invariant-loop-column : goal.invariant-loop-column
invariant-loop-column l = l.named ≡ map (λ c. (c.0.now, c.1)) (take l.column-index l.columns)
