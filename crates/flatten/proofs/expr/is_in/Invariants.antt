use Rattle.std.proofs.Common.{◌≡◌, drop}
use Rattle.flatten.specs.Emitted.{in_gens}
use Rattle.flatten.proofs.expr.is_in.Given as goal

abbrev pub invariant-loop-generator : goal.invariant-loop-generator
invariant-loop-generator l = in_gens (drop l.generator-index l.gens) l.number ≡ in_gens l.gens l.number
