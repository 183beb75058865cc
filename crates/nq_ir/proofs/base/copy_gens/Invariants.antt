use Rattle.std.proofs.Common.{◌≡◌, take}
use Rattle.nq_ir.proofs.base.copy_gens.Given as goal

abbrev pub invariant-loop-generator : goal.invariant-loop-generator
invariant-loop-generator l = l.copies ≡ take l.generator-index l.gens
