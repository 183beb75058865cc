use Rattle.std.proofs.Common.{◌≡◌, ◌++◌, take}
use Rattle.shred_terms.proofs.around.joined_gens.Given as goal

abbrev pub invariant-loop-generator : goal.invariant-loop-generator
invariant-loop-generator l = l.all ≡ take l.generator-index l.outer

abbrev pub invariant-loop-generator-2 : goal.invariant-loop-generator-2
invariant-loop-generator-2 l = l.all ≡ l.outer ++ take l.generator-index l.own
