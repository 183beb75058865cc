use Rattle.std.proofs.Common.{length}
use Rattle.explanations.proofs.nearest.+one_apart.Given as goal

abbrev pub decreases-one_apart : goal.decreases-one_apart
decreases-one_apart l = length l.word.now
