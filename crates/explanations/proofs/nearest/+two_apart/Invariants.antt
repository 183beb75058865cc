use Rattle.std.proofs.Common.{length}
use Rattle.explanations.proofs.nearest.+two_apart.Given as goal

abbrev pub decreases-two_apart : goal.decreases-two_apart
decreases-two_apart l = length l.word.now
