use Rattle.std.proofs.Common.{length}
use Rattle.nq_top.proofs.stitch.+gather_answers.Given as goal

abbrev pub decreases-gather_answers : goal.decreases-gather_answers
decreases-gather_answers g l = length l.columns.now
