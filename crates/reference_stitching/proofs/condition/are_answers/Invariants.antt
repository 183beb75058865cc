use Rattle.stitcher.specs.Stitching.{rows_of}
use Rattle.reference_stitching.proofs.Answered.{FitBefore}
use Rattle.reference_stitching.proofs.condition.are_answers.Given as goal

abbrev pub invariant-loop-path : goal.invariant-loop-path
invariant-loop-path g l = FitBefore (g.S.IndexScheme.scheme l.scheme) (rows_of l.answers) l.path
