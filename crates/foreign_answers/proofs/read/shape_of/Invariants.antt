use Rattle.std.proofs.Common.{◌≡◌, ◌++◌, drop}
use Rattle.flatten.specs.Emitted.{answer_shape, answer_shape_from}
use Rattle.foreign_answers.proofs.read.shape_of.Given as goal

abbrev pub invariant-loop-place : goal.invariant-loop-place
invariant-loop-place l = l.named ++ answer_shape_from l.place (drop l.place l.columns) ≡ answer_shape l.columns
