use Rattle.std.proofs.Common.{◌≡◌, ◌++◌, drop}
use Rattle.shred_types.specs.Under.{steps_of}
use Rattle.command_line.specs.Frames.{frames}
use Rattle.command_line.proofs.frame.frames.Given as goal

abbrev pub invariant-loop-at : goal.invariant-loop-at
invariant-loop-at l = l.all ++ frames (steps_of (drop l.at l.paths)) (drop l.at l.texts) ≡ frames (steps_of l.paths) l.texts
