use Rattle.std.proofs.Common.{length}
use Rattle.sql_reader.specs.Parts.{Base}
use Rattle.sql_reader.specs.Settling.{SameAfter}
use Rattle.sql_reader.specs.Stacks.{forms}
use Rattle.sql_reader.specs.Symbols.{token_view}
use Rattle.sql_reader.specs.Views.{part_view}
use Rattle.sql_reader.proofs.settle.settle.Given as goal

abbrev pub invariant-loop-form : goal.invariant-loop-form
invariant-loop-form l = (b : Base) → SameAfter b (forms l.fn.stack.levels) (part_view l.fn.first) (forms l.stack.levels) (part_view l.part) (token_view l.token)

abbrev pub decreases-loop-form : goal.decreases-loop-form
decreases-loop-form l = length l.stack.levels
