use Rattle.std.proofs.Common.{◌≡◌, length}
use Rattle.nq_model.specs.QueryGrammar.{Edition}
use Rattle.nq_parser.specs.Forms.{part_view}
use Rattle.nq_parser.specs.Machine.{after}
use Rattle.nq_parser.specs.Stacks.{frames}
use Rattle.query_syntax.specs.Symbols.{token_view}
use Rattle.nq_parser.proofs.settle.settle.Given as goal

abbrev pub invariant-loop-form : goal.invariant-loop-form
invariant-loop-form l = (ed : Edition) → after ed (frames l.fn.stack.levels) (part_view l.fn.first) (token_view l.token) ≡ after ed (frames l.stack.levels) (part_view l.part) (token_view l.token)

abbrev pub decreases-loop-form : goal.decreases-loop-form
decreases-loop-form l = length l.stack.levels
