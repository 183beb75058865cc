use Rattle.std.proofs.Common.{length}
use Rattle.query_syntax.specs.Trees.{type_view}
use Rattle.nq_parser.specs.TypeSettling.{SameBehind}
use Rattle.nq_parser.specs.TypeStacks.{type_frames}
use Rattle.nq_parser.proofs.type_settle.settle_type.Given as goal

abbrev pub invariant-joining : goal.invariant-joining
invariant-joining l = SameBehind (type_frames l.fn.forms.levels) (type_view l.fn.first.ty) (type_frames l.forms.levels) (type_view l.part.ty)

abbrev pub decreases-joining : goal.decreases-joining
decreases-joining l = length (type_frames l.forms.levels)
