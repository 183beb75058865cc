use Rattle.nq_parser.specs.Forms.{around_view}
use Rattle.query_syntax.specs.Symbols.{token_view}
use Rattle.query_syntax.specs.Trees.{type_view}
use Rattle.nq_parser.specs.TypeStacks.{type_frames}
use Rattle.nq_parser.proofs.TypeStepping.{foreign, type_foreign}
use Rattle.nq_parser.proofs.type_behind.after_type.Goals as goal

pub returns-in_default : goal.returns-in_default
returns-in_default c k =
    type_foreign (type_frames c.args.ty.forms.levels) (type_view c.args.part.ty) (around_view c.args.ty.around) k (token_view c.args.token)
    (foreign c.args.token.place c.args.token.symbol c.in_default.not-Arrow c.in_default.not-Closing c.in_default.not-ClosingBag c.in_default.not-Comma)
