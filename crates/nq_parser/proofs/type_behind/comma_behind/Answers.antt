use Rattle.std.proofs.Common.{sym, subst}
use Rattle.nq_model.specs.QueryTokens.{Comma, Sign}
use Rattle.nq_parser.specs.Forms.{around_view}
use Rattle.nq_parser.specs.States.{Leads}
use Rattle.nq_parser.proofs.type_behind.comma_behind.Goals as goal

pub returns : goal.returns
returns c k =
    subst (λ o. Leads c.comma_end.result k o)
    (sym (c.in_ok-part.ensures (around_view c.args.ty.around) k (Sign c.args.comma Comma) tt))
    (c.comma_end.ensures k)
