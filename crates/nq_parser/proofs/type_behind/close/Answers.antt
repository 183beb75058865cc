use Rattle.std.proofs.Common.{sym, subst}
use Rattle.nq_model.specs.QueryTokens.{Closing, Sign}
use Rattle.nq_parser.specs.Forms.{around_view}
use Rattle.nq_parser.specs.States.{Leads}
use Rattle.nq_parser.proofs.type_behind.close.Goals as goal

pub returns : goal.returns
returns c k =
    subst (λ o. Leads c.close_end.result k o)
    (sym (c.in_ok-part.ensures (around_view c.args.ty.around) k (Sign c.args.closing Closing) tt))
    (c.close_end.ensures k)
