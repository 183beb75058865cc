use Rattle.std.proofs.Common.{sym, subst}
use Rattle.nq_model.specs.QueryTokens.{ClosingBag, Sign}
use Rattle.nq_parser.specs.Forms.{around_view}
use Rattle.nq_parser.specs.States.{Leads}
use Rattle.nq_parser.proofs.type_behind.close_bag.Goals as goal

pub returns : goal.returns
returns c k =
    subst (λ o. Leads c.close_bag_end.result k o)
    (sym (c.in_ok-part.ensures (around_view c.args.ty.around) k (Sign c.args.closing ClosingBag) tt))
    (c.close_bag_end.ensures k)
