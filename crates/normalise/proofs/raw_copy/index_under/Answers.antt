use Rattle.normalise.proofs.Lists.{index_inner, index_outer}
use Rattle.std.proofs.lemmas.Result.{IfOk-weaker}
use Rattle.normalise.proofs.raw_copy.index_under.Goals as goal

pub returns-then-back-from : goal.returns-then-back-from
returns-then-back-from c = index_inner c.args.more c.args.from c.args.back c.if-back-from.true

pub returns-else-back-from : goal.returns-else-back-from
returns-else-back-from c =
    IfOk-weaker c.plus.result _ _ (λ i e. index_outer c.args.more c.args.from c.args.back i c.if-back-from.false e) c.plus.ensures
