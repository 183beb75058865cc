use Rattle.std.proofs.Common.{◌∙◌}
use Rattle.std.proofs.lemmas.Result.{IfOk-weaker}
use Rattle.normalise.proofs.Views.{base_count}
use Rattle.normalise.proofs.totals.count_one.Goals as goal

pub returns : goal.returns
returns c = IfOk-weaker c.new.result _ _ (λ b e. e ∙ base_count c.args.test) c.new.ensures
