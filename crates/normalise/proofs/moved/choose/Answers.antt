use Rattle.std.proofs.Common.{◌∙◌}
use Rattle.std.proofs.lemmas.Result.{IfOk-weaker}
use Rattle.normalise.proofs.Views.{base_choose}
use Rattle.normalise.proofs.moved.choose.Goals as goal

pub returns : goal.returns
returns c = IfOk-weaker c.new.result _ _ (λ m e. e ∙ base_choose c.args.test c.args.yes c.args.no) c.new.ensures
