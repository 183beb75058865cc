use Rattle.std.proofs.Common.{◌∙◌}
use Rattle.std.proofs.lemmas.Result.{IfOk-weaker}
use Rattle.normalise.proofs.Views.{base_binary}
use Rattle.normalise.proofs.moved.operation.Goals as goal

pub returns : goal.returns
returns c = IfOk-weaker c.new.result _ _ (λ m e. e ∙ base_binary c.args.op c.args.left c.args.right) c.new.ensures
