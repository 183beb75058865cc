use Rattle.std.proofs.Common.{◌∙◌}
use Rattle.std.proofs.lemmas.Result.{IfOk-weaker}
use Rattle.nq_model.specs.declared.term.Unary.TheVariants.{Not}
use Rattle.normalise.proofs.Views.{base_unary}
use Rattle.normalise.proofs.moved.negation.Goals as goal

pub returns : goal.returns
returns c = IfOk-weaker c.new.result _ _ (λ m e. e ∙ base_unary Not c.args.of) c.new.ensures
