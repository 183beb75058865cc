use Rattle.std.proofs.Common.{ap, ◌∙◌}
use Rattle.std.proofs.lemmas.Result.{IfOk-weaker}
use Rattle.nq_ir.specs.RawForms.{raw_plain}
use Rattle.normalise.proofs.Views.{body_plain}
use Rattle.normalise.proofs.forms.binary.Goals as goal

pub returns : goal.returns
returns c = IfOk-weaker c.new.result _ _ (λ b e. e ∙ body_plain c.in_ok-base.base ∙ ap raw_plain c.in_ok-base.ensures) c.new.ensures
