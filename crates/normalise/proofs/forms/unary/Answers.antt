use Rattle.std.proofs.Common.{ap, ◌∙◌}
use Rattle.std.proofs.lemmas.Result.{IfOk-weaker}
use Rattle.nq_ir.specs.RawForms.{raw_plain}
use Rattle.normalise.proofs.Views.{base_unary, body_plain}
use Rattle.normalise.proofs.forms.unary.Goals as goal

pub returns : goal.returns
returns c =
    IfOk-weaker c.new-2.result _ _ (λ b e. e ∙ body_plain c.in_ok-base.base ∙ ap raw_plain (c.in_ok-base.ensures ∙ base_unary c.args.op c.args.of)) c.new-2.ensures
