use Rattle.std.proofs.Common.{ap, ◌∙◌}
use Rattle.std.proofs.lemmas.Result.{IfOk-weaker}
use Rattle.nq_ir.specs.RawForms.{raw_bag}
use Rattle.normalise.proofs.forms.union.Goals as goal

pub returns : goal.returns
returns c = IfOk-weaker c.bag.result _ _ (λ b e. e ∙ ap raw_bag c.in_ok-comps.ensures) c.bag.ensures
