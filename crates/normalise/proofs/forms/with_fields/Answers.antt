use Rattle.std.proofs.Common.{ap, ◌∙◌}
use Rattle.std.proofs.lemmas.Result.{IfOk-weaker}
use Rattle.nq_ir.specs.RawForms.{raw_rec}
use Rattle.normalise.specs.Raw.{fields_of}
use Rattle.normalise.proofs.Views.{body_rec}
use Rattle.normalise.proofs.forms.with_fields.Goals as goal

pub returns : goal.returns
returns c =
    IfOk-weaker c.new.result _ _ (λ b e. e ∙ body_rec c.in_ok-sorted.sorted ∙ ap (λ l. raw_rec (fields_of l)) c.in_ok-sorted.ensures) c.new.ensures
