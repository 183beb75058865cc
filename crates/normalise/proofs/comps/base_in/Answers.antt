use Rattle.std.proofs.Common.{◌∙◌, ap, sym}
use Rattle.std.proofs.lemmas.Result.{IfOk-weaker}
use Rattle.nq_ir.specs.RawForms.{raw_base_in, up_body}
use Rattle.normalise.specs.Raw.{raw_body}
use Rattle.normalise.proofs.Views.{body_plain, moved_body_is}
use Rattle.normalise.proofs.comps.base_in.Goals as goal

pub returns-in-Plain : goal.returns-in-Plain
returns-in-Plain c =
    let m = c.args.body.now in
    let is = moved_body_is m ∙ ap (up_body m.more m.from) (ap raw_body (sym c.deref.ensures ∙ c.in-Plain.is) ∙ body_plain c.in-Plain.base) in
    IfOk-weaker c.under.result _ _ (λ b e. e ∙ sym (ap raw_base_in is)) c.under.ensures
