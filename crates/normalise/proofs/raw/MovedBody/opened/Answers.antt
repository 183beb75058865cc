use Rattle.std.proofs.Common.{◌≡◌, ap, sym, ◌∙◌}
use Rattle.std.proofs.lemmas.Result.{IfOk-weaker}
use Rattle.normalise.specs.Raw.{raw_body}
use Rattle.normalise.proofs.MovedBodies.{body_same, body_unmoved}
use Rattle.normalise.proofs.raw.MovedBody.opened.Goals as goal

pub returns-in-Ok : goal.returns-in-Ok
returns-in-Ok c = ap raw_body c.in-Ok.ensures.ok ∙ sym (body_unmoved c.args.self c.if-more-eq0.true)

pub returns-in-Err : goal.returns-in-Err
returns-in-Err c =
    let same : c.deref.result.now ≡ c.args.self.body.value = cc (c.deref.ensures, c.in-Err.ensures.err) in
    IfOk-weaker c.body_under.result _ _
    (λ b e. e ∙ body_same (raw_body c.deref.result.now) 0 ∙ ap raw_body same ∙ sym (body_unmoved c.args.self c.if-more-eq0.true))
    c.body_under.ensures
