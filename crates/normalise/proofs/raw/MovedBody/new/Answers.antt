use Rattle.std.proofs.Common.{refl, ap, ◌∙◌}
use Rattle.normalise.specs.Raw.{raw_body}
use Rattle.normalise.proofs.MovedBodies.{body_unmoved}
use Rattle.normalise.proofs.raw.MovedBody.new.Goals as goal

pub returns : goal.returns
returns c = body_unmoved _ refl ∙ ap raw_body c.in_ok-new.ensures.ok
