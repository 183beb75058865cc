use Rattle.std.proofs.Common.{refl, ap, ◌∙◌}
use Rattle.normalise.specs.Raw.{raw_base}
use Rattle.normalise.proofs.Moves.{base_unmoved}
use Rattle.normalise.proofs.raw.MovedBase.new.Goals as goal

pub returns : goal.returns
returns c = base_unmoved _ refl ∙ ap raw_base c.in_ok-new.ensures.ok
