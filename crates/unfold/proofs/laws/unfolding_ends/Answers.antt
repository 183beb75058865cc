use Rattle.unfold.specs.Hereditary.{unfolded}
use Rattle.unfold.proofs.Whole.{is_unfolding}
use Rattle.unfold.proofs.laws.unfolding_ends.Goals as goal

pub returns : goal.returns
returns c = λ schema t a h. (unfolded t, is_unfolding schema t a h)
