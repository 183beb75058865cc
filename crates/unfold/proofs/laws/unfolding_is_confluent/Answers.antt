use Rattle.unfold.proofs.Contractions.{step_contracts, ended_contracts}
use Rattle.unfold.proofs.Confluence.{contractions_meet, contractions_unfold}
use Rattle.unfold.proofs.laws.unfolding_is_confluent.Goals as goal

pub returns : goal.returns
returns c = record { steps = step_contracts; ends = ended_contracts; meets = contractions_meet; one = contractions_unfold }
