use Rattle.nq_model.specs.Unfolding.{here}
use Rattle.reference_terms.proofs.stepper.unfold_by_steps.Goals as goal

pub loop-init : goal.loop-init
loop-init c = here
