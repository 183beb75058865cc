use Rattle.nq_model.proofs.Unfolding.{reached_once, steps_around, bare_step, bare_unfolds}
use Rattle.nq_model.proofs.step_laws.unfolding_laws.Goals as goal

pub returns : goal.returns
returns c = record {
  determined = λ t u v a b. reached_once a b;
  parts = λ f t u h s. steps_around h s;
  unplaced_step = bare_step;
  unplaced = λ t u r. bare_unfolds r;
  unplaced_determined = λ t u v a b. reached_once a b;
}
