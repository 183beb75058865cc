use Rattle.nq_model.specs.Terms.{placed_fields}
use Rattle.nq_model.specs.Unfolding.{step_fields}
use Rattle.reference_terms.specs.Stepping.{Tells}
use Rattle.reference_terms.proofs.stepper.+step.Given as goal

abbrev pub invariant-step_fields-loop-label : goal.invariant-step_fields-loop-label
invariant-step_fields-loop-label l = Tells (step_fields (placed_fields l.yielded)) l.moved (placed_fields l.yielded) (placed_fields l.all)
