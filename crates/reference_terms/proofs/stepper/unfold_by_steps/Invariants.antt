use Rattle.nq_model.specs.Terms.{placed}
use Rattle.nq_model.specs.Unfolding.{Steps}
use Rattle.reference_terms.proofs.stepper.unfold_by_steps.Given as goal

abbrev pub invariant-loop : goal.invariant-loop
invariant-loop l = Steps (placed l.fn.term) (placed l.now)
