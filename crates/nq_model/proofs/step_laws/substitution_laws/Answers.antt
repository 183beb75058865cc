use Rattle.nq_model.proofs.Substitution.{bare_shift, bare_subst}
use Rattle.nq_model.proofs.step_laws.substitution_laws.Goals as goal

pub returns : goal.returns
returns c = record { shifting = bare_shift; substituting = bare_subst }
