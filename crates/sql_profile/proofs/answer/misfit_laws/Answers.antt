use Rattle.sql_profile.proofs.Misfits.{fits_without_misfit, one_first_misfit}
use Rattle.sql_profile.proofs.answer.misfit_laws.Goals as goal

pub returns : goal.returns
returns c = record { fitting = fits_without_misfit; at_most_one = one_first_misfit }
