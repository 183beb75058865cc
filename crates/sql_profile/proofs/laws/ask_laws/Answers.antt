use Rattle.sql_profile.proofs.AskedAnswers.{asked_fits}
use Rattle.sql_profile.proofs.laws.ask_laws.Goals as goal

pub returns : goal.returns
returns c = record { fitting = asked_fits }
