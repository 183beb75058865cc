use Rattle.nq_json.proofs.FormFacts.{apart, faultless}
use Rattle.nq_json.proofs.laws.form_laws.Goals as goal

pub returns : goal.returns
returns c = record { apart = apart; faultless = faultless }
