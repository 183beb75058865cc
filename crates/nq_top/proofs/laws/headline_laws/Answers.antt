use Rattle.nq_top.proofs.HeadlineCases.{accepted_or_not, given_or_not, keyed_or_not, one_refusal}
use Rattle.nq_top.proofs.HeadlineCases.{refused_or_missing, given_not_refused}
use Rattle.nq_top.proofs.laws.headline_laws.Goals as goal

pub returns : goal.returns
returns c = record {
  accepted = accepted_or_not;
  given = given_or_not;
  keyed = keyed_or_not;
  one_refusal = one_refusal;
  not_missing = refused_or_missing;
  not_given = given_not_refused;
}
