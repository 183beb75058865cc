use Rattle.nq_model.proofs.Judging.{judged_typed, typed_judged, judged_accepted, accepted_judged, fault_refused, refused_fault}
use Rattle.nq_model.proofs.ProperTypes.{program_avoids}
use Rattle.nq_model.proofs.type_laws.judging_laws.Goals as goal

pub returns : goal.returns
returns c = record {
  typed = λ schema context p a. (judged_typed schema context p a, typed_judged schema context p a);
  accepted = λ schema p a. (judged_accepted schema p a, accepted_judged schema p a);
  refused = λ schema p. (λ f. fault_refused schema p f.0 f.1, refused_fault schema p);
  bound = λ schema p e closed is. program_avoids schema p closed e is;
}
