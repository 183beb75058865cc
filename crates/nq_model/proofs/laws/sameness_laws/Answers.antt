use Rattle.nq_model.proofs.Sameness.{same_Decides, same_refl, same_sym, same_trans, same_bag, same_counted}
use Rattle.nq_model.proofs.laws.sameness_laws.Goals as goal

pub returns : goal.returns
returns c = record {
  counting_decides = same_Decides;
  reflexive = same_refl;
  symmetric = same_sym;
  transitive = same_trans;
  congruent = same_bag;
  counted = same_counted;
}
