use Rattle.nq_model.proofs.Canonical.{value_order, values_tie, same_canonical, canonical_same, same_by_canonical}
use Rattle.nq_model.proofs.laws.canonical_laws.Goals as goal

pub returns : goal.returns
returns c = record {
  total = value_order.total;
  ties = values_tie;
  same = same_canonical;
  determined = canonical_same;
  determines = same_by_canonical;
}
