use Rattle.canon.proofs.Sorted.{canonical_is_sorted, sorted_is_canonical}
use Rattle.canon.proofs.Typed.{canonical_typed}
use Rattle.canon.proofs.laws.form_laws.Goals as goal

pub returns : goal.returns
returns c = record {
  sorted = canonical_is_sorted;
  settled = sorted_is_canonical;
  typed = canonical_typed;
}
