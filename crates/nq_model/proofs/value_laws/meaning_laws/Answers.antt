use Rattle.nq_model.proofs.ValueTypes.{typed_meaning, proper_value, one_meaning}
use Rattle.nq_model.proofs.value_laws.meaning_laws.Goals as goal

pub returns : goal.returns
returns c = record {
  typed = typed_meaning;
  proper = proper_value;
  one = one_meaning;
}
