use Rattle.traced_meaning.proofs.RowNames.{names_back, same_elements, names_of_same, elements_compared}
use Rattle.traced_meaning.proofs.laws.element_laws.Goals as goal

pub returns : goal.returns
returns c = record {
  names = λ names. names_back names;
  same = λ v w names others. (
    λ s. (s.1, names_of_same v w names others s),
    λ h. same_elements v w names others h.0 h.1,
  );
  order = λ v w names others. elements_compared v w names others;
}
