use Rattle.traced_meaning.proofs.Erasing.{trace_erased}
use Rattle.traced_meaning.proofs.NumberedSchemas.{proper_with_numbers, tables_with_numbers}
use Rattle.traced_meaning.proofs.Whole.{form_traced}
use Rattle.traced_meaning.proofs.laws.trace_laws.Goals as goal

pub returns : goal.returns
returns c = record {
  erases = λ tables env term. trace_erased tables env term;
  forms = λ schema element term proper free plain good closed typed tables held. form_traced schema
      proper free element term plain good typed tables held;
  proper = λ schema proper free. proper_with_numbers schema proper free;
  fit = λ schema proper tables held few. tables_with_numbers schema proper tables held few;
}
