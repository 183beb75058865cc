use Rattle.std.proofs.Common.{◌≡◌, take}
use Rattle.nq_model.specs.Substitution.{fields_with_places}
use Rattle.nq_model.proofs.+copy_term.Given as goal

abbrev pub invariant-term_copy::copy_fields-loop-field : goal.invariant-term_copy::copy_fields-loop-field
invariant-term_copy::copy_fields-loop-field l =
    fields_with_places l.all ≡ fields_with_places (take l.field-index l.fields)
