use Rattle.std.proofs.Common.{◌≡◌, take, map}
use Rattle.nq_model.specs.Substitution.{fields_with_places, shift}
use Rattle.reference_terms.proofs.shift.+shift.Given as goal

abbrev pub invariant-shift_fields-loop-field : goal.invariant-shift_fields-loop-field
invariant-shift_fields-loop-field l =
    fields_with_places l.all ≡ map (λ f. (f.0, shift l.by l.from f.1)) (fields_with_places (take l.field-index l.fields))
