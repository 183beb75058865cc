use Rattle.std.proofs.Common.{◌≡◌, ◌+◌, drop}
use Rattle.nq_model.specs.Terms.{term_fields_of, fields_view}
use Rattle.unfold.specs.Hereditary.{fuel_fields}
use Rattle.unfold.proofs.fuel.+fuel.Given as goal

abbrev pub invariant-more_fuel_of_fields-loop-field : goal.invariant-more_fuel_of_fields-loop-field
invariant-more_fuel_of_fields-loop-field l =
    l.all + fuel_fields (term_fields_of (fields_view (drop l.field-index l.fields))) ≡ l.fn.n + fuel_fields (term_fields_of (fields_view l.fields))
