use Rattle.std.proofs.Common.{◌≡◌, take, map}
use Rattle.nq_model.specs.Terms.{placed}
use Rattle.nq_model.specs.Substitution.{fields_with_places, subst}
use Rattle.reference_terms.proofs.subst.+subst.Given as goal

abbrev pub invariant-subst_fields-loop-field : goal.invariant-subst_fields-loop-field
invariant-subst_fields-loop-field l =
    fields_with_places l.all ≡ map (λ f. (f.0, subst l.from (placed l.by) f.1)) (fields_with_places (take l.field-index l.fields))
