use Rattle.std.proofs.Common.{◌≡◌, ◌∷◌, map, take, length}
use Rattle.nq_model.specs.Terms.{term_tree, fields_view as terms_view}
use Rattle.nq_ir.specs.RawForms.{each_comp, raw_comps_in, raw_form, raw_tests_of, up_body}
use Rattle.normalise.specs.Raw.{fields_view, raw_comps, raw_tests}
use Rattle.normalise.specs.Scopes.{bodies}
use Rattle.normalise.proofs.walk.+body.Given as goal

abbrev pub invariant-for_comps-loop-comp : goal.invariant-for_comps-loop-comp
invariant-for_comps-loop-comp l =
    raw_comps l.all ≡ each_comp (raw_comps l.yielded) (λ gs e. raw_comps_in (raw_form l.schema.tables (term_tree l.rest) (e ∷ map (up_body (length gs) 0) (bodies l.scope))))

abbrev pub invariant-for_tests-loop-comp : goal.invariant-for_tests-loop-comp
invariant-for_tests-loop-comp l =
    raw_tests l.all ≡ raw_tests_of (each_comp (raw_comps l.yielded) (λ gs e. raw_comps_in (raw_form l.schema.tables (term_tree l.rest) (e ∷ map (up_body (length gs) 0) (bodies l.scope)))))

abbrev pub invariant-fields_of-loop-field : goal.invariant-fields_of-loop-field
invariant-fields_of-loop-field l =
    fields_view l.all ≡ map (λ f. (f.0, raw_form l.schema.tables f.1 (bodies l.scope))) (terms_view (take l.field-index l.fields))
