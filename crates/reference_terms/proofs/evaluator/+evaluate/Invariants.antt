use Rattle.std.proofs.Common.{◌≡◌, ◌≤◌, ◌∷◌, ◌++◌, drop, flat_map, length, map}
use Rattle.nq_model.specs.Databases.{database}
use Rattle.rows.specs.Tables.{rows_of}
use Rattle.nq_model.specs.Meaning.{meaning, field_meanings, elements_in}
use Rattle.nq_model.specs.Terms.{term_tree, term_fields_of, fields_view as terms_view}
use Rattle.nq_model.specs.Values.{nested, fields_view}
use Rattle.reference_terms.specs.Scopes.{values}
use Rattle.reference_terms.proofs.evaluator.+evaluate.Given as goal

abbrev pub invariant-evaluate-loop-value : goal.invariant-evaluate-loop-value
invariant-evaluate-loop-value l =
    map nested l.all
    ++ flat_map (λ v. elements_in (meaning (database l.schema.tables (rows_of l.tables)) (v ∷ values l.scope) (term_tree l.body.value))) (map nested (drop l.value-index l.value-items))
    ≡ flat_map (λ v. elements_in (meaning (database l.schema.tables (rows_of l.tables)) (v ∷ values l.scope) (term_tree l.body.value))) (map nested l.value-items)

abbrev pub invariant-evaluate_fields-loop-place :
    goal.invariant-evaluate_fields-loop-place
invariant-evaluate_fields-loop-place l =
    (l.place ≤ length l.fields)
    × (fields_view l.made ≡ field_meanings (database l.schema.tables (rows_of l.tables)) (values l.scope) (term_fields_of (terms_view (drop l.place l.fields))))

abbrev pub decreases-evaluate_fields-loop-place :
    goal.decreases-evaluate_fields-loop-place
decreases-evaluate_fields-loop-place l = l.place
