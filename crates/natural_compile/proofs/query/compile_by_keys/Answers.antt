use Rattle.std.proofs.Common.{◌≡◌, None, ◌∙◌, map, sym, ap₂, subst}
use Rattle.std.proofs.lemmas.Result.{IfErr-weaker, IfOk-weaker}
use Rattle.nq_model.specs.Numberings.{count_from}
use Rattle.nq_model.specs.QueryMeaning.{Means}
use Rattle.nq_model.specs.Terms.{placed, term_tree}
use Rattle.nq_model.specs.Types.{TypeTree, bag, type_tree}
use Rattle.nq_model.specs.Typing.{IsAccepted}
use Rattle.nq_compile.specs.Reading.{SchemeReads}
use Rattle.nq_compile.specs.Shreds.{StitchTo}
use Rattle.nq_ir.specs.Parts.{bags}
use Rattle.nq_ir.specs.Trees.{FormTree, form_tree}
use Rattle.stitcher.specs.Schemes.{Scheme}
use Rattle.natural_keys.specs.NaturalKeys.{natural_keys}
use Rattle.natural_keys.specs.declared.index.KeyIndex.{KeyIndex}
use Rattle.natural_index.specs.Naming.{NoKeySays, no_key}
use Rattle.natural_compile.specs.Texts.{OfForm, keyed_texts}
use Rattle.natural_compile.proofs.Columns.{ok_three, ok_two}
use Rattle.natural_compile.proofs.Queries.{keys_of_query, query_stitches}
use Rattle.nq_compile.proofs.Queries.{query_form, same_type}
use Rattle.natural_compile.proofs.query.compile_by_keys.Goals as goal

pub returns-clause-named : goal.returns-clause-named
returns-clause-named c =
    let schema = c.args.schema.now in
    let form : FormTree = form_tree c.in_ok-normal.normal in
    IfOk-weaker c.form_by_keys.result (λ compiled. no_key schema.tables form ≡ None)
    (λ compiled. OfForm schema (placed c.args.term) (λ f. no_key schema.tables f ≡ None))
    (λ compiled named. query_form schema (placed c.args.term) (placed c.in_ok-plain.plain) form
    c.in_ok-plain.ensures.reached c.in_ok-normal.ensures.of_type
    (λ f. no_key schema.tables f ≡ None) named c.in_ok-normal.ensures.form)
    c.form_by_keys.ensures.named

pub returns-clause-fault : goal.returns-clause-fault
returns-clause-fault c =
    let schema = c.args.schema.now in
    let form : FormTree = form_tree c.in_ok-normal.normal in
    IfErr-weaker c.form_by_keys.result (NoKeySays (no_key schema.tables form))
    (λ fault. OfForm schema (placed c.args.term) (λ f. NoKeySays
    (no_key schema.tables f) fault))
    (λ fault says. query_form schema (placed c.args.term) (placed c.in_ok-plain.plain) form
    c.in_ok-plain.ensures.reached c.in_ok-normal.ensures.of_type
    (λ f. NoKeySays (no_key schema.tables f) fault) says c.in_ok-normal.ensures.form)
    c.form_by_keys.ensures.fault

pub returns-clause-result : goal.returns-clause-result
returns-clause-result c =
    let schema = c.args.schema.now in
    let form : FormTree = form_tree c.in_ok-normal.normal in
    IfOk-weaker c.form_by_keys.result (λ compiled. type_tree compiled.result ≡ bag form.element)
    (λ compiled. (type : TypeTree) → IsAccepted schema (term_tree c.args.term) type
    → type_tree compiled.result ≡ type)
    (λ compiled is type accepted. is ∙ same_type schema (placed c.args.term)
    (placed c.in_ok-plain.plain) form c.in_ok-plain.ensures.reached
    c.in_ok-normal.ensures.of_type type accepted)
    c.form_by_keys.ensures.result

pub returns-clause-keys : goal.returns-clause-keys
returns-clause-keys c =
    keys_of_query c.args.schema.now (placed c.args.term) (placed c.in_ok-plain.plain)
    (form_tree c.in_ok-normal.normal) c.in_ok-plain.ensures.reached
    c.in_ok-normal.ensures.of_type c.form_by_keys.result _ c.in_ok-normal.ensures.form
    c.form_by_keys.ensures.keys

pub returns-clause-columns : goal.returns-clause-columns
returns-clause-columns c =
    ok_three c.form_by_keys.result _ _ _ _
    (λ compiled result keys columns. columns ∙ ap₂ (λ (s : Scheme KeyIndex) (a : TypeTree).
    map s.columns (count_from 0 (bags a))) (sym keys) (sym result))
    c.form_by_keys.ensures.result c.form_by_keys.ensures.keys c.form_by_keys.ensures.columns

pub returns-clause-texts : goal.returns-clause-texts
returns-clause-texts c =
    let schema = c.args.schema.now in
    let form : FormTree = form_tree c.in_ok-normal.normal in
    IfOk-weaker c.form_by_keys.result (λ compiled. compiled.texts ≡ keyed_texts schema.tables form)
    (λ compiled. OfForm schema (placed c.args.term)
    (λ f. compiled.texts ≡ keyed_texts schema.tables f))
    (λ compiled is. query_form schema (placed c.args.term) (placed c.in_ok-plain.plain) form
    c.in_ok-plain.ensures.reached c.in_ok-normal.ensures.of_type
    (λ f. compiled.texts ≡ keyed_texts schema.tables f) is c.in_ok-normal.ensures.form)
    c.form_by_keys.ensures.texts

pub returns-clause-stitched : goal.returns-clause-stitched
returns-clause-stitched c =
    let schema = c.args.schema.now in
    let form : FormTree = form_tree c.in_ok-normal.normal in
    ok_two c.form_by_keys.result _ (λ compiled. SchemeReads (natural_keys schema.tables form) schema
    form compiled.texts) _
    (λ compiled keys reads element accepted.
    let P : Scheme KeyIndex → Type 0 = λ s. StitchTo s schema element compiled.texts
    (λ tables value. Means tables (placed c.args.term) value) in
    subst P (sym keys) (query_stitches (natural_keys schema.tables form) schema
    (placed c.args.term) (placed c.in_ok-plain.plain) form compiled.texts
    c.in_ok-plain.ensures.reached c.in_ok-normal.ensures.of_type
    c.in_ok-normal.ensures.well_formed c.in_ok-normal.ensures.meaning reads element accepted))
    c.form_by_keys.ensures.keys c.form_by_keys.ensures.read
