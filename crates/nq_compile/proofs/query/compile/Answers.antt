use Rattle.std.proofs.Common.{◌≡◌, ◌∙◌}
use Rattle.std.proofs.lemmas.Result.{IfOk-weaker}
use Rattle.nq_model.specs.QueryMeaning.{Means}
use Rattle.nq_model.specs.Terms.{PlacedTerm, bare, placed, term_tree}
use Rattle.nq_model.specs.Types.{TypeTree, bag, type_tree}
use Rattle.nq_model.specs.Typing.{IsAccepted}
use Rattle.nq_model.specs.Unfolding.{Unfolds}
use Rattle.nq_ir.specs.NormalForms.{normal_form}
use Rattle.nq_ir.specs.Trees.{FormTree, form_tree}
use Rattle.nq_compile.specs.Reading.{TagAndNumberRead}
use Rattle.nq_compile.specs.Shreds.{Shreds, form_means}
use Rattle.nq_compile.specs.Texts.{texts_of}
use Rattle.nq_compile.proofs.Queries.{same_type, query_shreds, query_form}
use Rattle.nq_compile.proofs.query.compile.Goals as goal

pub returns-clause-result : goal.returns-clause-result
returns-clause-result c =
    let schema = c.args.schema.now in
    let form : FormTree = form_tree c.in_ok-normal.normal in
    IfOk-weaker c.compile_normal.result (λ compiled. type_tree compiled.result ≡ bag form.element)
    (λ compiled. (type : TypeTree) → IsAccepted schema (term_tree c.args.term) type → type_tree compiled.result ≡ type)
    (λ compiled is type accepted. is ∙ same_type schema (placed c.args.term) (placed c.in_ok-plain.plain) form c.in_ok-plain.ensures.reached c.in_ok-normal.ensures.of_type type accepted)
    c.compile_normal.ensures.result

pub returns-clause-texts : goal.returns-clause-texts
returns-clause-texts c =
    let schema = c.args.schema.now in
    let form : FormTree = form_tree c.in_ok-normal.normal in
    IfOk-weaker c.compile_normal.result (λ compiled. compiled.texts ≡ texts_of schema form)
    (λ compiled. (element : TypeTree) (plain : PlacedTerm) → IsAccepted schema (term_tree c.args.term) (bag element) → Unfolds (placed c.args.term) plain →
    compiled.texts ≡ texts_of schema (normal_form schema.tables element (bare plain)))
    (λ compiled of. let P : FormTree → Type 0 = λ f. compiled.texts ≡ texts_of schema f in
    query_form schema (placed c.args.term) (placed c.in_ok-plain.plain) form c.in_ok-plain.ensures.reached c.in_ok-normal.ensures.of_type P of c.in_ok-normal.ensures.form)
    c.compile_normal.ensures.texts

pub returns-clause-read : goal.returns-clause-read
returns-clause-read c =
    let schema = c.args.schema.now in
    let form : FormTree = form_tree c.in_ok-normal.normal in
    IfOk-weaker c.compile_normal.result (λ compiled. TagAndNumberRead schema form compiled.texts)
    (λ compiled. (element : TypeTree) (plain : PlacedTerm) → IsAccepted schema (term_tree c.args.term) (bag element) → Unfolds (placed c.args.term) plain →
    TagAndNumberRead schema (normal_form schema.tables element (bare plain)) compiled.texts)
    (λ compiled read. let P : FormTree → Type 0 = λ f. TagAndNumberRead schema f compiled.texts in
    query_form schema (placed c.args.term) (placed c.in_ok-plain.plain) form c.in_ok-plain.ensures.reached c.in_ok-normal.ensures.of_type P read c.in_ok-normal.ensures.form)
    c.compile_normal.ensures.read

pub returns-clause-shreds : goal.returns-clause-shreds
returns-clause-shreds c =
    let schema = c.args.schema.now in
    let form : FormTree = form_tree c.in_ok-normal.normal in
    IfOk-weaker c.compile_normal.result (λ compiled. Shreds schema form.element compiled.texts (form_means form))
    (λ compiled. (element : TypeTree) → IsAccepted schema (term_tree c.args.term) (bag element) → Shreds schema element compiled.texts (λ tables value. Means tables (placed c.args.term) value))
    (λ compiled shreds. query_shreds schema (placed c.args.term) (placed c.in_ok-plain.plain) form c.in_ok-plain.ensures.reached c.in_ok-normal.ensures.of_type
    compiled.texts c.in_ok-normal.ensures.meaning shreds)
    c.compile_normal.ensures.shreds
