-- The two laws of traced forms, and the text of what they tell.
use Rattle.std.proofs.Common.{◌≡◌, ◌++◌, [], ap, subst, codes}
use Rattle.nq_ir.specs.Meanings.{comps_meaning}
use Rattle.nq_ir.specs.NormalForms.{normal_form}
use Rattle.nq_model.proofs.Canonical.{canonical_same}
use Rattle.nq_model.proofs.Sameness.{same_trans, same_sym}
use Rattle.nq_model.specs.Databases.{database}
use Rattle.nq_model.specs.Values.{Nested, Same}
use Rattle.traced_meaning.specs.Laws.{FormsHaveTraces, rows_with_numbers}
use Rattle.traced_meaning.specs.TracedForms.{traced_meaning}
use Rattle.traced_meaning.specs.Traces.{trace}
use Rattle.lineage.proofs.Sameness.{form_same}
use Rattle.lineage.proofs.Telling.{form_told}
use Rattle.lineage.specs.ListedTables.{listed}
use Rattle.lineage.specs.Laws.{told, TracedFormsTell, TracesAreTold}
use Rattle.lineage.specs.TraceForms.{form_traced}
use Rattle.lineage.specs.TracedTexts.{traced_written, traced_text}

pub text_same : (v w : Nested) → Same v w → traced_text v ≡ traced_text w
text_same v w s = ap (λ x. traced_written x ++ codes "\n") (canonical_same v w s)

pub forms_tell : TracedFormsTell
forms_tell schema form w ts v s =
    subst (λ x. Same (told form v) x) (form_told schema.tables form w ts)
    (form_same (listed form.comps) (form_traced form) v
    (comps_meaning ts (form_traced form).comps []) s)

pub traces_told : FormsHaveTraces → TracesAreTold
traces_told tell schema element term proper free plain good closed typed w tables held v s =
    let form = normal_form schema.tables element term in
    let ts = rows_with_numbers schema tables in
    let means : Same (told form v) (traced_meaning ts form) = forms_tell schema form w ts v s in
    let traced = trace (database schema.tables tables) [] term in
    let same : Same (told form v) traced =
    same_trans (told form v) (traced_meaning ts form) traced means
    (same_sym traced (traced_meaning ts form)
    (tell schema element term proper free plain good closed typed tables held)) in
    (same, text_same (told form v) traced same)
