use Rattle.std.proofs.Common.{◌≡◌, ap, sym, ◌∙◌, List}
use Rattle.std.proofs.lemmas.Result.{IfOk-weaker}
use Rattle.nq_model.specs.NamedRows.{Label}
use Rattle.nq_ir.specs.RawForms.{RawBody, raw_field_in, raw_rec, up_body}
use Rattle.normalise.specs.Raw.{moved_body, raw_body, raw_fields_of}
use Rattle.normalise.specs.declared.raw.MovedBody.{MovedBody}
use Rattle.normalise.proofs.FieldFacts.{field_none, field_under}
use Rattle.normalise.proofs.Views.{body_rec, moved_body_is}
use Rattle.normalise.proofs.fields.field_in.Goals as goal

pub returns-in-Some : goal.returns-in-Some
returns-in-Some c =
    let m = c.args.body.now in
    let label = c.args.label.now in
    let x = c.index-fields-at.result in
    let record_is : raw_body m.body.value ≡ raw_rec (raw_fields_of c.in-Rec.fields) = ap raw_body (sym c.deref.ensures ∙ c.in-Rec.is) ∙ body_rec c.in-Rec.fields in
    IfOk-weaker c.under.result _ _
    (λ b e. e
    ∙ ap (λ (y : Label × MovedBody). up_body m.more m.from (moved_body y.1)) (sym c.index-fields-at.is)
    ∙ field_under m.more m.from label c.as_slice-fields.result.now c.in-Some.at x c.in-Some.ensures.0 c.index-fields-at.is c.in-Some.ensures.1
    ∙ ap (λ (fs : List (Label × MovedBody)). raw_field_in label (up_body m.more m.from (raw_rec (raw_fields_of fs)))) c.as_slice-fields.ensures
    ∙ ap (λ (z : RawBody). raw_field_in label (up_body m.more m.from z)) (sym record_is)
    ∙ sym (ap (raw_field_in label) (moved_body_is m)))
    c.under.ensures

pub returns-in-None : goal.returns-in-None
returns-in-None c =
    let m = c.args.body.now in
    let label = c.args.label.now in
    let record_is : raw_body m.body.value ≡ raw_rec (raw_fields_of c.in-Rec.fields) = ap raw_body (sym c.deref.ensures ∙ c.in-Rec.is) ∙ body_rec c.in-Rec.fields in
    let none = rw c.as_slice-fields.ensures at c.in-None.ensures in
    IfOk-weaker c.no_body.result _ _
    (λ b e. e
    ∙ field_none m.more m.from label (raw_fields_of c.in-Rec.fields) none
    ∙ ap (λ (z : RawBody). raw_field_in label (up_body m.more m.from z)) (sym record_is)
    ∙ sym (ap (raw_field_in label) (moved_body_is m)))
    c.no_body.ensures
