use Rattle.std.proofs.Common.{◌∙◌, ap, insert}
use Rattle.nq_model.specs.Values.{nested, fields_view}
use Rattle.reference_terms.proofs.Fields.{inserted_view}
use Rattle.reference_terms.proofs.records.put_field.Goals as goal

pub returns : goal.returns
returns c =
    let all = c.into_vec-all.result.items in
    let at = c.place_of-at.result in
    ap fields_view (c.from_vec.ensures ∙ c.in_ok-insert.ensures.items)
    ∙ inserted_view all at (c.args.label, c.args.value)
    ∙ ap (λ fs. insert (fields_view fs) at (c.args.label, nested c.args.value)) c.into_vec-all.ensures
    ∙ (rw (c.as_slice.ensures, c.as_str.ensures.value) at c.place_of-at.ensures.put) (nested c.args.value)
