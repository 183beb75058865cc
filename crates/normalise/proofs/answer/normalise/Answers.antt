use Rattle.std.proofs.Common.{ap, ◌∙◌, List}
use Rattle.nq_model.specs.Terms.{term_tree}
use Rattle.nq_model.specs.Types.{type_tree}
use Rattle.nq_ir.specs.RawForms.{RawBody, raw_comps_in, raw_form}
use Rattle.nq_ir.specs.Trees.{form_tree}
use Rattle.normalise.specs.Raw.{raw_comps}
use Rattle.normalise.proofs.Whole.{bodies_top, form_is, if_all, means, typed, well_formed, words}
use Rattle.normalise.proofs.answer.normalise.Goals as goal

pub returns-clause-form : goal.returns-clause-form
returns-clause-form c =
    let schema = c.args.schema.now in
    let m = term_tree c.args.term.now in
    let p = c.requires.proper in
    let raw = raw_comps c.as_slice.result.now in
    let accepted = rw c.in-Ok.is at c.check.ensures.ok in
    let walked = ap raw_comps c.as_slice.ensures ∙ c.in_ok-comps.ensures ∙ ap (λ (es : List RawBody). raw_comps_in (raw_form schema.tables m es)) bodies_top in
    if_all _ _ _ _ _ (λ n element comps tags gens. form_is schema m p.0 p.1 p.2 (type_tree c.in-Ok.ty) accepted (form_tree n) raw walked element comps) c.number_form.result c.number_form.ensures.element c.number_form.ensures.comps c.number_form.ensures.tags c.number_form.ensures.gens

pub returns-clause-of_type : goal.returns-clause-of_type
returns-clause-of_type c =
    let schema = c.args.schema.now in
    let m = term_tree c.args.term.now in
    let p = c.requires.proper in
    let raw = raw_comps c.as_slice.result.now in
    let accepted = rw c.in-Ok.is at c.check.ensures.ok in
    let walked = ap raw_comps c.as_slice.ensures ∙ c.in_ok-comps.ensures ∙ ap (λ (es : List RawBody). raw_comps_in (raw_form schema.tables m es)) bodies_top in
    if_all _ _ _ _ _ (λ n element comps tags gens. typed schema m p.0 p.1 p.2 (type_tree c.in-Ok.ty) accepted (form_tree n) raw walked element comps) c.number_form.result c.number_form.ensures.element c.number_form.ensures.comps c.number_form.ensures.tags c.number_form.ensures.gens

pub returns-clause-well_formed : goal.returns-clause-well_formed
returns-clause-well_formed c =
    let schema = c.args.schema.now in
    let m = term_tree c.args.term.now in
    let p = c.requires.proper in
    let raw = raw_comps c.as_slice.result.now in
    let accepted = rw c.in-Ok.is at c.check.ensures.ok in
    let walked = ap raw_comps c.as_slice.ensures ∙ c.in_ok-comps.ensures ∙ ap (λ (es : List RawBody). raw_comps_in (raw_form schema.tables m es)) bodies_top in
    if_all _ _ _ _ _ (λ n element comps tags gens. well_formed schema m p.0 p.1 p.2 (type_tree c.in-Ok.ty) accepted (form_tree n) raw walked element comps tags gens) c.number_form.result c.number_form.ensures.element c.number_form.ensures.comps c.number_form.ensures.tags c.number_form.ensures.gens

pub returns-clause-meaning : goal.returns-clause-meaning
returns-clause-meaning c =
    let schema = c.args.schema.now in
    let m = term_tree c.args.term.now in
    let p = c.requires.proper in
    let raw = raw_comps c.as_slice.result.now in
    let accepted = rw c.in-Ok.is at c.check.ensures.ok in
    let walked = ap raw_comps c.as_slice.ensures ∙ c.in_ok-comps.ensures ∙ ap (λ (es : List RawBody). raw_comps_in (raw_form schema.tables m es)) bodies_top in
    if_all _ _ _ _ _ (λ n element comps tags gens. means schema m p.0 p.1 p.2 (type_tree c.in-Ok.ty) accepted (form_tree n) raw walked element comps) c.number_form.result c.number_form.ensures.element c.number_form.ensures.comps c.number_form.ensures.tags c.number_form.ensures.gens

pub returns-clause-words : goal.returns-clause-words
returns-clause-words c =
    let schema = c.args.schema.now in
    let m = term_tree c.args.term.now in
    let p = c.requires.proper in
    let raw = raw_comps c.as_slice.result.now in
    let accepted = rw c.in-Ok.is at c.check.ensures.ok in
    let walked = ap raw_comps c.as_slice.ensures ∙ c.in_ok-comps.ensures ∙ ap (λ (es : List RawBody). raw_comps_in (raw_form schema.tables m es)) bodies_top in
    if_all _ _ _ _ _ (λ n element comps tags gens. words schema m p.0 p.1 p.2 (type_tree c.in-Ok.ty) accepted (form_tree n) raw walked element comps) c.number_form.result c.number_form.ensures.element c.number_form.ensures.comps c.number_form.ensures.tags c.number_form.ensures.gens
