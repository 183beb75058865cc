use Rattle.std.proofs.Common.{◌≡◌, ◌++◌, ℕ, List, map, ap, ap₂, sym, ◌∙◌, subst}
use Rattle.nq_ir.proofs.Forms.{form_is}
use Rattle.nq_ir.specs.Trees.{BodyTree, FormTree, Comps, comps_of, comp_part, form_tree}
use Rattle.nq_ir.specs.declared.normal.Comp.{Comp}
use Rattle.nq_model.specs.Meaning.{elements_in}
use Rattle.nq_model.specs.Values.{Nested, nested, bag_of, Same}
use Rattle.traced_meaning.specs.TracedForms.{traced_meaning}
use Rattle.lineage.proofs.Views.{traced_bag, elements_listed}
use Rattle.lineage.proofs.Whole.{forms_tell}
use Rattle.lineage.specs.Decoding.{decoded_element, form_decoded}
use Rattle.lineage.specs.ListedTables.{ByTag}
use Rattle.lineage.specs.Places.{lent, under, own_tags, own_bodies}
use Rattle.lineage.specs.TraceForms.{whole_label}
use Rattle.lineage.proofs.decoder.decode.Goals as goal

pub returns-clause-value : goal.returns-clause-value
returns-clause-value c =
    let form = c.args.form.now in
    let es = form.tables in
    let v = nested c.args.value.now in
    let cs : Comps = (form_tree form.normal).comps in
    let whole : comps_of (map comp_part c.as_slice-comps.result.now) ≡ cs =
    ap (λ (ps : List Comp). comps_of (map comp_part ps)) c.as_slice-comps.ensures
    ∙ sym (ap (λ (z : FormTree). z.comps) (form_is form.normal)) in
    let tags : c.push_tags.new.tags.items ≡ own_tags cs =
    c.in_ok-push_tags.ensures
    ∙ ap (λ (l : List ℕ). l ++ own_tags (comps_of (map comp_part c.as_slice-comps.result.now)))
    c.new-tags.ensures.items ∙ ap own_tags whole in
    let bodies : lent c.push_bodies.new.inner.items ≡ own_bodies cs =
    c.in_ok-push_bodies.ensures
    ∙ ap (λ l. lent l ++ own_bodies (comps_of (map comp_part c.as_slice-comps.result.now)))
    c.new-bodies.ensures.items ∙ ap own_bodies whole in
    let inner : lent c.as_slice-3.result.now ≡ under whole_label (own_bodies cs) =
    ap lent c.as_slice-3.ensures.value ∙ c.in_ok-inner.ensures
    ∙ ap (under whole_label) (ap lent c.as_slice.ensures.value ∙ bodies) in
    traced_bag c.in_ok-elements.elements
    ∙ ap bag_of (c.in_ok-elements.ensures
    ∙ ap (λ (x : ByTag). map
    (decoded_element x c.as_slice-2.result.now (lent c.as_slice-3.result.now))
    (map nested c.elements_in-elements.result.now)) c.as_slice-tables.ensures
    ∙ ap₂ (λ (x : List ℕ) (y : List BodyTree). map (decoded_element es x y)
    (map nested c.elements_in-elements.result.now)) (c.as_slice-2.ensures.value ∙ tags) inner
    ∙ ap (map (decoded_element es (own_tags cs) (under whole_label (own_bodies cs))))
    c.elements_in-elements.ensures)
    ∙ ap Nested.bag (sym (elements_listed es (own_tags cs) (under whole_label (own_bodies cs))
    (elements_in v)))

pub returns-clause-meaning : goal.returns-clause-meaning
returns-clause-meaning c schema of ts w normal tables s =
    let v = nested c.args.value.now in
    let is = returns-clause-value c
    ∙ ap₂ (λ (es : ByTag) (f : FormTree). form_decoded es f v) tables normal in
    subst (λ x. Same x (traced_meaning ts of)) (sym is) (forms_tell schema of w ts v s)
