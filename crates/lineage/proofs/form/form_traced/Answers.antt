use Rattle.std.proofs.Common.{◌≡◌, ◌++◌, List, map, ap, ap₂, sym, ◌∙◌}
use Rattle.nq_ir.proofs.Forms.{form_is}
use Rattle.nq_ir.specs.Trees.{BodyTree, FormTree, CompPart, Comps, comps_of, comp_part}
use Rattle.nq_ir.specs.declared.normal.Comp.{Comp}
use Rattle.nq_ir.specs.declared.normal.Normal.{out-Normal}
use Rattle.nq_model.specs.Types.{TypeTree, type_tree}
use Rattle.lineage.proofs.Views.{comps_listed, form_made}
use Rattle.lineage.specs.Places.{lent, own_bodies, most_gens}
use Rattle.lineage.specs.TraceForms.{with_numbers, type_traced, part_traced, form_traced}
use Rattle.lineage.proofs.form.form_traced.Goals as goal

pub returns : goal.returns
returns c =
    let normal = c.args.normal.now in
    let of = type_tree (out-Normal normal).element in
    let parts = (out-Normal normal).parts in
    let cs : Comps = comps_of (map comp_part parts) in
    let all : lent c.push_bodies.new.inner.items ≡ own_bodies cs =
    c.in_ok-push_bodies.ensures
    ∙ ap (λ v. lent v ++ own_bodies (comps_of (map comp_part c.as_slice-comps.result.now)))
    c.new-inner.ensures.items
    ∙ ap (λ (ps : List Comp). own_bodies (comps_of (map comp_part ps))) c.as_slice-comps.ensures in
    let first : lent c.as_slice.result.now ≡ own_bodies cs = ap lent c.as_slice.ensures.value
    ∙ all in
    let again : lent c.as_slice-2.result.now ≡ own_bodies cs = ap lent c.as_slice-2.ensures.value
    ∙ all in
    let count : c.most_gens-count.result ≡ most_gens cs = c.most_gens-count.ensures
    ∙ ap (λ (ps : List Comp). most_gens (comps_of (map comp_part ps))) c.as_slice-comps.ensures in
    let element : type_tree c.in_ok-with_numbers.field-0
    ≡ with_numbers (most_gens cs) (type_traced (own_bodies cs) of) =
    c.in_ok-with_numbers.ensures ∙ ap₂ with_numbers count
    (c.in_ok-value.ensures ∙ ap (λ (h : List BodyTree). type_traced h of) first) in
    let listed : map comp_part c.in_ok-comps_traced.field-0
    ≡ map (part_traced (most_gens cs) (own_bodies cs)) (map comp_part parts) =
    c.in_ok-comps_traced.ensures
    ∙ ap₂ (λ n (h : List BodyTree). map (part_traced n h)
    (map comp_part c.as_slice-comps.result.now))
    count again
    ∙ ap (λ (ps : List Comp). map (part_traced (most_gens cs) (own_bodies cs)) (map comp_part ps))
    c.as_slice-comps.ensures in
    let whole : TypeTree → Comps → FormTree = λ y x. record { element = y; comps = x } in
    form_made c.in_ok-with_numbers.field-0 c.in_ok-comps_traced.field-0
    ∙ ap₂ (λ (y : TypeTree) (l : List CompPart). whole y (comps_of l)) element listed
    ∙ ap (whole (with_numbers (most_gens cs) (type_traced (own_bodies cs) of)))
    (sym (comps_listed (most_gens cs) (own_bodies cs) (map comp_part parts)))
    ∙ sym (ap form_traced (form_is normal))
