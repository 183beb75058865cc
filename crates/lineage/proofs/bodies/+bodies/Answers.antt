use Rattle.std.proofs.Common.{◌≡◌, List, map, ap, ap₂, sym, ◌∙◌}
use Rattle.nq_ir.proofs.Forms.{body_rec, body_bag, form_is}
use Rattle.nq_ir.specs.Trees.{BodyTree, FormTree, CompPart, body_tree, bodies_of, comps_of}
use Rattle.nq_ir.specs.Trees.{comp_part}
use Rattle.nq_ir.specs.declared.normal.Body.{Body}
use Rattle.nq_ir.specs.declared.normal.Comp.{Comp}
use Rattle.nq_ir.specs.declared.normal.Normal.{roll-Normal, out-Normal}
use Rattle.nq_model.specs.NamedRows.{Label}
use Rattle.nq_model.specs.Types.{TypeTree, type_tree}
use Rattle.lineage.proofs.Views.{bodies_listed, comps_listed, form_made}
use Rattle.lineage.specs.Places.{lent, inside, under, width, bodies_view}
use Rattle.lineage.specs.TraceForms.{with_numbers, type_traced, body_traced, part_traced}
use Rattle.lineage.proofs.bodies.+bodies.Goals as goal

pub body_traced-returns-in_ok-bodies_traced-in-Rec : goal.body_traced-returns-in_ok-bodies_traced-in-Rec
body_traced-returns-in_ok-bodies_traced-in-Rec t c =
    let here = lent c.args.here.now in
    body_rec c.in_ok-bodies_traced-in-Rec.field-0
    ∙ ap (λ (fs : List (Label × BodyTree)). BodyTree.rec_body (bodies_of fs))
    (c.in_ok-bodies_traced-in-Rec.ensures ∙ ap (λ (fs : List (Label × Body)).
    map (λ f. (f.0, body_traced (under f.0 here) f.1)) (bodies_view fs)) c.as_slice.ensures)
    ∙ ap BodyTree.rec_body (sym (bodies_listed here (bodies_view c.in-Rec.fields)))
    ∙ sym (ap (body_traced here) (ap body_tree c.in-Rec.is ∙ body_rec c.in-Rec.fields))

pub body_traced-returns-in_ok-comps_traced-in-Bag : goal.body_traced-returns-in_ok-comps_traced-in-Bag
body_traced-returns-in_ok-comps_traced-in-Bag t c =
    let here = lent c.args.here.now in
    let bag = c.in-Bag.bag in
    let of = type_tree (out-Normal bag).element in
    let parts = (out-Normal bag).parts in
    let made = roll-Normal (record {
      element = c.in_ok-with_numbers-in-Bag.field-0;
      parts = c.in_ok-comps_traced-in-Bag.field-0;
    }) in
    let first : lent c.as_slice-in-Bag.result.now ≡ inside here =
    ap lent c.as_slice-in-Bag.ensures.value ∙ c.in_ok-inner-in-Bag.ensures in
    let again : lent c.as_slice-in-Bag-3.result.now ≡ inside here =
    ap lent c.as_slice-in-Bag-3.ensures.value ∙ c.in_ok-inner-in-Bag.ensures in
    let element : type_tree c.in_ok-with_numbers-in-Bag.field-0
    ≡ with_numbers (width here) (type_traced (inside here) of) =
    c.in_ok-with_numbers-in-Bag.ensures ∙ ap₂ with_numbers c.width-count.ensures
    (c.in_ok-value-in-Bag.ensures ∙ ap (λ (h : List BodyTree). type_traced h of) first) in
    let listed : map comp_part c.in_ok-comps_traced-in-Bag.field-0
    ≡ map (part_traced (width here) (inside here)) (map comp_part parts) =
    c.in_ok-comps_traced-in-Bag.ensures
    ∙ ap₂ (λ n (h : List BodyTree). map (part_traced n h)
    (map comp_part c.as_slice-in-Bag-2.result.now))
    c.width-count.ensures again
    ∙ ap (λ (ps : List Comp). map (part_traced (width here) (inside here)) (map comp_part ps))
    c.as_slice-in-Bag-2.ensures in
    body_bag made
    ∙ ap (λ (z : FormTree). BodyTree.bag_body z.element z.comps)
    (form_made c.in_ok-with_numbers-in-Bag.field-0 c.in_ok-comps_traced-in-Bag.field-0)
    ∙ ap₂ (λ (y : TypeTree) (l : List CompPart). BodyTree.bag_body y (comps_of l)) element listed
    ∙ ap (BodyTree.bag_body (with_numbers (width here) (type_traced (inside here) of)))
    (sym (comps_listed (width here) (inside here) (map comp_part parts)))
    ∙ ap (λ (z : FormTree). body_traced here (BodyTree.bag_body z.element z.comps))
    (sym (form_is bag))
    ∙ sym (ap (body_traced here) (ap body_tree c.in-Bag.is ∙ body_bag bag))
