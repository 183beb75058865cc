use Rattle.std.proofs.Common.{rules, refl, ◌≡◌, ◌+◌, ◌<◌, ◌++◌, [], ◌∷◌, arith, drop, ap, ap₂, sym, ◌∙◌, map, length, List, ℕ}
use Rattle.nq_model.specs.NamedRows.{Label}
use Rattle.nq_model.specs.Types.{type_tree, field_types_of, fields_view as types_view}
use Rattle.std.proofs.lemmas.List.{map-append}
use Rattle.std.proofs.lemmas.Result.{IfOk-weaker}
use Rattle.nq_ir.specs.NormalForms.{element_type, field_types, number_gens, number_body, gens_in_body, tags_in_body}
use Rattle.nq_ir.specs.Trees.{BodyTree, FormTree, body_tree, bodies_of, comps_of as numbered_comps}
use Rattle.nq_ir.specs.declared.normal.Body.{Body}
use Rattle.nq_ir.specs.declared.normal.Normal.{roll-Normal}
use Rattle.nq_ir.proofs.Forms.{body_plain as numbered_plain, body_rec as numbered_rec, body_bag as numbered_bag}
use Rattle.normalise.specs.Raw.{comp_part, fields_view, moved_base, moved_body, raw_body}
use Rattle.normalise.specs.Numbers.{numbers, without, bases_numbered, gens_in_bases, comps_numbered, fields_numbered, tags_in_list, gens_in_list, tags_in_parts, gens_in_comps}
use Rattle.normalise.specs.declared.raw.MovedBase.{MovedBase}
use Rattle.normalise.specs.declared.raw.MovedBody.{MovedBody}
use Rattle.normalise.specs.declared.raw.RawBody.{RawBody as CodeBody}
use Rattle.normalise.specs.declared.raw.RawComp.{RawComp as CodeComp}
use Rattle.normalise.proofs.Views.{body_plain, body_rec, body_bag}
use Rattle.normalise.proofs.Numbering.{numbers_dealt}
use Rattle.normalise.proofs.NumberedBodies.{body_has_gens, body_has_tags, body_made, fields_are, fields_tags, fields_gens, comps_are, comps_tags, comps_gens, comp_made, comp_has_tags, comp_has_gens, form_made, fields_step, counts_step}
use Rattle.normalise.proofs.number_body.+number_body.Goals as goal

pub number_body-returns-in_ok-base-in-Plain : goal.number_body-returns-in_ok-base-in-Plain
number_body-returns-in_ok-base-in-Plain t c =
    let sc = numbers c.args.scope.now in
    let tag = c.args.next.tag in
    let n = c.args.next.number in
    let h = c.in_ok-base-in-Plain.ensures in
    let old = ap raw_body c.in-Plain.is ∙ body_plain c.in-Plain.base in
    let same : tag ≡ tag + 0 = omega arith in (
      numbered_plain c.in_ok-base-in-Plain.base ∙ ap BodyTree.plain_body h.0 ∙ ap (number_body tag n sc (type_tree c.args.ty.now)) (sym old),
      same ∙ ap (λ z. tag + tags_in_body z) (sym old),
      h.1 ∙ ap (λ z. n + gens_in_body z) (sym old),
    )

pub number_body-returns-in_ok-fields-in-Rec : goal.number_body-returns-in_ok-fields-in-Rec
number_body-returns-in_ok-fields-in-Rec t c =
    let sc = numbers c.args.scope.now in
    let tag = c.args.next.tag in
    let n = c.args.next.number in
    let fs = c.in-Rec.fields in
    let h = c.in_ok-fields-in-Rec.ensures in
    let s = c.as_slice.ensures in
    let ty = c.fields_in-types.ensures in
    let old = ap raw_body c.in-Rec.is ∙ body_rec fs in (
      numbered_rec c.in_ok-fields-in-Rec.fields
          ∙ ap (λ l. BodyTree.rec_body (bodies_of l)) (h.0 ∙ ap₂ (λ gs (z : List (Label × MovedBody)). fields_numbered tag n sc gs (fields_view z)) ty s)
          ∙ ap BodyTree.rec_body (sym (fields_are tag n sc (field_types (type_tree c.args.ty.now)) (fields_view fs)))
          ∙ ap (number_body tag n sc (type_tree c.args.ty.now)) (sym old),
      h.1 ∙ ap (λ (z : List (Label × MovedBody)). tag + tags_in_list (fields_view z)) s ∙ ap (λ z. tag + z) (sym (fields_tags (fields_view fs))) ∙ ap (λ z. tag + tags_in_body z) (sym old),
      h.2 ∙ ap (λ (z : List (Label × MovedBody)). n + gens_in_list (fields_view z)) s ∙ ap (λ z. n + z) (sym (fields_gens (fields_view fs))) ∙ ap (λ z. n + gens_in_body z) (sym old),
    )

pub number_body-returns-in_ok-element-in-Bag : goal.number_body-returns-in_ok-element-in-Bag
number_body-returns-in_ok-element-in-Bag t c =
    let sc = numbers c.args.scope.now in
    let tag = c.args.next.tag in
    let n = c.args.next.number in
    let cs = c.in-Bag.comps in
    let h = c.in_ok-parts-in-Bag.ensures in
    let s = c.as_slice-in-Bag.ensures in
    let a = element_type (type_tree c.args.ty.now) in
    let same : type_tree c.element_of-element.result.now ≡ a = c.element_of-element.ensures in
    let form = roll-Normal (record { element = c.in_ok-element-in-Bag.element; parts = c.in_ok-parts-in-Bag.parts }) in
    let old = ap raw_body c.in-Bag.is ∙ body_bag cs in (
      numbered_bag form ∙ ap (λ (z : FormTree). BodyTree.bag_body z.element z.comps) (form_made c.in_ok-element-in-Bag.element c.in_ok-parts-in-Bag.parts)
          ∙ ap₂ (λ y l. BodyTree.bag_body y (numbered_comps l)) (c.in_ok-element-in-Bag.ensures ∙ same) (h.0 ∙ ap₂ (λ y (z : List CodeComp). comps_numbered tag n sc y (map comp_part z)) same s)
          ∙ ap (BodyTree.bag_body a) (sym (comps_are tag n sc a (map comp_part cs)))
          ∙ ap (number_body tag n sc (type_tree c.args.ty.now)) (sym old),
      h.1 ∙ ap (λ (z : List CodeComp). tag + tags_in_parts (map comp_part z)) s ∙ ap (λ z. tag + z) (sym (comps_tags (map comp_part cs))) ∙ ap (λ z. tag + tags_in_body z) (sym old),
      h.2 ∙ ap (λ (z : List CodeComp). n + gens_in_comps (map comp_part z)) s ∙ ap (λ z. n + z) (sym (comps_gens (map comp_part cs))) ∙ ap (λ z. n + gens_in_body z) (sym old),
    )

pub number_moved_body-returns : goal.number_moved_body-returns
number_moved_body-returns t c =
    let m = c.args.moved.now in
    let sc = numbers c.args.scope.now in
    let tag = c.args.next.tag in
    let n = c.args.next.number in
    let a = type_tree c.args.ty.now in
    let within : numbers c.without-inner.result ≡ without m.more m.from sc = c.without-inner.ensures in
    let same = c.deref.ensures in
    IfOk-weaker c.number_body.result _ _
    (λ r h. (
      h.0 ∙ ap₂ (λ (z : List ℕ) (b : CodeBody). number_body tag n z a (raw_body b)) within same ∙ body_made m tag n sc a,
      h.1 ∙ ap (λ (b : CodeBody). tag + tags_in_body (raw_body b)) same ∙ ap (λ z. tag + z) (body_has_tags m),
      h.2 ∙ ap (λ (b : CodeBody). n + gens_in_body (raw_body b)) same ∙ ap (λ z. n + z) (body_has_gens m),
    ))
    c.number_body.ensures

pub number_comp-returns : goal.number_comp-returns
number_comp-returns t c =
    let sc = numbers c.args.scope.now in
    let tag = c.args.next.tag in
    let n = c.args.next.number in
    let count = c.len-count.result in
    let m = c.in_ok-start.start in
    let x = c.args.comp.now in
    let a : count ≡ length x.tables = search rules in
    let b : m ≡ n + count = search rules in
    let r : c.in_ok-plus.field-0 ≡ tag + 1 = search rules in
    let g = c.in_ok-gens.ensures ∙ ap (number_gens n) c.as_slice.ensures in
    let h = c.in_ok-conds.ensures in
    let s = c.as_slice-2.ensures in
    let i = numbers_dealt n count c.args.scope in
    let e = c.in_ok-body.ensures in
    let k = h.1 ∙ ap (λ (y : List MovedBase). m + gens_in_bases (map moved_base y)) s in (
      comp_made tag n count m c.in_ok-plus.field-0 c.in_ok-conds.number sc (type_tree c.args.element.now) x c.in_ok-gens.gens c.in_ok-conds.conds c.in_ok-body.body a b r g
          (h.0 ∙ ap₂ (λ (z : List ℕ) (y : List MovedBase). bases_numbered m z (map moved_base y)) i s) k
          (e.0 ∙ ap (λ (z : List ℕ). number_body c.in_ok-plus.field-0 c.in_ok-conds.number z (type_tree c.args.element.now) (moved_body x.body)) i),
      comp_has_tags tag c.in_ok-plus.field-0 c.in_ok-body.after.tag x r e.1,
      comp_has_gens n count m c.in_ok-conds.number c.in_ok-body.after.number x a b k e.2,
    )

pub number_fields-loop-at-preserved : goal.number_fields-loop-at-preserved
number_fields-loop-at-preserved t c =
    let sc = numbers c.args.scope.now in
    let next = c.loop-at.next in
    let after = c.in_ok-body.after in
    let fields = c.args.fields.now in
    let at = c.loop-at.at in
    let x = c.index-fields-at.result in
    let e = c.in_ok-body.ensures in
    let w = c.loop-at.invariant in
    let view : Label × Body → Label × BodyTree = λ f. (f.0, body_tree f.1) in
    let done = map view c.loop-at.numbered in
    let one : Label × BodyTree = (x.0, body_tree c.in_ok-body.body) in
    let l : at < length fields = omega (arith, c.loop-at-test.true) in
    let pushed : map view c.push.new.self ≡ done ++ one ∷ [] = ap (map view) c.in_ok-push.ensures.ok ∙ map-append view c.loop-at.numbered ((c.in_ok-label.label, c.in_ok-body.body) ∷ []) ∙ ap (λ (z : Label). done ++ (z, body_tree c.in_ok-body.body) ∷ []) c.in_ok-label.ensures in
    let later = fields_numbered after.tag after.number sc (field_types_of (types_view (drop (at + 1) c.args.types.now))) (fields_view (drop (at + 1) fields)) in (
      fields_step next.tag next.number after.tag after.number sc c.args.types.now at fields x (body_tree c.in_ok-body.body) _ done c.index-fields-at.is l e.0 e.1 e.2 w.0 ∙ ap (λ (z : List (Label × BodyTree)). z ++ later) (sym pushed),
      counts_step (λ f. tags_in_body (moved_body f.1)) (λ z. tags_in_list (fields_view z)) (λ y ys. refl) next.tag after.tag at _ fields x c.index-fields-at.is l e.1 w.1,
      counts_step (λ f. gens_in_body (moved_body f.1)) (λ z. gens_in_list (fields_view z)) (λ y ys. refl) next.number after.number at _ fields x c.index-fields-at.is l e.2 w.2,
    )
