use Rattle.std.proofs.Common.{◌+◌, ◌^◌, [], ap, ap₂, sym, ◌∙◌, map, List, ℕ}
use Rattle.nq_model.specs.Types.{TypeTree, type_tree}
use Rattle.nq_ir.specs.NormalForms.{element_type, gens_in_comps, tags_in_comps}
use Rattle.nq_ir.specs.Trees.{FormTree, comps_of as numbered_comps}
use Rattle.normalise.specs.Raw.{comp_part, raw_comps}
use Rattle.normalise.specs.Numbers.{comps_numbered}
use Rattle.normalise.proofs.NumberedBodies.{comps_are, comps_tags, comps_gens, form_made, numbers_top, fewer}
use Rattle.normalise.proofs.number_body.number_form.Goals as goal

pub returns-clause-comps : goal.returns-clause-comps
returns-clause-comps c =
    let cs = map comp_part c.args.comps.now in
    ap (λ (z : FormTree). z.comps) (form_made c.in_ok-element.element c.in_ok-parts.parts)
    ∙ ap numbered_comps (c.in_ok-parts.ensures.0 ∙ ap₂ (λ (sc : List ℕ) (a : TypeTree). comps_numbered 1 1 sc a cs) numbers_top c.element_of-element.ensures)
    ∙ sym (comps_are 1 1 [] (element_type (type_tree c.args.ty.now)) cs)

pub returns-clause-tags : goal.returns-clause-tags
returns-clause-tags c =
    fewer c.in_ok-parts.next.tag (tags_in_comps (raw_comps c.args.comps.now)) (2 ^ 63) (c.in_ok-parts.ensures.1 ∙ ap (λ z. 1 + z) (sym (comps_tags (map comp_part c.args.comps.now)))) c.in_ok-few.ensures

pub returns-clause-gens : goal.returns-clause-gens
returns-clause-gens c =
    fewer c.in_ok-parts.next.number (gens_in_comps (raw_comps c.args.comps.now)) (2 ^ 63) (c.in_ok-parts.ensures.2 ∙ ap (λ z. 1 + z) (sym (comps_gens (map comp_part c.args.comps.now)))) c.in_ok-few-2.ensures
