use Rattle.std.proofs.Common.{◌≡◌, refl, sym, ◌<◌, ◌++◌, List, ap, ◌∙◌, arith, length, map, subst}
use Rattle.nq_model.specs.Types.{type_tree}
use Rattle.nq_model.specs.declared.ty.Ty.{Ty}
use Rattle.nq_ir.specs.Parts.{element_types}
use Rattle.natural_keys.proofs.Repeats.{seen_at, seen_long, seen_more}
use Rattle.natural_keys.proofs.natural.NaturalKeys.new.Goals as goal

pub loop-at-preserved : goal.loop-at-preserved
loop-at-preserved c =
    let all = c.push_elements.new.all in
    let types : map type_tree all ≡ element_types (type_tree c.args.of.now)
    = c.in_ok-push_elements.ensures ∙ ap (λ (l : List Ty). map type_tree l
    ++ element_types (type_tree c.args.of.now)) c.new-elements.ensures in
    let long : length (map type_tree all) ≡ length all = seen_long type_tree all in
    let counted : length (map type_tree all) ≡ length (element_types (type_tree c.args.of.now))
    = ap length types in
    let here : c.loop-at.at < length all = omega (
      arith,
      c.loop-at-test.true,
      c.len-at-end.ensures,
    ) in
    let among : c.loop-at.at < length c.as_slice.result.now
    = subst (λ (l : List Ty). c.loop-at.at < length l) (sym c.as_slice.ensures) here in
    record {
      elements = seen_more (λ level. type_tree level.element) c.loop-at.levels c.push.new.self
          c.in_ok-level_of.field-0 (map type_tree all) c.loop-at.at _ _
          (omega (arith, here, long)) c.in_ok-level_of.ensures.element
          (seen_at type_tree all c.as_slice.result.now c.loop-at.at c.index-as_slice-at.result _
          c.as_slice.ensures c.index-as_slice-at.is among c.in_ok-element.ensures)
          c.in_ok-push.ensures.ok c.loop-at.invariant.elements;
      outers = seen_more (λ level. level.outer) c.loop-at.levels c.push.new.self
          c.in_ok-level_of.field-0 c.args.outers.now c.loop-at.at _ _
          (omega (arith, here, long, counted, c.requires.outers)) c.in_ok-level_of.ensures.outer
          refl c.in_ok-push.ensures.ok c.loop-at.invariant.outers;
      inners = seen_more (λ level. level.inner) c.loop-at.levels c.push.new.self
          c.in_ok-level_of.field-0 c.args.inners.now c.loop-at.at _ _
          (omega (arith, here, long, counted, c.requires.inners)) c.in_ok-level_of.ensures.inner
          refl c.in_ok-push.ensures.ok c.loop-at.invariant.inners;
    }
