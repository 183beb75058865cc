use Rattle.std.proofs.Common.{◌≡◌, ap, sym, ◌∙◌, refl, option_map, Some}
use Rattle.std.proofs.lemmas.Result.{IfOk-weaker}
use Rattle.nq_model.specs.Terms.{PlacedNode, at, placed, placed_fields}
use Rattle.nq_model.specs.Unfolding.{picked}
use Rattle.nq_model.specs.declared.term.Term.{roll-Term}
use Rattle.nq_model.specs.declared.term.Node.TheVariants.{Rec}
use Rattle.nq_model.proofs.Terms.{node_record}
use Rattle.unfold.proofs.Facts.{placed_as, got, picked_field, missing_field}
use Rattle.unfold.proofs.field.field_of_record.Goals as goal

pub returns-in-Some : goal.returns-in-Some
returns-in-Some c =
    let f = rw c.as_slice.ensures at c.in-Some.ensures in
    let g = got c.args.fields c.in-Some.at c.remove-taken.result c.remove-taken.result f.0 (rw c.into_vec-fields.ensures at c.remove-taken.ensures.value) in
    let p : picked c.args.label (placed_fields c.args.fields) ≡ Some (placed c.remove-taken.result.1) = f.1 ∙ ap (option_map (λ f. placed f.1)) g in
    picked_field c.args.place c.args.own c.args.label (placed_fields c.args.fields) (placed c.remove-taken.result.1) (at c.args.own (PlacedNode.rec (placed_fields c.args.fields))) refl p

pub returns-in-None : goal.returns-in-None
returns-in-None c =
    let new : placed (roll-Term (record { place = c.args.own; node = Rec c.args.fields })) ≡ at c.args.own (PlacedNode.rec (placed_fields c.args.fields)) = placed_as (roll-Term (record { place = c.args.own; node = Rec c.args.fields })) (node_record c.args.fields) in
    let m = missing_field c.args.place c.args.own c.args.label (placed_fields c.args.fields) (at c.args.own (PlacedNode.rec (placed_fields c.args.fields))) refl (rw c.as_slice.ensures at c.in-None.ensures) in
    IfOk-weaker c.of_field.result _ _ (λ b h. h ∙ ap (λ z. at c.args.place (PlacedNode.field z c.args.label)) new ∙ sym m) c.of_field.ensures
