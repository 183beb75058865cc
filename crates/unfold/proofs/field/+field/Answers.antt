use Rattle.std.proofs.Common.{◌≡◌, ap, sym, ◌∙◌, subst as along, IfOk}
use Rattle.std.proofs.lemmas.Result.{IfOk-weaker}
use Rattle.nq_model.specs.Terms.{placed, placed_node}
use Rattle.nq_model.proofs.Terms.{node_record, node_choose}
use Rattle.unfold.specs.Hereditary.{field_by}
use Rattle.unfold.proofs.Facts.{placed_as, same_branches}
use Rattle.unfold.proofs.field.+field.Goals as goal

pub field_of_node-returns-in-Rec : goal.field_of_node-returns-in-Rec
field_of_node-returns-in-Rec t c =
    along (λ z. IfOk c.field_of_record.result (λ b. placed b.term ≡ field_by c.args.place c.args.label z)) (sym (placed_as c.args.of.term (ap placed_node c.in-Rec.is ∙ node_record c.in-Rec.fields))) c.field_of_record.ensures

pub field_of_node-returns-in-If : goal.field_of_node-returns-in-If
field_of_node-returns-in-If t c =
    along (λ z. IfOk c.field_of_choice.result (λ b. placed b.term ≡ field_by c.args.place c.args.label z)) (sym (placed_as c.args.of.term (ap placed_node c.in-If.is ∙ node_choose c.in-If.test c.in-If.yes c.in-If.no))) c.field_of_choice.ensures

pub field_of_choice-returns : goal.field_of_choice-returns
field_of_choice-returns t c =
    let y : placed c.in_ok-yes.yes.term ≡ field_by c.args.place c.args.label (placed c.args.yes.value) = c.in_ok-yes.ensures ∙ ap (λ z. field_by c.args.place z (placed c.opened-yes.result.term)) c.in_ok-again.ensures ∙ ap (field_by c.args.place c.args.label) c.opened-yes.ensures in
    let n : placed c.in_ok-no.no.term ≡ field_by c.args.place c.args.label (placed c.args.no.value) = c.in_ok-no.ensures ∙ ap (field_by c.args.place c.args.label) c.opened-no.ensures in
    IfOk-weaker c.chosen.result _ _ (λ b h. h ∙ same_branches c.args.place (placed c.args.test.value) (placed c.in_ok-yes.yes.term) (placed c.in_ok-no.no.term) (field_by c.args.place c.args.label (placed c.args.yes.value)) (field_by c.args.place c.args.label (placed c.args.no.value)) y n) c.chosen.ensures
