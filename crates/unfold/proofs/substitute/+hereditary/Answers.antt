use Rattle.std.proofs.Common.{◌≡◌, ◌-◌, refl, reverse, sym, ap, ◌∙◌, subst as along, IfOk}
use Rattle.std.proofs.lemmas.Result.{IfOk-weaker}
use Rattle.nq_model.specs.Terms.{PlacedNode, at, placed, placed_node}
use Rattle.nq_model.proofs.Terms.{node_fun, node_choose, node_apply, node_binary, node_bind, node_empty, node_count, node_sum, node_field, node_for, node_guard, node_single, node_unary, node_union, node_var}
use Rattle.unfold.specs.Hereditary.{substitute, substitute_fields, apply_by, apply_at}
use Rattle.unfold.specs.Slots.{Puts}
use Rattle.unfold.proofs.Facts.{apply_more, record_made, same_branches, substitute_fields-of, turned, placed_as}
use Rattle.unfold.proofs.substitute.+hereditary.Goals as goal

pub apply_node-returns-in-Fun : goal.apply_node-returns-in-Fun
apply_node-returns-in-Fun t c =
    let old = placed_as c.args.func.term (ap placed_node c.in-Fun.is ∙ node_fun c.in-Fun._taken c.in-Fun.body) in
    let m = ap (λ z. apply_by (substitute (apply_at c.args.rank) 0) c.args.place z (placed c.args.arg.term)) old ∙ ap (λ z. substitute (apply_at c.args.rank) 0 (placed c.args.arg.term) (placed z)) (sym c.into_inner.ensures) in
    IfOk-weaker c.put_in.result _ (λ b. placed b.term ≡ apply_by (substitute (apply_at c.args.rank) 0) c.args.place (placed c.args.func.term) (placed c.args.arg.term)) (λ b h. h ∙ sym m) c.put_in.ensures

pub apply_two-returns : goal.apply_two-returns
apply_two-returns t c =
    along (λ z. IfOk c.apply_each.result (λ b. placed b.term ≡ at c.args.place (PlacedNode.choose (placed c.args.test.value) (apply_by (substitute (apply_at c.args.rank) 0) c.args.place (placed c.args.yes.value) z) (apply_by (substitute (apply_at c.args.rank) 0) c.args.place (placed c.args.no.value) (placed c.args.arg.term))))) c.in_ok-again.ensures c.apply_each.ensures

pub apply_each-returns : goal.apply_each-returns
apply_each-returns t c =
    let y : placed c.in_ok-yes.yes.term ≡ apply_by (substitute (apply_at c.args.rank) 0) c.args.place (placed c.args.yes.value) (placed c.args.again.term) = c.in_ok-yes.ensures ∙ ap (λ z. apply_by (substitute (apply_at c.args.rank) 0) c.args.place z (placed c.args.again.term)) c.opened-yes.ensures in
    let n : placed c.in_ok-no.no.term ≡ apply_by (substitute (apply_at c.args.rank) 0) c.args.place (placed c.args.no.value) (placed c.args.arg.term) = c.in_ok-no.ensures ∙ ap (λ z. apply_by (substitute (apply_at c.args.rank) 0) c.args.place z (placed c.args.arg.term)) c.opened-no.ensures in
    let w : at c.args.place (PlacedNode.choose (placed c.args.test.value) (placed c.in_ok-yes.yes.term) (placed c.in_ok-no.no.term)) ≡ at c.args.place (PlacedNode.choose (placed c.args.test.value) (apply_by (substitute (apply_at c.args.rank) 0) c.args.place (placed c.args.yes.value) (placed c.args.again.term)) (apply_by (substitute (apply_at c.args.rank) 0) c.args.place (placed c.args.no.value) (placed c.args.arg.term))) = same_branches c.args.place (placed c.args.test.value) (placed c.in_ok-yes.yes.term) (placed c.in_ok-no.no.term) (apply_by (substitute (apply_at c.args.rank) 0) c.args.place (placed c.args.yes.value) (placed c.args.again.term)) (apply_by (substitute (apply_at c.args.rank) 0) c.args.place (placed c.args.no.value) (placed c.args.arg.term)) y n in
    IfOk-weaker c.chosen.result (λ b. placed b.term ≡ at c.args.place (PlacedNode.choose (placed c.args.test.value) (placed c.in_ok-yes.yes.term) (placed c.in_ok-no.no.term))) (λ b. placed b.term ≡ at c.args.place (PlacedNode.choose (placed c.args.test.value) (apply_by (substitute (apply_at c.args.rank) 0) c.args.place (placed c.args.yes.value) (placed c.args.again.term)) (apply_by (substitute (apply_at c.args.rank) 0) c.args.place (placed c.args.no.value) (placed c.args.arg.term)))) (λ b h. h ∙ w) c.chosen.ensures

pub put_in-returns : goal.put_in-returns
put_in-returns t c =
    IfOk-weaker c.substitute.result _ (λ b. placed b.term ≡ substitute (apply_at c.args.rank) 0 (placed c.args.arg.term) (placed c.args.body)) (λ b h. (h (placed c.args.arg.term) refl).0) c.substitute.ensures

pub apply_node-returns-in-If : goal.apply_node-returns-in-If
apply_node-returns-in-If t c =
    let old = placed_as c.args.func.term (ap placed_node c.in-If.is ∙ node_choose c.in-If.test c.in-If.yes c.in-If.no) in
    let m = ap (λ z. apply_by (substitute (apply_at c.args.rank) 0) c.args.place z (placed c.args.arg.term)) old in
    IfOk-weaker c.apply_branches.result _ (λ b. placed b.term ≡ apply_by (substitute (apply_at c.args.rank) 0) c.args.place (placed c.args.func.term) (placed c.args.arg.term)) (λ b h. h ∙ sym m) c.apply_branches.ensures

pub substitute_node-returns-in_ok-fields-in-Rec : goal.substitute_node-returns-in_ok-fields-in-Rec
substitute_node-returns-in_ok-fields-in-Rec t c =
    IfOk-weaker c.with_fields.result _ _ (λ b h s i.
    let r = c.in_ok-fields-in-Rec.ensures s i in
    let w = record_made (substitute (apply_at c.args.rank) c.args.from s) (substitute_fields (apply_at c.args.rank) c.args.from s) (λ p fs. refl) (substitute_fields-of (apply_at c.args.rank) c.args.from s) c.args.term c.in-Rec.fields c.in_ok-fields-in-Rec.fields.term c.in-Rec.is r.0 in
    (h ∙ w, r.1)) c.with_fields.ensures

pub substitute_fields-returns : goal.substitute_fields-returns
substitute_fields-returns t c = λ s h.
    let i = c.loop-last.invariant s h in
    let b : c.from_vec.result ≡ reverse c.loop-last.all = c.from_vec.ensures ∙ c.reverse.ensures.items ∙ ap reverse c.into_vec-turned.ensures in
    (turned (λ f. (f.0, placed f.1)) (λ f. (f.0, placed f.1)) (λ f. (f.0, substitute (apply_at c.args.rank) c.args.from s f.1)) c.loop-last.all c.from_vec.result c.loop-last.rest c.args.fields (c.in_default.ensures.0) b i.0, i.1)

pub apply-returns-else-rank-eq0 : goal.apply-returns-else-rank-eq0
apply-returns-else-rank-eq0 t c =
    let m = sym (apply_more c.args.rank c.args.place (placed c.args.func.term) (placed c.args.arg.term) c.if-rank-eq0.false) in
    IfOk-weaker c.apply_above.result (λ b. placed b.term ≡ apply_by (substitute (apply_at (c.args.rank - 1)) 0) c.args.place (placed c.args.func.term) (placed c.args.arg.term)) (λ b. placed b.term ≡ apply_at c.args.rank c.args.place (placed c.args.func.term) (placed c.args.arg.term)) (λ b h. h ∙ m) c.apply_above.ensures

pub substitute_node-returns-in-Var : goal.substitute_node-returns-in-Var
substitute_node-returns-in-Var t c =
    along (λ z. IfOk c.put.result (λ b. Puts c.args.by.now c.put.new.slot (λ s. placed b.term ≡ substitute (apply_at c.args.rank) c.args.from s z))) (sym (placed_as c.args.term (ap placed_node c.in-Var.is ∙ node_var c.in-Var.k))) c.put.ensures

pub substitute_node-returns-in-Unary : goal.substitute_node-returns-in-Unary
substitute_node-returns-in-Unary t c =
    along (λ z. IfOk c.substitute_one.result (λ b. Puts c.args.by.now c.substitute_one.new.by (λ s. placed b.term ≡ substitute (apply_at c.args.rank) c.args.from s z))) (sym (placed_as c.args.term (ap placed_node c.in-Unary.is ∙ node_unary c.in-Unary.op c.in-Unary.of))) c.substitute_one.ensures

pub substitute_node-returns-in-Binary : goal.substitute_node-returns-in-Binary
substitute_node-returns-in-Binary t c =
    along (λ z. IfOk c.substitute_two.result (λ b. Puts c.args.by.now c.substitute_two.new.by (λ s. placed b.term ≡ substitute (apply_at c.args.rank) c.args.from s z))) (sym (placed_as c.args.term (ap placed_node c.in-Binary.is ∙ node_binary c.in-Binary.op c.in-Binary.left c.in-Binary.right))) c.substitute_two.ensures

pub substitute_node-returns-in-If : goal.substitute_node-returns-in-If
substitute_node-returns-in-If t c =
    along (λ z. IfOk c.substitute_choice.result (λ b. Puts c.args.by.now c.substitute_choice.new.by (λ s. placed b.term ≡ substitute (apply_at c.args.rank) c.args.from s z))) (sym (placed_as c.args.term (ap placed_node c.in-If.is ∙ node_choose c.in-If.test c.in-If.yes c.in-If.no))) c.substitute_choice.ensures

pub substitute_node-returns-in-Fun : goal.substitute_node-returns-in-Fun
substitute_node-returns-in-Fun t c =
    along (λ z. IfOk c.substitute_function.result (λ b. Puts c.args.by.now c.substitute_function.new.by (λ s. placed b.term ≡ substitute (apply_at c.args.rank) c.args.from s z))) (sym (placed_as c.args.term (ap placed_node c.in-Fun.is ∙ node_fun c.in-Fun.taken c.in-Fun.body))) c.substitute_function.ensures

pub substitute_node-returns-in-Apply : goal.substitute_node-returns-in-Apply
substitute_node-returns-in-Apply t c =
    along (λ z. IfOk c.substitute_apply.result (λ b. Puts c.args.by.now c.substitute_apply.new.by (λ s. placed b.term ≡ substitute (apply_at c.args.rank) c.args.from s z))) (sym (placed_as c.args.term (ap placed_node c.in-Apply.is ∙ node_apply c.in-Apply.func c.in-Apply.arg))) c.substitute_apply.ensures

pub substitute_node-returns-in-Field : goal.substitute_node-returns-in-Field
substitute_node-returns-in-Field t c =
    along (λ z. IfOk c.substitute_field.result (λ b. Puts c.args.by.now c.substitute_field.new.by (λ s. placed b.term ≡ substitute (apply_at c.args.rank) c.args.from s z))) (sym (placed_as c.args.term (ap placed_node c.in-Field.is ∙ node_field c.in-Field.of c.in-Field.label))) c.substitute_field.ensures

pub substitute_node-returns-in-Empty : goal.substitute_node-returns-in-Empty
substitute_node-returns-in-Empty t c =
    along (λ z. IfOk c.substitute_one-in-Empty.result (λ b. Puts c.args.by.now c.substitute_one-in-Empty.new.by (λ s. placed b.term ≡ substitute (apply_at c.args.rank) c.args.from s z))) (sym (placed_as c.args.term (ap placed_node c.in-Empty.is ∙ node_empty c.in-Empty.of))) c.substitute_one-in-Empty.ensures

pub substitute_node-returns-in-Count : goal.substitute_node-returns-in-Count
substitute_node-returns-in-Count t c =
    along (λ z. IfOk c.substitute_one-in-Count.result (λ b. Puts c.args.by.now c.substitute_one-in-Count.new.by (λ s. placed b.term ≡ substitute (apply_at c.args.rank) c.args.from s z))) (sym (placed_as c.args.term (ap placed_node c.in-Count.is ∙ node_count c.in-Count.of))) c.substitute_one-in-Count.ensures

pub substitute_node-returns-in-Sum : goal.substitute_node-returns-in-Sum
substitute_node-returns-in-Sum t c =
    along (λ z. IfOk c.substitute_one-in-Sum.result (λ b. Puts c.args.by.now c.substitute_one-in-Sum.new.by (λ s. placed b.term ≡ substitute (apply_at c.args.rank) c.args.from s z))) (sym (placed_as c.args.term (ap placed_node c.in-Sum.is ∙ node_sum c.in-Sum.of))) c.substitute_one-in-Sum.ensures

pub substitute_node-returns-in-Single : goal.substitute_node-returns-in-Single
substitute_node-returns-in-Single t c =
    along (λ z. IfOk c.substitute_one-in-Single.result (λ b. Puts c.args.by.now c.substitute_one-in-Single.new.by (λ s. placed b.term ≡ substitute (apply_at c.args.rank) c.args.from s z))) (sym (placed_as c.args.term (ap placed_node c.in-Single.is ∙ node_single c.in-Single.of))) c.substitute_one-in-Single.ensures

pub substitute_node-returns-in-Union : goal.substitute_node-returns-in-Union
substitute_node-returns-in-Union t c =
    along (λ z. IfOk c.substitute_two-in-Union.result (λ b. Puts c.args.by.now c.substitute_two-in-Union.new.by (λ s. placed b.term ≡ substitute (apply_at c.args.rank) c.args.from s z))) (sym (placed_as c.args.term (ap placed_node c.in-Union.is ∙ node_union c.in-Union.left c.in-Union.right))) c.substitute_two-in-Union.ensures

pub substitute_node-returns-in-For : goal.substitute_node-returns-in-For
substitute_node-returns-in-For t c =
    along (λ z. IfOk c.substitute_two-in-For.result (λ b. Puts c.args.by.now c.substitute_two-in-For.new.by (λ s. placed b.term ≡ substitute (apply_at c.args.rank) c.args.from s z))) (sym (placed_as c.args.term (ap placed_node c.in-For.is ∙ node_for c.in-For.source c.in-For.body))) c.substitute_two-in-For.ensures

pub substitute_node-returns-in-Guard : goal.substitute_node-returns-in-Guard
substitute_node-returns-in-Guard t c =
    along (λ z. IfOk c.substitute_two-in-Guard.result (λ b. Puts c.args.by.now c.substitute_two-in-Guard.new.by (λ s. placed b.term ≡ substitute (apply_at c.args.rank) c.args.from s z))) (sym (placed_as c.args.term (ap placed_node c.in-Guard.is ∙ node_guard c.in-Guard.test c.in-Guard.body))) c.substitute_two-in-Guard.ensures

pub substitute_node-returns-in-Bind : goal.substitute_node-returns-in-Bind
substitute_node-returns-in-Bind t c =
    along (λ z. IfOk c.substitute_two-in-Bind.result (λ b. Puts c.args.by.now c.substitute_two-in-Bind.new.by (λ s. placed b.term ≡ substitute (apply_at c.args.rank) c.args.from s z))) (sym (placed_as c.args.term (ap placed_node c.in-Bind.is ∙ node_bind c.in-Bind.value c.in-Bind.body))) c.substitute_two-in-Bind.ensures
