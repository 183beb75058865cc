use Rattle.std.proofs.Common.{◌≡◌, ◌+◌, ◌∷◌, option_map, Some, refl, reverse, sym, ap, ◌∙◌, subst as along, IfOk}
use Rattle.std.proofs.lemmas.Result.{IfOk-weaker}
use Rattle.nq_model.specs.Terms.{PlacedNode, at, placed, placed_node, placed_fields}
use Rattle.nq_model.specs.Unfolding.{picked}
use Rattle.nq_model.specs.declared.term.Term.{roll-Term}
use Rattle.nq_model.specs.declared.term.Node.TheVariants.{Rec}
use Rattle.nq_model.proofs.Terms.{placed_term, node_fun, node_apply, node_record, node_binary, node_bind, node_choose, node_empty, node_count, node_sum, node_field, node_for, node_guard, node_single, node_unary, node_union, node_var}
use Rattle.unfold.specs.Hereditary.{apply_at, field_by}
use Rattle.unfold.specs.Environments.{stays, given, walk_in, walk_each, taken_by}
use Rattle.unfold.specs.Scopes.{Keeps}
use Rattle.unfold.proofs.Facts.{got, record_made, turned, walk_each-of, taken_is, walked_field, placed_as}
use Rattle.unfold.proofs.walk.+walk.Goals as goal

pub walk_node-returns-in_ok-fields-in-Rec : goal.walk_node-returns-in_ok-fields-in-Rec
walk_node-returns-in_ok-fields-in-Rec t c =
    IfOk-weaker c.with_fields.result _ _ (λ b h es i.
    let r = c.in_ok-fields-in-Rec.ensures es i in
    let w = record_made (walk_in c.args.rank c.args.level es) (walk_each c.args.rank c.args.level es) (λ p fs. refl) (walk_each-of c.args.rank c.args.level es) c.args.term c.in-Rec.fields c.in_ok-fields-in-Rec.fields.term c.in-Rec.is r.0 in
    (h ∙ w, r.1)) c.with_fields.ensures

pub walk_node-returns-in-Apply : goal.walk_node-returns-in-Apply
walk_node-returns-in-Apply t c =
    let old = placed_as c.args.term (ap placed_node c.in-Apply.is ∙ node_apply c.in-Apply.func c.in-Apply.arg) in
    IfOk-weaker c.walk_apply.result (λ b. Keeps c.args.scope.now c.walk_apply.new.scope (λ es. placed b.term ≡ taken_by (λ z. walk_in c.args.rank c.args.level (given c.args.level (walk_in c.args.rank c.args.level es (placed c.in-Apply.arg.value)) ∷ es) z) (apply_at c.args.rank c.args.term.place (walk_in c.args.rank c.args.level es (placed c.in-Apply.func.value)) (walk_in c.args.rank c.args.level es (placed c.in-Apply.arg.value))) (placed c.in-Apply.func.value))) (λ b. Keeps c.args.scope.now c.walk_apply.new.scope (λ es. placed b.term ≡ walk_in c.args.rank c.args.level es (placed c.args.term))) (λ b h es i.
    let r = h es i in
    (r.0 ∙ taken_is c.args.rank c.args.level es c.args.term.place (placed c.in-Apply.func.value) (placed c.in-Apply.arg.value) ∙ sym (ap (walk_in c.args.rank c.args.level es) old), r.1)) c.walk_apply.ensures

pub walk_fields-returns : goal.walk_fields-returns
walk_fields-returns t c = λ es h.
    let i = c.loop-last.invariant es h in
    let b : c.from_vec.result ≡ reverse c.loop-last.all = c.from_vec.ensures ∙ c.reverse.ensures.items ∙ ap reverse c.into_vec-turned.ensures in
    (turned (λ f. (f.0, placed f.1)) (λ f. (f.0, placed f.1)) (λ f. (f.0, walk_in c.args.rank c.args.level es f.1)) c.loop-last.all c.from_vec.result c.loop-last.rest c.args.fields (c.in_default.ensures.0) b i.0, i.1)

pub walk_apply-returns-in-Fun : goal.walk_apply-returns-in-Fun
walk_apply-returns-in-Fun t c =
    let old = ap placed (sym c.into_inner-own.ensures) ∙ placed_term c.into_inner-own.result ∙ ap (at c.into_inner-own.result.place) (ap placed_node c.in-Fun.is ∙ node_fun c.in-Fun._taken c.in-Fun.body) in
    IfOk-weaker c.walk_given.result _ (λ b. Keeps c.args.scope.now c.walk_given.new.scope (λ es. placed b.term ≡ taken_by (λ z. walk_in c.args.rank c.args.level (given c.args.level (walk_in c.args.rank c.args.level es (placed c.args.arg.value)) ∷ es) z) (apply_at c.args.rank c.args.place (walk_in c.args.rank c.args.level es (placed c.args.func.value)) (walk_in c.args.rank c.args.level es (placed c.args.arg.value))) (placed c.args.func.value))) (λ b h es i.
    let r = h es i in
    (r.0 ∙ sym (ap (taken_by (λ z. walk_in c.args.rank c.args.level (given c.args.level (walk_in c.args.rank c.args.level es (placed c.args.arg.value)) ∷ es) z) (apply_at c.args.rank c.args.place (walk_in c.args.rank c.args.level es (placed c.args.func.value)) (walk_in c.args.rank c.args.level es (placed c.args.arg.value)))) old), r.1)) c.walk_given.ensures

pub walk_field-returns-in-Rec : goal.walk_field-returns-in-Rec
walk_field-returns-in-Rec t c =
    let old = ap placed (sym c.into_inner-own.ensures) ∙ placed_term c.into_inner-own.result ∙ ap (at c.into_inner-own.result.place) (ap placed_node c.in-Rec.is ∙ node_record c.in-Rec.fields) in
    IfOk-weaker c.walk_picked.result _ (λ b. Keeps c.args.scope.now c.walk_picked.new.scope (λ es. placed b.term ≡ field_by c.args.place c.args.label (walk_in c.args.rank c.args.level es (placed c.args.of.value)))) (λ b h es i.
    let r = h es i in
    (r.0 ∙ sym (ap (λ z. field_by c.args.place c.args.label (walk_in c.args.rank c.args.level es z)) old), r.1)) c.walk_picked.ensures

pub walk_given-returns : goal.walk_given-returns
walk_given-returns t c = λ es h.
    let v = walk_in c.args.rank c.args.level es (placed c.args.value.value) in
    let a = c.in_ok-slot.ensures es h in
    let b = c.in_ok-enter.ensures es (given c.args.level v) a.1 (refl, a.0) in
    let d = c.in_ok-done.ensures (given c.args.level v ∷ es) b in
    (d.0 ∙ ap (λ z. walk_in c.args.rank c.args.level (given c.args.level v ∷ es) (placed z)) c.into_inner.ensures, c.leave.ensures es (given c.args.level v) d.1)

pub walk_picked-returns-in-Some : goal.walk_picked-returns-in-Some
walk_picked-returns-in-Some t c =
    let f = rw c.as_slice.ensures at c.in-Some.ensures in
    let g = got c.args.fields c.in-Some.at c.remove-taken.result c.remove-taken.result f.0 (rw c.into_vec-fields.ensures at c.remove-taken.ensures.value) in
    let p : picked c.args.label (placed_fields c.args.fields) ≡ Some (placed c.remove-taken.result.1) = f.1 ∙ ap (option_map (λ f. placed f.1)) g in
    IfOk-weaker c.walk.result _ (λ b. Keeps c.args.scope.now c.walk.new.scope (λ es. placed b.term ≡ field_by c.args.place c.args.label (at c.args.own (PlacedNode.rec (walk_each c.args.rank c.args.level es (placed_fields c.args.fields)))))) (λ b h es i.
    let r = h es i in
    (r.0 ∙ walked_field c.args.rank c.args.level es c.args.place c.args.own c.args.label (placed_fields c.args.fields) (placed c.remove-taken.result.1) p, r.1)) c.walk.ensures

pub walk_picked-returns-in-None : goal.walk_picked-returns-in-None
walk_picked-returns-in-None t c =
    let new : placed (roll-Term (record { place = c.args.own; node = Rec c.args.fields })) ≡ at c.args.own (PlacedNode.rec (placed_fields c.args.fields)) = placed_term (roll-Term (record { place = c.args.own; node = Rec c.args.fields })) ∙ ap (at c.args.own) (node_record c.args.fields) in
    IfOk-weaker c.walk_whole.result _ (λ b. Keeps c.args.scope.now c.walk_whole.new.scope (λ es. placed b.term ≡ field_by c.args.place c.args.label (at c.args.own (PlacedNode.rec (walk_each c.args.rank c.args.level es (placed_fields c.args.fields)))))) (λ b h es i.
    let r = h es i in
    (r.0 ∙ ap (λ z. field_by c.args.place c.args.label (walk_in c.args.rank c.args.level es z)) new, r.1)) c.walk_whole.ensures

pub walk_under-returns : goal.walk_under-returns
walk_under-returns t c = λ es h.
    let b = c.in_ok-enter.ensures es (stays c.args.level) h refl in
    let d = c.in_ok-done.ensures (stays c.args.level ∷ es) b in
    let e = ap (λ n. walk_in c.args.rank n (stays c.args.level ∷ es) (placed c.into_inner.result)) c.in_ok-inner.ensures ∙ ap (λ z. walk_in c.args.rank (c.args.level + 1) (stays c.args.level ∷ es) (placed z)) c.into_inner.ensures in
    (ap placed c.in_ok-term.ensures ∙ d.0 ∙ e, c.leave.ensures es (stays c.args.level) d.1)

pub walk_node-returns-in-Var : goal.walk_node-returns-in-Var
walk_node-returns-in-Var t c =
    along (λ z. IfOk c.look_up.result (λ b. Keeps c.args.scope.now c.look_up.new.self (λ es. placed b.term ≡ walk_in c.args.rank c.args.level es z))) (sym (placed_as c.args.term (ap placed_node c.in-Var.is ∙ node_var c.in-Var.k))) c.look_up.ensures

pub walk_node-returns-in-Unary : goal.walk_node-returns-in-Unary
walk_node-returns-in-Unary t c =
    along (λ z. IfOk c.walk_one.result (λ b. Keeps c.args.scope.now c.walk_one.new.scope (λ es. placed b.term ≡ walk_in c.args.rank c.args.level es z))) (sym (placed_as c.args.term (ap placed_node c.in-Unary.is ∙ node_unary c.in-Unary.op c.in-Unary.of))) c.walk_one.ensures

pub walk_node-returns-in-Binary : goal.walk_node-returns-in-Binary
walk_node-returns-in-Binary t c =
    along (λ z. IfOk c.walk_two.result (λ b. Keeps c.args.scope.now c.walk_two.new.scope (λ es. placed b.term ≡ walk_in c.args.rank c.args.level es z))) (sym (placed_as c.args.term (ap placed_node c.in-Binary.is ∙ node_binary c.in-Binary.op c.in-Binary.left c.in-Binary.right))) c.walk_two.ensures

pub walk_node-returns-in-If : goal.walk_node-returns-in-If
walk_node-returns-in-If t c =
    along (λ z. IfOk c.walk_choice.result (λ b. Keeps c.args.scope.now c.walk_choice.new.scope (λ es. placed b.term ≡ walk_in c.args.rank c.args.level es z))) (sym (placed_as c.args.term (ap placed_node c.in-If.is ∙ node_choose c.in-If.test c.in-If.yes c.in-If.no))) c.walk_choice.ensures

pub walk_node-returns-in-Field : goal.walk_node-returns-in-Field
walk_node-returns-in-Field t c =
    along (λ z. IfOk c.walk_field.result (λ b. Keeps c.args.scope.now c.walk_field.new.scope (λ es. placed b.term ≡ walk_in c.args.rank c.args.level es z))) (sym (placed_as c.args.term (ap placed_node c.in-Field.is ∙ node_field c.in-Field.of c.in-Field.label))) c.walk_field.ensures

pub walk_node-returns-in-Empty : goal.walk_node-returns-in-Empty
walk_node-returns-in-Empty t c =
    along (λ z. IfOk c.walk_one-in-Empty.result (λ b. Keeps c.args.scope.now c.walk_one-in-Empty.new.scope (λ es. placed b.term ≡ walk_in c.args.rank c.args.level es z))) (sym (placed_as c.args.term (ap placed_node c.in-Empty.is ∙ node_empty c.in-Empty.of))) c.walk_one-in-Empty.ensures

pub walk_node-returns-in-Count : goal.walk_node-returns-in-Count
walk_node-returns-in-Count t c =
    along (λ z. IfOk c.walk_one-in-Count.result (λ b. Keeps c.args.scope.now c.walk_one-in-Count.new.scope (λ es. placed b.term ≡ walk_in c.args.rank c.args.level es z))) (sym (placed_as c.args.term (ap placed_node c.in-Count.is ∙ node_count c.in-Count.of))) c.walk_one-in-Count.ensures

pub walk_node-returns-in-Sum : goal.walk_node-returns-in-Sum
walk_node-returns-in-Sum t c =
    along (λ z. IfOk c.walk_one-in-Sum.result (λ b. Keeps c.args.scope.now c.walk_one-in-Sum.new.scope (λ es. placed b.term ≡ walk_in c.args.rank c.args.level es z))) (sym (placed_as c.args.term (ap placed_node c.in-Sum.is ∙ node_sum c.in-Sum.of))) c.walk_one-in-Sum.ensures

pub walk_node-returns-in-Single : goal.walk_node-returns-in-Single
walk_node-returns-in-Single t c =
    along (λ z. IfOk c.walk_one-in-Single.result (λ b. Keeps c.args.scope.now c.walk_one-in-Single.new.scope (λ es. placed b.term ≡ walk_in c.args.rank c.args.level es z))) (sym (placed_as c.args.term (ap placed_node c.in-Single.is ∙ node_single c.in-Single.of))) c.walk_one-in-Single.ensures

pub walk_node-returns-in-Union : goal.walk_node-returns-in-Union
walk_node-returns-in-Union t c =
    along (λ z. IfOk c.walk_two-in-Union.result (λ b. Keeps c.args.scope.now c.walk_two-in-Union.new.scope (λ es. placed b.term ≡ walk_in c.args.rank c.args.level es z))) (sym (placed_as c.args.term (ap placed_node c.in-Union.is ∙ node_union c.in-Union.left c.in-Union.right))) c.walk_two-in-Union.ensures

pub walk_node-returns-in-For : goal.walk_node-returns-in-For
walk_node-returns-in-For t c =
    along (λ z. IfOk c.walk_for.result (λ b. Keeps c.args.scope.now c.walk_for.new.scope (λ es. placed b.term ≡ walk_in c.args.rank c.args.level es z))) (sym (placed_as c.args.term (ap placed_node c.in-For.is ∙ node_for c.in-For.source c.in-For.body))) c.walk_for.ensures

pub walk_node-returns-in-Guard : goal.walk_node-returns-in-Guard
walk_node-returns-in-Guard t c =
    along (λ z. IfOk c.walk_two-in-Guard.result (λ b. Keeps c.args.scope.now c.walk_two-in-Guard.new.scope (λ es. placed b.term ≡ walk_in c.args.rank c.args.level es z))) (sym (placed_as c.args.term (ap placed_node c.in-Guard.is ∙ node_guard c.in-Guard.test c.in-Guard.body))) c.walk_two-in-Guard.ensures

pub walk_node-returns-in-Bind : goal.walk_node-returns-in-Bind
walk_node-returns-in-Bind t c =
    along (λ z. IfOk c.walk_given.result (λ b. Keeps c.args.scope.now c.walk_given.new.scope (λ es. placed b.term ≡ walk_in c.args.rank c.args.level es z))) (sym (placed_as c.args.term (ap placed_node c.in-Bind.is ∙ node_bind c.in-Bind.value c.in-Bind.body))) c.walk_given.ensures
