use Rattle.std.proofs.Common.{rules, ◌≡◌, ◌+◌, ◌≤◌, ap, arith, map, length, sym, ◌∙◌}
use Rattle.std.proofs.lemmas.Result.{IfOk-weaker}
use Rattle.nq_ir.specs.RawForms.{raw_rec, raw_bag, up_body}
use Rattle.normalise.specs.Raw.{fields_of, comps_of, comp_part, fields_view, moved_body, raw_body}
use Rattle.normalise.proofs.Views.{body_rec, body_bag}
use Rattle.normalise.proofs.MovedBodies.{body_moved_on, body_same, body_unmoved}
use Rattle.normalise.proofs.Lists.{fields_up, comps_up, comp_made}
use Rattle.normalise.proofs.+move_body.Goals as goal

pub moved_body::body_under-returns-in_ok-fields-in-Rec : goal.moved_body::body_under-returns-in_ok-fields-in-Rec
moved_body::body_under-returns-in_ok-fields-in-Rec t c =
    let old = body_rec c.in-Rec.fields in
    let new = body_rec c.in_ok-fields-in-Rec.fields in
    let inner = fields_up c.args.more c.args.from (fields_view c.in-Rec.fields) in
    rw (c.in-Rec.is, old, new, inner) (ap (λ l. raw_rec (fields_of l)) (rw c.as_slice.ensures at c.in_ok-fields-in-Rec.ensures))

pub moved_body::body_under-returns-in_ok-comps-in-Bag : goal.moved_body::body_under-returns-in_ok-comps-in-Bag
moved_body::body_under-returns-in_ok-comps-in-Bag t c =
    let old = body_bag c.in-Bag.comps in
    let new = body_bag c.in_ok-comps-in-Bag.comps in
    let inner = comps_up c.args.more c.args.from (map comp_part c.in-Bag.comps) in
    rw (c.in-Bag.is, old, new, inner) (ap (λ l. raw_bag (comps_of l)) (rw c.as_slice-in-Bag.ensures at c.in_ok-comps-in-Bag.ensures))

pub moved_body::comp_under-returns : goal.moved_body::comp_under-returns
moved_body::comp_under-returns t c =
    let x = c.args.comp.now in
    let e : c.in_ok-inner.inner ≡ length x.tables + c.args.from = search rules in
    let f = rw c.as_slice-2.ensures at c.in_ok-conds.ensures in
    let g = c.in_ok-tables.ensures ∙ c.as_slice.ensures in
    comp_made c.args.more c.args.from c.in_ok-inner.inner x c.in_ok-tables.tables c.in_ok-conds.conds _ c.in_ok-body.body e g f c.in_ok-body.ensures

pub raw::MovedBody::under-returns-then-more-eq0 : goal.raw::MovedBody::under-returns-then-more-eq0
raw::MovedBody::under-returns-then-more-eq0 t c =
    let here = moved_body c.args.self.now in
    IfOk-weaker c.shared.result _ _ (λ m e. e ∙ sym (ap (λ k. up_body k c.args.from here) c.if-more-eq0.true ∙ body_same here c.args.from)) c.shared.ensures

pub raw::MovedBody::under-returns-then-self-eq0 : goal.raw::MovedBody::under-returns-then-self-eq0
raw::MovedBody::under-returns-then-self-eq0 t c =
    IfOk-weaker c.moved.result _ _ (λ m e. e ∙ ap (up_body c.args.more c.args.from) (sym (body_unmoved c.args.self.now c.if-self-eq0.true))) c.moved.ensures

pub raw::MovedBody::under-returns-in_ok-plus : goal.raw::MovedBody::under-returns-in_ok-plus
raw::MovedBody::under-returns-in_ok-plus t c =
    let m = c.args.self.now in
    let inside : c.args.from ≤ m.from + m.more = omega arith in
    IfOk-weaker c.moved-then-from-self.result _ _
    (λ r e. e ∙ ap (λ k. up_body k m.from (raw_body m.body.value)) c.in_ok-plus.ensures ∙ body_moved_on m c.args.more c.args.from c.if-self-from.true inside)
    c.moved-then-from-self.ensures
