use Rattle.std.proofs.Common.{◌+◌, ◌≤◌, ap, sym, ◌∙◌, arith}
use Rattle.std.proofs.lemmas.Result.{IfOk-weaker}
use Rattle.nq_ir.specs.RawForms.{up_base}
use Rattle.normalise.specs.Raw.{moved_base, raw_base}
use Rattle.normalise.proofs.Moves.{base_moved_on, base_same, base_unmoved}
use Rattle.normalise.proofs.raw.MovedBase.under.Goals as goal

pub returns-then-more-eq0 : goal.returns-then-more-eq0
returns-then-more-eq0 c =
    let here = moved_base c.args.self.now in
    IfOk-weaker c.shared.result _ _ (λ m e. e ∙ sym (ap (λ k. up_base k c.args.from here) c.if-more-eq0.true ∙ base_same here c.args.from)) c.shared.ensures

pub returns-then-self-eq0 : goal.returns-then-self-eq0
returns-then-self-eq0 c =
    IfOk-weaker c.moved.result _ _ (λ m e. e ∙ ap (up_base c.args.more c.args.from) (sym (base_unmoved c.args.self.now c.if-self-eq0.true))) c.moved.ensures

pub returns-in_ok-plus : goal.returns-in_ok-plus
returns-in_ok-plus c =
    let m = c.args.self.now in
    let inside : c.args.from ≤ m.from + m.more = omega arith in
    IfOk-weaker c.moved-then-from-self.result _ _
    (λ r e. e ∙ ap (λ k. up_base k m.from (raw_base m.base.value)) c.in_ok-plus.ensures ∙ base_moved_on m c.args.more c.args.from c.if-self-from.true inside)
    c.moved-then-from-self.ensures
