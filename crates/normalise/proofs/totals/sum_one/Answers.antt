use Rattle.std.proofs.Common.{ap, ap₂, sym, ◌∙◌}
use Rattle.std.proofs.lemmas.Result.{IfOk-weaker}
use Rattle.nq_model.specs.Totals.{SumOf}
use Rattle.nq_ir.specs.RawForms.{RawBase, raw_base_in, raw_total}
use Rattle.normalise.specs.Raw.{CompPart, TestPart}
use Rattle.normalise.proofs.Views.{base_sum, comp_is}
use Rattle.normalise.proofs.totals.sum_one.Goals as goal

pub returns : goal.returns
returns c =
    let x = c.args.comp in
    IfOk-weaker c.new.result _ _
    (λ b e. e
    ∙ base_sum c.test_in-over.result c.in_ok-value.value
    ∙ ap₂ (λ (p : TestPart) (v : RawBase). raw_total SumOf p.tables p.conds v) c.test_in-over.ensures (c.in_ok-value.ensures ∙ sym (ap (λ (p : CompPart). raw_base_in p.body) (comp_is x))))
    c.new.ensures
