use Rattle.std.proofs.Common.{ap, ◌∙◌, List, map}
use Rattle.std.proofs.lemmas.Result.{IfOk-weaker}
use Rattle.nq_ir.specs.RawForms.{RawBase, plus_all, raw_plain}
use Rattle.normalise.specs.Raw.{comp_part}
use Rattle.normalise.proofs.Sums.{sums_are}
use Rattle.normalise.proofs.Views.{body_plain}
use Rattle.normalise.proofs.totals.sum.Goals as goal

pub returns : goal.returns
returns c =
    IfOk-weaker c.new.result _ _
    (λ b e. e
    ∙ body_plain c.in_ok-all.all
    ∙ ap raw_plain (c.in_ok-all.ensures ∙ ap (λ (l : List RawBase). plus_all l) (c.in_ok-each_sum.ensures ∙ sums_are (map comp_part c.args.comps))))
    c.new.ensures
