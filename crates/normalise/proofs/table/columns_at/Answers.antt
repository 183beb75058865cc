use Rattle.std.proofs.Common.{ap, ◌∙◌}
use Rattle.std.proofs.lemmas.Result.{IfOk-weaker}
use Rattle.nq_model.specs.Orders.{by_label}
use Rattle.normalise.specs.Raw.{fields_of}
use Rattle.normalise.proofs.FieldFacts.{columns_are}
use Rattle.normalise.proofs.table.columns_at.Goals as goal

pub returns : goal.returns
returns c =
    IfOk-weaker c.in_label_order.result _ _ (λ fs e. ap fields_of (e ∙ ap by_label c.in_ok-each_column.ensures) ∙ columns_are c.args.columns.now) c.in_label_order.ensures
