use Rattle.natural_index.specs.Trees.{index_exprs}
use Rattle.natural_index.proofs.Pushed.{plain_on_ok}
use Rattle.natural_index.proofs.exprs.+shapes.Goals as goal

pub push_shape-returns-in_ok-base_expr-in-Plain : goal.push_shape-returns-in_ok-base_expr-in-Plain
push_shape-returns-in_ok-base_expr-in-Plain t c =
    plain_on_ok c.push.result
    (index_exprs c.args.index.now.layout c.args.index.now.tag c.args.index.now.keys.now)
    c.args.all.now c.push.new.self c.in_ok-base_expr-in-Plain.field-0 c.in-Plain.base
    c.args.shape.now c.in-Plain.is c.push.ensures.ok c.in_ok-base_expr-in-Plain.ensures
