use Rattle.std.proofs.Common.{Some, ap, ◌∙◌, map, false}
use Rattle.nq_model.specs.Types.{type_tree}
use Rattle.sql_profile.specs.declared.tree.Expr.{roll-Expr}
use Rattle.sql_profile.specs.declared.tree.ExprNode.TheVariants as node
use Rattle.sql_profile.specs.Trees.{bare_source, expr_tree, keep_if}
use Rattle.flatten.proofs.Built.{bool_built}
use Rattle.natural_index.proofs.Made.{empty_made}
use Rattle.natural_index.proofs.select.empty_select.Goals as goal

pub returns : goal.returns
returns c =
    empty_made c.in_ok-items.items c.new.result
    (Some (roll-Expr (record { place = 0; node = node.Bool false })))
    c.args.outer c.args.inner (type_tree c.args.element.now)
    (expr_tree c.in_ok-number.field-0) (map expr_tree c.in_ok-group.field-0)
    (map expr_tree c.in_ok-group-2.field-0) (map expr_tree c.in_ok-group-3.field-0)
    (map expr_tree c.in_ok-zeros.field-0) c.as_slice.result.now
    c.in_ok-items.ensures (ap (map bare_source) c.new.ensures) (ap keep_if (bool_built 0 false))
    c.in_ok-number.ensures c.in_ok-group.ensures c.in_ok-group-2.ensures c.in_ok-group-3.ensures
    c.in_ok-zeros.ensures
    (c.as_slice.ensures ∙ c.in_ok-columns.ensures)
