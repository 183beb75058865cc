use Rattle.std.proofs.Common.{arith, map, take_all, ◌∙◌, ap}
use Rattle.sql_scope.proofs.Naming.{types_read}
use Rattle.sql_scope.proofs.names.Names+ColumnType.types.Goals as goal

pub returns : goal.returns
returns c =
    c.loop-column.invariant ∙ ap (map (λ x. x.1)) (take_all c.loop-column.column-index c.as_slice-columns.result.now (omega (arith, c.loop-column-test.false)))
    ∙ types_read c.as_slice-columns.result.now c.self.inside.listed c.args.self.now c.as_slice-columns.ensures c.self.view_is
