use Rattle.std.proofs.Common.{◌≡◌, ap, arith}
use Rattle.diagnostics.specs.Columns.{columns, whole_within}
use Rattle.diagnostics.proofs.ColumnSteps.{no_columns}
use Rattle.diagnostics.proofs.columns.whole_within.Goals as goal

pub returns-clause-is : goal.returns-clause-is
returns-clause-is c =
    let none : whole_within c.loop-rest.left (columns c.loop-rest.rest.now) ≡ 0 =
    ap (whole_within c.loop-rest.left) (no_columns c.loop-rest.rest.now (omega arith)) in
    omega (arith, none, c.loop-rest.invariant.0)
