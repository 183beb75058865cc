use Rattle.std.proofs.Common.{◌≡◌, length, ap, arith}
use Rattle.diagnostics.specs.Columns.{columns}
use Rattle.diagnostics.proofs.ColumnSteps.{no_columns}
use Rattle.diagnostics.proofs.columns.count_columns.Goals as goal

pub returns : goal.returns
returns c =
    let none : length (columns c.loop-rest.rest.now) ≡ 0
    = ap length (no_columns c.loop-rest.rest.now (omega arith)) in
    omega (arith, none, c.loop-rest.invariant.0)
