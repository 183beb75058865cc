use Rattle.std.proofs.Common.{sym, ◌∙◌, ◌-◌, arith}
use Rattle.diagnostics.proofs.ColumnSteps.{none_left, skip_one}
use Rattle.diagnostics.proofs.columns.skip_columns.Goals as goal

pub returns-then-rest-eq0 : goal.returns-then-rest-eq0
returns-then-rest-eq0 c =
    sym (none_left c.loop-at.rest.now (c.args.count - c.loop-at._at) (omega arith))
    ∙ c.loop-at.invariant

pub loop-at-preserved : goal.loop-at-preserved
loop-at-preserved c =
    sym (skip_one c.loop-at.rest.now c.split_column.result.0.now c.split_column.result.1.now
    c.args.count c.loop-at._at (omega arith) c.split_column.ensures.columns)
    ∙ c.loop-at.invariant
