use Rattle.std.proofs.Common.{sym, ◌∙◌, ◌-◌, arith}
use Rattle.diagnostics.proofs.ColumnSteps.{none_shown, show_one}
use Rattle.diagnostics.proofs.columns.put_columns.Goals as goal

pub returns-then-rest-eq0 : goal.returns-then-rest-eq0
returns-then-rest-eq0 c =
    sym (none_shown c.loop-at.text c.loop-at.rest.now (c.args.count - c.loop-at._at) (omega arith))
    ∙ c.loop-at.invariant

pub loop-at-preserved : goal.loop-at-preserved
loop-at-preserved c =
    show_one c.loop-at.text c.put_column.new.text c.loop-at.rest.now c.split_column.result.0.now
    c.split_column.result.1.now c.args.count c.loop-at._at
    (omega arith) c.split_column.ensures.columns c.in_ok-put_column.ensures
    ∙ c.loop-at.invariant
