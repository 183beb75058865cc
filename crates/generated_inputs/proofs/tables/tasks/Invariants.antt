use Rattle.std.proofs.Common.{◌≡◌}
use Rattle.generated_inputs.specs.Generated.{rows_below, task_row}
use Rattle.generated_inputs.proofs.tables.tasks.Given as goal

abbrev pub invariant-loop-row : goal.invariant-loop-row
invariant-loop-row l = l.rows ≡ rows_below (task_row l.size) l.row
