use Rattle.std.proofs.Common.{◌≡◌}
use Rattle.generated_inputs.specs.Generated.{rows_below, employee_row}
use Rattle.generated_inputs.proofs.tables.employees.Given as goal

abbrev pub invariant-loop-row : goal.invariant-loop-row
invariant-loop-row l = l.rows ≡ rows_below (employee_row l.size) l.row
